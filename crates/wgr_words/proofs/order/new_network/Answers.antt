use Rattle.std.proofs.Common.{[]}
use Rattle.wgr_words.specs.Asked.{NetworkAdd, network_asked}
use Rattle.wgr_text.specs.KeyText.{SpellsKey}
use Rattle.wgr_peers.specs.Host.{IsHostText}
use Rattle.wgr_words.specs.declared.field.WordField.TheVariants as of
use Rattle.wgr_words.specs.Order.{IsDraftFault}
use Rattle.wgr_words.specs.Words.{SpellsCapacity, SpellsPlace, SpellsPortNumber}
use Rattle.wgr_words.proofs.OrderLemmas.{draft_fault, from_capacity, from_host, from_key, from_name, from_pool, from_port, here, later, passed}
use Rattle.wgr_words.proofs.order.new_network.Goals as goal

pub returns-in_err-address-clause-err : goal.returns-in_err-address-clause-err
returns-in_err-address-clause-err c =
    let words = network_asked c.args.words.now in
    passed _ _ (IsDraftFault (NetworkAdd words)) c.from_residual-in_err-address.ensures.1 (draft_fault (NetworkAdd words) _ (λ token.
    later of.Tenant words.tenant (from_name words) _ (c.in_ok-tenant.tenant, c.in_ok-tenant.ensures) (
    later of.Name words.name (from_pool words) _ (c.in_ok-name.name, c.in_ok-name.ensures) (
    here (SpellsPlace words.pool) of.Pool words.pool (from_host words) _ (λ is. is) c.in_err-address.ensures))))

pub returns-in_err-host-clause-err : goal.returns-in_err-host-clause-err
returns-in_err-host-clause-err c =
    let words = network_asked c.args.words.now in
    passed _ _ (IsDraftFault (NetworkAdd words)) c.from_residual-in_err-host.ensures.1 (draft_fault (NetworkAdd words) _ (λ token.
    later of.Tenant words.tenant (from_name words) _ (c.in_ok-tenant.tenant, c.in_ok-tenant.ensures) (
    later of.Name words.name (from_pool words) _ (c.in_ok-name.name, c.in_ok-name.ensures) (
    later of.Pool words.pool (from_host words) _ ((c.in_ok-address.address, c.in_ok-address.length), c.in_ok-address.ensures) (
    here (IsHostText words.host) of.Host words.host (from_port words) _ (λ is. is) c.in_err-host.ensures)))))

pub returns-in_err-port-clause-err : goal.returns-in_err-port-clause-err
returns-in_err-port-clause-err c =
    let words = network_asked c.args.words.now in
    passed _ _ (IsDraftFault (NetworkAdd words)) c.from_residual-in_err-port.ensures.1 (draft_fault (NetworkAdd words) _ (λ token.
    later of.Tenant words.tenant (from_name words) _ (c.in_ok-tenant.tenant, c.in_ok-tenant.ensures) (
    later of.Name words.name (from_pool words) _ (c.in_ok-name.name, c.in_ok-name.ensures) (
    later of.Pool words.pool (from_host words) _ ((c.in_ok-address.address, c.in_ok-address.length), c.in_ok-address.ensures) (
    later of.Host words.host (from_port words) _ (c.in_ok-host.host, c.in_ok-host.ensures) (
    here (SpellsPortNumber words.port) of.Port words.port (from_key words) _ (λ is. is) c.in_err-port.ensures))))))

pub returns-in_err-server-clause-err : goal.returns-in_err-server-clause-err
returns-in_err-server-clause-err c =
    let words = network_asked c.args.words.now in
    passed _ _ (IsDraftFault (NetworkAdd words)) c.from_residual-in_err-server.ensures.1 (draft_fault (NetworkAdd words) _ (λ token.
    later of.Tenant words.tenant (from_name words) _ (c.in_ok-tenant.tenant, c.in_ok-tenant.ensures) (
    later of.Name words.name (from_pool words) _ (c.in_ok-name.name, c.in_ok-name.ensures) (
    later of.Pool words.pool (from_host words) _ ((c.in_ok-address.address, c.in_ok-address.length), c.in_ok-address.ensures) (
    later of.Host words.host (from_port words) _ (c.in_ok-host.host, c.in_ok-host.ensures) (
    later of.Port words.port (from_key words) _ (c.in_ok-port.port, c.in_ok-port.ensures) (
    here (SpellsKey words.key) of.Key words.key (from_capacity words) _ (λ is. is) c.in_err-server.ensures)))))))

pub returns-in_err-capacity-clause-err : goal.returns-in_err-capacity-clause-err
returns-in_err-capacity-clause-err c =
    let words = network_asked c.args.words.now in
    passed _ _ (IsDraftFault (NetworkAdd words)) c.from_residual-in_err-capacity.ensures.1 (draft_fault (NetworkAdd words) _ (λ token.
    later of.Tenant words.tenant (from_name words) _ (c.in_ok-tenant.tenant, c.in_ok-tenant.ensures) (
    later of.Name words.name (from_pool words) _ (c.in_ok-name.name, c.in_ok-name.ensures) (
    later of.Pool words.pool (from_host words) _ ((c.in_ok-address.address, c.in_ok-address.length), c.in_ok-address.ensures) (
    later of.Host words.host (from_port words) _ (c.in_ok-host.host, c.in_ok-host.ensures) (
    later of.Port words.port (from_key words) _ (c.in_ok-port.port, c.in_ok-port.ensures) (
    later of.Key words.key (from_capacity words) _ (c.in_ok-server.server, c.in_ok-server.ensures) (
    here (SpellsCapacity words.capacity) of.Capacity words.capacity [] _ (λ is. is) c.in_err-capacity.ensures))))))))
