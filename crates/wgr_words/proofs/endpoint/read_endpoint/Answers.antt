use Rattle.wgr_words.proofs.EndpointLemmas.{host_is, port_is}
use Rattle.wgr_words.proofs.endpoint.read_endpoint.Goals as goal

pub returns-in_err-address-clause-none : goal.returns-in_err-address-clause-none
returns-in_err-address-clause-none c =
    let found = c.in_ok-host.ensures.found in
    rw c.from_residual-in_err-address.ensures (λ e is. c.in_err-address.ensures.none e.0 (host_is c.args.text.now e is c.in_ok-host.host.now c.in_ok-host.digits.now found.0 found.1))

pub returns-in_err-port-clause-none : goal.returns-in_err-port-clause-none
returns-in_err-port-clause-none c =
    let found = c.in_ok-host.ensures.found in
    rw c.from_residual-in_err-port.ensures (λ e is. c.in_err-port.ensures.none e.1 (port_is c.args.text.now e is c.in_ok-host.host.now c.in_ok-host.digits.now found.0 found.1))
