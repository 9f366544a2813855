use Rattle.std.proofs.Common.{◌≡◌, true, false, ◌&&◌, ◌||◌, refl, sym, ap, ◌∙◌}
use Rattle.wgr_text.specs.Prefix.{AddrValue}
use Rattle.wgr_pool.specs.PrefixTests.{same_prefix, full}
use Rattle.wgr_peers.specs.Peers.{is_own}
use Rattle.wgr_core.specs.Network.{server_address}
use Rattle.wgr_pool.proofs.Bools.{and_false_last}
use Rattle.wgr_core.proofs.PartsLemmas.{address_is}
use Rattle.wgr_core.proofs.routes.is_address.Goals as goal
use Rattle.wgr_core.proofs.routes.is_address.Goals.{then-is_owned, else-is_owned}

pub returns-else-is_same : goal.returns-else-is_same
returns-else-is_same c = λ n alone same_pool owned.
    let p = c.args.prefix.now in
    let server = server_address c.args.pool.now in
    let at_full = λ (a : AddrValue). same_prefix p (full a) in
    let here : c.is_same-else-is_same.result ≡ at_full server = c.is_same-else-is_same.ensures ∙ ap (same_prefix p) c.full-else-is_same.ensures ∙ ap at_full c.server.ensures.value in
    let no_peer : (at_full p.address && is_own n.peers p.address) ≡ false = elim c.if-is_owned.branch [
      | then-is_owned w ↦ ap (λ b. b && is_own n.peers p.address) (sym (ap at_full w.address.ensures.value) ∙ sym (ap (same_prefix p) w.full.ensures) ∙ sym w.is_same.ensures ∙ sym w.value-is ∙ c.if-is_same.false)
      | else-is_owned w ↦ and_false_last (at_full p.address) (is_own n.peers p.address) (owned ∙ w.if-is_owned.false)
    ] in
    here ∙ ap (λ b. b || at_full server) (sym no_peer) ∙ address_is n c.args.pool.now n.peers p alone same_pool refl

pub returns-then-is_same : goal.returns-then-is_same
returns-then-is_same c = λ n alone same_pool owned.
    let p = c.args.prefix.now in
    let server = server_address c.args.pool.now in
    let at_full = λ (a : AddrValue). same_prefix p (full a) in
    let peer : (at_full p.address && is_own n.peers p.address) ≡ true = elim c.if-is_owned.branch [
      | then-is_owned w ↦
          ap (λ b. b && is_own n.peers p.address) (sym (ap at_full w.address.ensures.value) ∙ sym (ap (same_prefix p) w.full.ensures) ∙ sym w.is_same.ensures ∙ sym w.value-is ∙ c.if-is_same.true)
          ∙ owned ∙ w.if-is_owned.true
      | else-is_owned w ↦ let bad : false ≡ true = sym w.if-is_owned.false ∙ sym w.value-is ∙ c.if-is_same.true in cc
    ] in
    c.if-is_same.true ∙ sym (ap (λ b. b || at_full server) peer) ∙ address_is n c.args.pool.now n.peers p alone same_pool refl
