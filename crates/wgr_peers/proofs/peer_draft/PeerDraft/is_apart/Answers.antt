use Rattle.std.proofs.Common.{◌≡◌, false, true, sym, ap, ◌∙◌}
use Rattle.std.specs.Prelude.{is_some}
use Rattle.wgr_peers.proofs.TestLemmas.{apart_iff, not_apart}
use Rattle.wgr_peers.proofs.peer_draft.PeerDraft.is_apart.Goals as goal

pub returns-then-is_none : goal.returns-then-is_none
returns-then-is_none c =
    apart_iff c.args.self.now c.args.peer.now c.owns_any.result (sym (ap is_some c.key_holder.ensures) ∙ c.if-is_none.ensures) c.owns_any.ensures

pub returns-else-is_none : goal.returns-else-is_none
returns-else-is_none c = (
  (λ h. let bad : true ≡ false = sym h ∙ c.if-is_none.false in cc),
  (λ all. absurd (not_apart c.args.self.now c.args.peer.now (sym (ap is_some c.key_holder.ensures) ∙ c.if-is_none.ensures) all)),
)
