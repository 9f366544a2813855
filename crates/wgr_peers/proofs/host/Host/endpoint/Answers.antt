use Rattle.std.proofs.Common.{◌≡◌, true, false, append_assoc, sym, ap, ◌∙◌}
use Rattle.std.specs.Prelude.{◌==◌}
use Rattle.std.specs.List.{list_any}
use Rattle.std.proofs.lemmas.Result.{IfOk-weaker}
use Rattle.wgr_peers.proofs.host.Host.endpoint.Goals as goal

pub returns-then-has_colon : goal.returns-then-has_colon
returns-then-has_colon c =
    let colon : list_any (λ b. b == 58) c.args.self.now ≡ true =
    ap (list_any (λ b. b == 58)) (sym (c.as_bytes.ensures.value ∙ c.as_str-host.ensures.value)) ∙ sym c.has_colon.ensures ∙ c.if-has_colon.true in
    IfOk-weaker c.format.result _ _ (λ s h. h ∙ rw (c.as_str-host.ensures.value, c.number-port.ensures.value, colon) (simp append_assoc)) c.format.ensures.ok

pub returns-else-has_colon : goal.returns-else-has_colon
returns-else-has_colon c =
    let none : list_any (λ b. b == 58) c.args.self.now ≡ false =
    ap (list_any (λ b. b == 58)) (sym (c.as_bytes.ensures.value ∙ c.as_str-host.ensures.value)) ∙ sym c.has_colon.ensures ∙ c.if-has_colon.false in
    IfOk-weaker c.format-else-has_colon.result _ _ (λ s h. h ∙ rw (c.as_str-host.ensures.value, c.number-port.ensures.value, none) (simp append_assoc)) c.format-else-has_colon.ensures.ok
