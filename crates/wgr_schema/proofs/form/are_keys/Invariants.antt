use Rattle.std.proofs.Common.{◌≡◌, map, take}
use Rattle.wgr_schema.proofs.form.are_keys.Given as goal

abbrev pub invariant-loop-at : goal.invariant-loop-at
invariant-loop-at l = take l.at l.keys ≡ map (λ p. p.now) (take l.at l.forms)
