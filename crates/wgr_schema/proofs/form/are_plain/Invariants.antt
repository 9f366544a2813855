use Rattle.std.proofs.Common.{◌≡◌, map, take}
use Rattle.sqlite_value.specs.Keys.{plain}
use Rattle.wgr_schema.proofs.form.are_plain.Given as goal

abbrev pub invariant-loop-at : goal.invariant-loop-at
invariant-loop-at l = take l.at l.orders ≡ map (λ _. plain) (take l.at l.forms)
