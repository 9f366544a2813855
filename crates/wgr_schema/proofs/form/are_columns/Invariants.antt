use Rattle.std.proofs.Common.{◌≡◌, map, take}
use Rattle.wgr_schema.specs.Forms.{column_as}
use Rattle.wgr_schema.proofs.form.are_columns.Given as goal

abbrev pub invariant-loop-at : goal.invariant-loop-at
invariant-loop-at l = take l.at l.columns ≡ map (column_as) (take l.at l.forms)
