-- The remaining parts of a text.
use Rattle.std.specs.Prelude.{ℕ, List, [], Option, Some, None}
use Rattle.std.specs.Borrow.{Bor}
use Rattle.wgr_dump.specs.declared.remaining_parts.RemainingParts.{RemainingParts}
use Rattle.wgr_dump.specs.Fields.{parts_between}

abbrev pub parts_of_rest : ℕ → Option (Bor (List ℕ)) → List (List ℕ)
parts_of_rest separator None = []
parts_of_rest separator (Some rest) = parts_between separator rest.now

abbrev pub left : RemainingParts → List (List ℕ)
left p = parts_of_rest p.separator p.rest
