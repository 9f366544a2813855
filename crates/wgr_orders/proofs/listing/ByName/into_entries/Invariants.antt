use Rattle.std.proofs.Common.{◌≡◌, ◌++◌}
use Rattle.wgr_orders.proofs.listing.ByName.into_entries.Given as goal

-- the entries so far, and then those that are left
abbrev pub invariant-loop-key : goal.invariant-loop-key
invariant-loop-key l = l.entries.items ++ l.key-iterator ≡ l.fn.self
