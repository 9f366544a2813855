-- That rows exist: the statements about rows aren't vacuous.
use Rattle.std.specs.Prelude.{map, []}
use Rattle.std.specs.List.{flat_map}
use Rattle.wgr_model.specs.Register.{Register}
use Rattle.wgr_model.specs.Consistent.{IsConsistent}
use Rattle.wgr_model.specs.Steps.{Event, Answer, IsProper, IsStep}
use Rattle.wgr_model.specs.Rows.{Tables, AreRowsOf, allowed_rows, third_version, network_row, peer_rows, register_of}
use Rattle.wgr_model.specs.RowLaws.{AreConsistent, IsRowStep}

-- the rows of a register, entry by entry
abbrev pub rows_of : Register → Tables
rows_of r = record { meta = third_version; tenants = r.tenants; tokens = r.tokens; networks = map network_row r.networks; seconds = []; readers = r.readers; peers = flat_map peer_rows r.networks; allowed = flat_map allowed_rows r.networks }

-- every consistent register has rows
abbrev pub RowsExist : Type 0
RowsExist = (r : Register) → IsConsistent r → AreRowsOf r (rows_of r)

-- and the register after a step on the one that rows represent has rows too
abbrev pub StepsHaveRows : Type 0
StepsHaveRows = (t : Tables) (e : Event) (answer : Answer) (s : Register) → AreConsistent t → IsProper e → IsStep (register_of t) e answer s → IsRowStep t e answer (rows_of s)

-- so on consistent rows every event has a step
abbrev pub EveryEventHasARowStep : Type 0
EveryEventHasARowStep = (t : Tables) (e : Event) → AreConsistent t → IsProper e → (answer : Answer) × (u : Tables) × IsRowStep t e answer u
