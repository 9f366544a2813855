-- What a plan over a reader and a writer answers, and what it leaves.
use Rattle.std.specs.Prelude.{ℕ, ◌≡◌, ◌<◌, true, Bool, List, length, take, Option, Some, None, Result, Ok, Err}
use Rattle.std.specs.Io.KnownBytes.{Appends, Consumes, IsAtEnd}
use Rattle.wgr_text.specs.Prefix.{PrefixValue}
use Rattle.wgr_plan.specs.declared.planner.PlanFault.{PlanFault}
use Rattle.wgr_plan.specs.declared.planner.PlanFault.TheVariants.{Refused, NoMemory, Read, Write}
use Rattle.wgr_plan.specs.Plan.{Plan, IsPlanOf}

-- all of the reader's bytes were read, and this is their plan
pub record Reads (pool : PrefixValue) (input input' : Option (List ℕ)) (p : Plan) : Type 0 where
  pub text : List ℕ
  pub taken : Consumes input input' text
  pub ended : IsAtEnd input'
  pub plan : IsPlanOf pool text p

-- the streams before and after: the reader's bytes to come, whether a read has failed, the writer's
-- bytes, and whether a write has failed
pub record Streams : Type 0 where
  pub input : Option (List ℕ)
  pub read_failed : Bool
  pub written : Option (List ℕ)
  pub write_failed : Bool

-- no read or write has failed that had not failed before
abbrev pub AreSound : Streams → Streams → Type 0
AreSound old new = (new.read_failed ≡ old.read_failed) × (new.write_failed ≡ old.write_failed)

-- the lines before the refused one are written, all lines if none is; an error of memory or of
-- the reader leaves the writer as it was; an error of the writer reports how many bytes it took, and
-- each error of a device is marked only at that device
abbrev pub HasPlanned : PrefixValue → Streams → Streams → Result (Unit {0}) PlanFault → Type 0
HasPlanned pool old new (Ok done) = (p : Plan) × Reads pool old.input new.input p × Appends old.written new.written p.printed × (p.refused ≡ None) × AreSound old new
HasPlanned pool old new (Err (Refused line why)) = (p : Plan) × Reads pool old.input new.input p × Appends old.written new.written p.printed × (p.refused ≡ Some (line, why)) × AreSound old new
HasPlanned pool old new (Err NoMemory) = (new.written ≡ old.written) × AreSound old new
HasPlanned pool old new (Err Read) = (new.read_failed ≡ true) × (new.written ≡ old.written) × (new.write_failed ≡ old.write_failed)
HasPlanned pool old new (Err (Write sent)) = (p : Plan) × Reads pool old.input new.input p × Appends old.written new.written (take sent p.printed) × (sent < length p.printed) × (new.write_failed ≡ true) × (new.read_failed ≡ old.read_failed)
