-- Readings one after another, of which one reads a table of the third version.
use Rattle.std.proofs.Common.{◌≡◌}
use Rattle.sqlite.specs.Held.{Held, state}
use Rattle.sqlite.specs.Store.{Ghosts}
use Rattle.wgr_sql.proofs.SurvivesLemmas.{survives_next}
use Rattle.wgr_entries.specs.ThirdVersion.{OnlyReadsThird}
use Rattle.wgr_tables.specs.Standing.{OnlyReads}

-- what keeps any register keeps one of the third version
pub reads_also : {S : Type 0} {g : Ghosts S} {old new : Held S} → OnlyReads g old new → OnlyReadsThird g old new
reads_also reads = record { idle = reads.idle; clean = reads.clean; stands = λ db pending stood third. reads.stands db pending stood; survives = reads.survives }

pub third_next : {S : Type 0} {g : Ghosts S} {old mid new : Held S} → OnlyReadsThird g old mid → OnlyReadsThird g mid new → OnlyReadsThird g old new
third_next {g = g} {old = old} {mid = mid} {new = new} first next = record {
  idle = next.idle;
  clean = λ clean. first.clean (next.clean clean);
  stands = λ db pending stood third. next.stands db pending (first.stands db pending stood third) third;
  survives = survives_next (state g old) (state g mid) (state g new) first.survives next.survives;
}
