-- The names of the reasons why a line gets no row, as they are printed.
use Rattle.std.specs.Prelude.{ℕ, List, codes}
use Rattle.wgr_core.specs.RefusalNames.{refusal_name}
use Rattle.wgr_plan.specs.declared.row_fault.RowFault.{RowFault}
use Rattle.wgr_plan.specs.declared.row_fault.RowFault.TheVariants as fault

abbrev pub row_fault_name : RowFault → List ℕ
row_fault_name fault.NoKey = codes "bad_field"
row_fault_name (fault.Refused refused) = refusal_name refused.why
