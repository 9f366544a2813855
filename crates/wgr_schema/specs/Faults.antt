-- Faults of statements as reasons why no register was made or opened.
use Rattle.std.specs.Prelude.{◌≡◌}
use Rattle.wgr_sql.specs.declared.fault.Fault.{Fault}
use Rattle.wgr_sql.specs.declared.fault.Fault.TheVariants as fault
use Rattle.wgr_schema.specs.declared.fault.RegisterFault.{RegisterFault}
use Rattle.wgr_schema.specs.declared.fault.RegisterFault.TheVariants as register_fault

abbrev pub as_register_fault : Fault → RegisterFault
as_register_fault fault.NoMemory = register_fault.NoMemory
as_register_fault (fault.Store cause) = register_fault.Store cause

-- if the reason is that a statement failed, this holds for its fault
abbrev pub IfStatementFails : (Fault → Type 0) → RegisterFault → Type 0
IfStatementFails P reason = (why : Fault) → reason ≡ as_register_fault why → P why
