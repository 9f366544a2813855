-- Which faults of statements are reasons why no register was made or found.
use Rattle.std.proofs.Common.{◌≡◌, refl, sym, ap, subst, ◌∙◌}
use Rattle.wgr_sql.specs.declared.fault.Fault.{Fault}
use Rattle.wgr_sql.specs.declared.fault.Fault.TheVariants as fault
use Rattle.wgr_schema.specs.declared.fault.RegisterFault.{RegisterFault}
use Rattle.wgr_schema.specs.declared.fault.RegisterFault.TheVariants.{EarlierVersion, NotARegister, NotEmpty, NotGood}
use Rattle.wgr_schema.specs.declared.fault.RegisterFault.TheVariants as register_fault
use Rattle.wgr_schema.specs.Faults.{IfStatementFails, as_register_fault}

same_fault : (f h : Fault) → as_register_fault f ≡ as_register_fault h → f ≡ h
same_fault fault.NoMemory fault.NoMemory is = refl
same_fault fault.NoMemory (fault.Store cause) is = absurd (let e = is in cc)
same_fault (fault.Store cause) fault.NoMemory is = absurd (let e = is in cc)
same_fault (fault.Store cause) (fault.Store other) is = ap fault.Store (let e : register_fault.Store cause ≡ register_fault.Store other = is in cc)

module _ (P : Fault → Type 0) where
  pub told_as : (reason : RegisterFault) (f : Fault) → reason ≡ as_register_fault f → P f → IfStatementFails P reason
  told_as reason f is h why same = subst P (same_fault f why (sym is ∙ same)) h

  pub not_a_register : IfStatementFails P NotARegister
  not_a_register fault.NoMemory same = absurd (let e = same in cc)
  not_a_register (fault.Store cause) same = absurd (let e = same in cc)

  pub not_empty : IfStatementFails P NotEmpty
  not_empty fault.NoMemory same = absurd (let e = same in cc)
  not_empty (fault.Store cause) same = absurd (let e = same in cc)

  pub not_good : IfStatementFails P NotGood
  not_good fault.NoMemory same = absurd (let e = same in cc)
  not_good (fault.Store cause) same = absurd (let e = same in cc)

  pub earlier_version : IfStatementFails P EarlierVersion
  earlier_version fault.NoMemory same = absurd (let e = same in cc)
  earlier_version (fault.Store cause) same = absurd (let e = same in cc)
