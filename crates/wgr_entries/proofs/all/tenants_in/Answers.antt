use Rattle.std.proofs.Common.{◌≡◌}
use Rattle.wgr_sql.specs.Faults.{IsStore}
use Rattle.wgr_sql.proofs.CauseLemmas.{handed}
use Rattle.wgr_columns.specs.Stored.{stored_tenant}
use Rattle.wgr_model.specs.Consistent.{IsTenant}
use Rattle.wgr_entries.specs.Kept.{AreOf}
use Rattle.wgr_entries.proofs.KeptLemmas.{has_at}
use Rattle.wgr_entries.proofs.all.tenants_in.Goals as goal

pub returns-in_err-tenant-clause-only : goal.returns-in_err-tenant-clause-only
returns-in_err-tenant-clause-only c =
    handed (λ why. IsStore why → AreOf IsTenant stored_tenant c.args.rows.now → ⊥) c.from_residual.result c.in_err-tenant.field-0.0 c.from_residual.ensures.1
    (λ is all. let it = all c.row-item.result (has_at c.args.rows.now c.loop-row.row-index c.row-item.result c.loop-row-test.true c.row-item.is) in c.in_err-tenant.ensures.only is it.0 it.1 it.2)
