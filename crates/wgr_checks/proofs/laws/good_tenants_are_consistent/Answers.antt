use Rattle.wgr_checks.proofs.TenantLaws.{good_is}
use Rattle.wgr_checks.proofs.laws.good_tenants_are_consistent.Goals as goal

pub returns : goal.returns
returns c = good_is
