use Rattle.std.proofs.Common.{sym, ap, subst}
use Rattle.wgr_model.specs.Rows.{Tables}
use Rattle.wgr_model.specs.RowLaws.{AreConsistent}
use Rattle.wgr_model.proofs.RowRunLemmas.{no_rows_consistent}
use Rattle.wgr_schema.proofs.VersionLemmas.{version_read}
use Rattle.wgr_schema.proofs.laws.fresh_is_consistent.Goals as goal

pub returns : goal.returns
returns c db is = ((version_read db is.register).1 (ap (λ (t : Tables). t.meta) is.rows), subst AreConsistent (sym is.rows) no_rows_consistent)
