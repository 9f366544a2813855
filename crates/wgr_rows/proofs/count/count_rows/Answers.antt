use Rattle.std.proofs.Common.{length, ap, sym, ◌∙◌}
use Rattle.sqlite.specs.Held.{state}
use Rattle.wgr_sql.specs.Causes.{HasCause}
use Rattle.wgr_sql.proofs.CauseLemmas.{handed}
use Rattle.wgr_columns.specs.Decode.{tables_of}
use Rattle.wgr_rows.specs.Owned.{any_end, owned_count}
use Rattle.wgr_rows.proofs.OwnedLemmas.{count_is}
use Rattle.wgr_rows.proofs.count.count_rows.Goals as goal

pub returns-clause-found : goal.returns-clause-found
returns-clause-found g c db pending w stood is here id clean =
    ap length c.as_slice.ensures.value ∙ c.in_ok-rows.ensures.counted db pending stood clean ∙ ap (λ n. owned_count n any_end (tables_of db)) (sym id) ∙ count_is (tables_of db) is w here

pub returns-in_err-rows-clause-cause : goal.returns-in_err-rows-clause-cause
returns-in_err-rows-clause-cause g c db pending w stood is here id = handed (HasCause (state g.S.Store c.args.conn.now) (state g.S.Store c.id_rows.new.conn)) c.from_residual.result c.in_err-rows.field-0.0 c.from_residual.ensures.1 (c.in_err-rows.ensures.cause db pending stood)
