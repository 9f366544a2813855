use Rattle.std.proofs.Common.{codes}
use Rattle.sqlite.specs.Held.{state}
use Rattle.wgr_sql.specs.Causes.{HasCause}
use Rattle.wgr_sql.specs.Named.{rows_named}
use Rattle.wgr_sql.proofs.CauseLemmas.{handed}
use Rattle.wgr_sql.proofs.ResultLemmas.{if_both}
use Rattle.wgr_checks.proofs.CauseLemmas.{all_of_memory}
use Rattle.wgr_checks.proofs.ReaderLemmas.{own_rowids, rowids_back, rowids_sorted}
use Rattle.wgr_checks.proofs.readers.readers_have_own_rowids.Goals as goal

pub returns-clause-answer : goal.returns-clause-answer
returns-clause-answer g c clean may =
    let table = rows_named (state g.S.Store c.args.conn.now).now (codes "reader") in
    let rows = c.in_ok-rows.rows.items in
    let listed = c.in_ok-rows.ensures.listed clean may in
    if_both c.are_own_rowids.result _ _ _ (λ is so only. (listed.0, ((λ told. own_rowids table rows listed.1 (so told)), (λ own. let back = rowids_back table rows listed.1 own in only (rowids_sorted table rows listed.1 back) back))))
    (rw c.as_slice.ensures.value at c.are_own_rowids.ensures.is) (rw c.as_slice.ensures.value at c.are_own_rowids.ensures.only)

pub returns-in_err-rows-clause-cause : goal.returns-in_err-rows-clause-cause
returns-in_err-rows-clause-cause g c may =
    handed (HasCause (state g.S.Store c.args.conn.now) (state g.S.Store c.readers_by_rowid.new.conn)) c.from_residual.result c.in_err-rows.field-0.0 c.from_residual.ensures.1 (c.in_err-rows.ensures.cause may)

pub returns-clause-cause : goal.returns-clause-cause
returns-clause-cause g c may = all_of_memory (state g.S.Store c.args.conn.now) (state g.S.Store c.readers_by_rowid.new.conn) c.are_own_rowids.result c.are_own_rowids.ensures.memory
