use Rattle.std.proofs.Common.{◌≡◌, IfSome, IfNone, nat_eq, false, subst}
use Rattle.wgr_model.specs.Laws.{Has}
use Rattle.wgr_model.specs.Rows.{NetworkRow}
use Rattle.wgr_columns.specs.Decode.{tables_of, network_in, number_at}
use Rattle.sqlite.specs.State.{HasCleanDisk}
use Rattle.sqlite.specs.Held.{state}
use Rattle.wgr_sql.specs.Causes.{HasCause}
use Rattle.wgr_sql.proofs.CauseLemmas.{handed, later_hands_on}
use Rattle.wgr_columns.specs.Stored.{stored_network}
use Rattle.wgr_tables.proofs.ReadLemmas.{reads_next}
use Rattle.wgr_tables.proofs.load.load_network.Goals as goal

pub returns-in_err-loaded-clause-reads : goal.returns-in_err-loaded-clause-reads
returns-in_err-loaded-clause-reads g c = reads_next c.network_row.ensures.reads c.load_row.ensures.reads

pub returns-clause-reads : goal.returns-clause-reads
returns-clause-reads g c = reads_next c.network_row.ensures.reads c.load_row.ensures.reads

pub returns-in_default-clause-none : goal.returns-in_default-clause-none
returns-in_default-clause-none g c db pending stood clean =
    subst (λ o. IfNone o ((w : NetworkRow) → Has (tables_of db).networks w → nat_eq w.id c.args.network ≡ false)) c.in_default.is (c.in_ok-row.ensures.none db pending stood clean)

pub returns-clause-some : goal.returns-clause-some
returns-clause-some g c db pending stood keyed clean =
    let there = subst (λ o. IfSome o (λ row. Has (tables_of db).networks (network_in row) × (number_at row 0 ≡ c.args.network))) c.in-Some.is (c.in_ok-row.ensures.some db pending stood (c.load_row.ensures.reads.clean clean)) in
    (network_in c.in-Some.row, there.0, there.1, c.in_ok-loaded.ensures.read db pending (c.network_row.ensures.reads.stands db pending stood) keyed clean there.1)

pub returns-in_err-row-clause-cause : goal.returns-in_err-row-clause-cause
returns-in_err-row-clause-cause g c db pending n stood apart told = handed (HasCause (state g.S.Store c.args.conn.now) (state g.S.Store c.network_row.new.conn)) c.from_residual.result c.in_err-row.field-0.0 c.from_residual.ensures.1 (c.in_err-row.ensures.cause db pending stood apart)

pub returns-in_err-loaded-clause-cause : goal.returns-in_err-loaded-clause-cause
returns-in_err-loaded-clause-cause g c db pending n stood apart told =
    let first = c.network_row.ensures.reads.stands db pending stood in
    let once = λ (clean : HasCleanDisk (state g.S.Store c.load_row.new.conn)). subst (λ o. IfSome o (λ x. (w : NetworkRow) → Has (tables_of db).networks w → w.id ≡ c.args.network → network_in x ≡ w)) c.in-Some.is
    (c.in_ok-row.ensures.once db pending stood (c.load_row.ensures.reads.clean clean)) told.row told.there told.id_is in
    let stored = λ (clean : HasCleanDisk (state g.S.Store c.load_row.new.conn)). subst (λ o. IfSome o (λ x. x ≡ stored_network (network_in x))) c.in-Some.is (c.in_ok-row.ensures.stored db pending stood (c.load_row.ensures.reads.clean clean)) in
    let old = state g.S.Store c.args.conn.now in
    let mid = state g.S.Store c.network_row.new.conn in
    let new = state g.S.Store c.load_row.new.conn in
    later_hands_on old mid new c.from_residual-in_err-loaded.result c.in_err-loaded.field-0.0 c.from_residual-in_err-loaded.ensures.1 c.network_row.ensures.reads.survives c.load_row.ensures.reads.survives
    (c.in_err-loaded.ensures.cause db pending n first told (λ clean. (once clean, stored clean)))
