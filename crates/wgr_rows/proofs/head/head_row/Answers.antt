use Rattle.std.proofs.Common.{◌≡◌, IfNone, IfSome, false, nat_eq, true≢false, sym, ap, subst, ◌∙◌}
use Rattle.sqlite.specs.Held.{state}
use Rattle.wgr_model.specs.Laws.{Has}
use Rattle.wgr_model.specs.Rows.{NetworkRow}
use Rattle.wgr_model.proofs.GatherLemmas.{eqb_self}
use Rattle.wgr_sql.specs.Causes.{HasCause}
use Rattle.wgr_sql.proofs.CauseLemmas.{handed, never_stores}
use Rattle.wgr_sql.proofs.ResultLemmas.{if_ok}
use Rattle.wgr_columns.specs.Decode.{network_in, tables_of}
use Rattle.wgr_columns.specs.Stored.{stored_network}
use Rattle.wgr_rows.proofs.HeadLemmas.{head_of, settings}
use Rattle.wgr_rows.proofs.OwnRows.{ids}
use Rattle.wgr_rows.proofs.head.head_row.Goals as goal

pub returns-clause-found : goal.returns-clause-found
returns-clause-found g c db pending w stood is here id clean =
    let once = subst (λ o. IfSome o (λ x. (w : NetworkRow) → Has (tables_of db).networks w → w.id ≡ c.args.network → network_in x ≡ w)) c.in-Some.is (c.in_ok-row.ensures.once db pending stood clean) w here id in
    if_ok c.read_settings.result _ _ (λ head says. head_of (tables_of db) (network_in c.in-Some.row) w head once says) c.read_settings.ensures.value

pub returns-in_err-row-clause-cause : goal.returns-in_err-row-clause-cause
returns-in_err-row-clause-cause g c db pending w stood is here id = handed (HasCause (state g.S.Store c.args.conn.now) (state g.S.Store c.network_row.new.conn)) c.from_residual.result c.in_err-row.field-0.0 c.from_residual.ensures.1 (c.in_err-row.ensures.cause db pending stood (ids (tables_of db) is))

pub returns-in_default-clause-cause : goal.returns-in_default-clause-cause
returns-in_default-clause-cause g c db pending w stood is here id = λ clean.
    let none = subst (λ o. IfNone o ((w : NetworkRow) → Has (tables_of db).networks w → nat_eq w.id c.args.network ≡ false)) c.in_default.is (c.in_ok-row.ensures.none db pending stood clean) w here in
    absurd (true≢false (sym (ap (nat_eq w.id) (sym id) ∙ eqb_self w.id) ∙ none))

pub returns-clause-cause : goal.returns-clause-cause
returns-clause-cause g c db pending w stood is here id = never_stores _ (state g.S.Store c.args.conn.now) (state g.S.Store c.network_row.new.conn) c.read_settings.result c.read_settings.ensures.only (λ clean never.
    let once = subst (λ o. IfSome o (λ x. (w : NetworkRow) → Has (tables_of db).networks w → w.id ≡ c.args.network → network_in x ≡ w)) c.in-Some.is (c.in_ok-row.ensures.once db pending stood clean) w here id in
    let stored = subst (λ o. IfSome o (λ x. x ≡ stored_network (network_in x))) c.in-Some.is (c.in_ok-row.ensures.stored db pending stood clean) in
    never w (settings (tables_of db) is w here) (stored ∙ ap stored_network once))
