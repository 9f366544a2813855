use Rattle.std.proofs.Common.{sym, ◌∙◌, ◌≡◌, false, IfNone, nat_eq, true≢false, subst, ap}
use Rattle.sqlite.specs.Held.{state}
use Rattle.wgr_sql.specs.Causes.{HasCause}
use Rattle.wgr_model.specs.Laws.{Has}
use Rattle.wgr_model.specs.Rows.{NetworkRow}
use Rattle.wgr_model.proofs.GatherLemmas.{eqb_self}
use Rattle.wgr_columns.specs.Decode.{tables_of}
use Rattle.wgr_sql.proofs.CauseLemmas.{handed}
use Rattle.wgr_register.proofs.CauseLemmas.{if_clean, ids_apart, told_at}
use Rattle.wgr_register.proofs.ask.take_network.Goals as goal

pub returns-in-Some-clause-formed : goal.returns-in-Some-clause-formed
returns-in-Some-clause-formed g c db pending stood good is clean = is.networks c.args.id c.in-Some.network (sym c.take.ensures.value ∙ c.in-Some.is)

pub returns-in-Some-2-clause-formed : goal.returns-in-Some-2-clause-formed
returns-in-Some-2-clause-formed g c db pending stood good is clean = rw c.in-Some-2.is at c.in_ok-network.ensures.some db pending stood good.rows.keyed clean

pub returns-in_err-network-clause-cause : goal.returns-in_err-network-clause-cause
returns-in_err-network-clause-cause g c db pending stood good there = if_clean (state g.S.Store c.args.conn.now) (state g.S.Store c.load_network.new.conn) c.from_residual.result (λ clean.
    let it = there clean in
    let told = told_at (tables_of db) good it.0 it.1 c.args.id it.2 in
    handed (HasCause (state g.S.Store c.args.conn.now) (state g.S.Store c.load_network.new.conn)) c.from_residual.result c.in_err-network.field-0.0 c.from_residual.ensures.1 (c.in_err-network.ensures.cause db pending told.0 stood (ids_apart (tables_of db) good) told.1))

pub returns-in-None-clause-cause : goal.returns-in-None-clause-cause
returns-in-None-clause-cause g c db pending stood good there clean =
    let it = there clean in
    let none = subst (λ o. IfNone o ((w : NetworkRow) → Has (tables_of db).networks w → nat_eq w.id c.args.id ≡ false)) c.in-None.is (c.in_ok-network.ensures.none db pending stood clean) it.0 it.1 in
    absurd (true≢false (sym (eqb_self c.args.id) ∙ sym (ap (λ i. nat_eq i c.args.id) it.2) ∙ none))
