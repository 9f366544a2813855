use Rattle.std.proofs.Common.{◌≡◌, get_or, ap, map, filter, nat_eq, subst, IsPermutation}
use Rattle.wgr_sql.proofs.ResultLemmas.{if_ok, if_some, if_none}
use Rattle.wgr_columns.specs.Decode.{tables_of, network_in}
use Rattle.wgr_columns.specs.Stored.{stored_network}
use Rattle.wgr_tables.proofs.LoadLemmas.{none_listed, one_listed, only_listed}
use Rattle.sqlite.specs.Held.{state}
use Rattle.wgr_sql.specs.Causes.{HasCause}
use Rattle.wgr_sql.proofs.CauseLemmas.{handed, never_fails}
use Rattle.wgr_tables.proofs.FewRows.{never_many}
use Rattle.wgr_tables.proofs.load.network_row.Goals as goal

pub returns-clause-some : goal.returns-clause-some
returns-clause-some g c db pending stood clean =
    let listed = c.in_ok-rows.ensures.listed db pending stood clean in
    if_ok c.only.result _ _ (λ found h. if_some found _ _ (λ row is. one_listed (tables_of db).networks c.args.network (network_in row) (subst (λ l. IsPermutation (filter (λ w. nat_eq w.id c.args.network) (tables_of db).networks) (map network_in l)) is listed)) h) c.only.ensures.some

pub returns-clause-none : goal.returns-clause-none
returns-clause-none g c db pending stood clean =
    let listed = c.in_ok-rows.ensures.listed db pending stood clean in
    if_ok c.only.result _ _ (λ found h. if_none found _ _ (λ is. none_listed (tables_of db).networks c.args.network (subst (λ l. IsPermutation (filter (λ w. nat_eq w.id c.args.network) (tables_of db).networks) (map network_in l)) is listed)) h) c.only.ensures.none

pub returns-clause-stored : goal.returns-clause-stored
returns-clause-stored g c db pending stood clean =
    let stored = c.in_ok-rows.ensures.stored db pending stood clean in
    if_ok c.only.result _ _ (λ found h. if_some found _ _ (λ row is. ap (λ l. get_or l 0 row) (subst (λ l. l ≡ map stored_network (map network_in l)) is stored)) h) c.only.ensures.some

pub returns-clause-once : goal.returns-clause-once
returns-clause-once g c db pending stood clean =
    let listed = c.in_ok-rows.ensures.listed db pending stood clean in
    if_ok c.only.result _ _ (λ found h. if_some found _ _ (λ row is w here same. only_listed (tables_of db).networks c.args.network (network_in row) w (subst (λ l. IsPermutation (filter (λ w. nat_eq w.id c.args.network) (tables_of db).networks) (map network_in l)) is listed) here same) h) c.only.ensures.some

pub returns-in_err-rows-clause-cause : goal.returns-in_err-rows-clause-cause
returns-in_err-rows-clause-cause g c db pending stood apart = handed (HasCause (state g.S.Store c.args.conn.now) (state g.S.Store c.network_rows.new.conn)) c.from_residual.result c.in_err-rows.field-0.0 c.from_residual.ensures.1 (c.in_err-rows.ensures.cause db pending stood)

pub returns-clause-cause : goal.returns-clause-cause
returns-clause-cause g c db pending stood apart = never_fails _ (state g.S.Store c.args.conn.now) (state g.S.Store c.network_rows.new.conn) c.only.result c.only.ensures.only (λ clean many. never_many c.args.network (tables_of db).networks c.in_ok-rows.rows.items (c.in_ok-rows.ensures.listed db pending stood clean) apart many)
