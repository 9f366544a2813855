use Rattle.std.proofs.Common.{◌≡◌, false, subst, ◌∙◌}
use Rattle.wgr_sql.proofs.ResultLemmas.{if_none, if_ok, if_some}
use Rattle.wgr_model.specs.Consistent.{same_slot}
use Rattle.wgr_columns.specs.Decode.{tables_of}
use Rattle.wgr_register.proofs.AskLemmas.{no_name, no_network}
use Rattle.wgr_register.proofs.ask.find_id.Goals as goal

pub returns-in_default-read-clause-none : goal.returns-in_default-read-clause-none
returns-in_default-read-clause-none g c db pending stood is clean = no_name (tables_of db) c.args.tenant c.args.name.now is (rw c.in_default-read.is at c.in-Ok.ensures.none)

pub returns-clause-some : goal.returns-clause-some
returns-clause-some g c db pending stood clean =
    let kept : c.in-Some.name ≡ c.args.name.now = rw c.in-Some.is at c.in-Ok.ensures.kept in
    if_ok c.network_id.result _ _ (λ found. if_some found _ _ (λ id named. (named.0, named.1, (named.2.0, named.2.1 ∙ kept), named.3))) (c.network_id.ensures.some db pending stood clean)

pub returns-clause-none : goal.returns-clause-none
returns-clause-none g c db pending stood is clean =
    let kept : c.in-Some.name ≡ c.args.name.now = rw c.in-Some.is at c.in-Ok.ensures.kept in
    if_ok c.network_id.result _ _ (λ found. if_none found _ _ (λ none. no_network (tables_of db) c.args.tenant c.args.name.now (λ w here. subst (λ x. same_slot (c.args.tenant, x) (w.tenant, w.name) ≡ false) kept (none w here)))) (c.network_id.ensures.none db pending stood clean)
