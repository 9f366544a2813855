use Rattle.sqlite.specs.Held.{state}
use Rattle.wgr_sql.proofs.ResultLemmas.{if_ok}
use Rattle.wgr_checks.proofs.MemberLemmas.{own_allowed, written_allowed}
use Rattle.wgr_checks.proofs.allowed.allowed_are_written.Goals as goal

pub returns-clause-answer : goal.returns-clause-answer
returns-clause-answer g c clean laid up =
    let networks = c.args.networks.now in
    let table = (state g.S.Store c.args.conn.now).now.trees 10 in
    if_ok c.are_own.result _ _ (λ is told. (told.0, ((λ so. written_allowed networks table (told.1.0 so)), (λ good. told.1.1 (own_allowed networks table good))))) (c.are_own.ensures.answer clean laid up)
