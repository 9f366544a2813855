use Rattle.sqlite.specs.Held.{state}
use Rattle.wgr_sql.proofs.ResultLemmas.{if_both}
use Rattle.wgr_checks.proofs.TokenLemmas.{own_digests, digests_back, digests_sorted}
use Rattle.wgr_sql.specs.Causes.{HasCause}
use Rattle.wgr_sql.proofs.CauseLemmas.{handed}
use Rattle.wgr_checks.proofs.CauseLemmas.{all_of_memory}
use Rattle.wgr_checks.proofs.tokens.have_own_digests.Goals as goal

pub returns-clause-answer : goal.returns-clause-answer
returns-clause-answer g c clean laid =
    let table = (state g.S.Store c.args.conn.now).now.trees 3 in
    let rows = c.in_ok-rows.rows.items in
    let listed = c.in_ok-rows.ensures.listed clean laid in
    if_both c.are_own_digests.result _ _ _ (λ is so only. (listed.0, ((λ told. own_digests table rows listed.1 (so told)), (λ own. let back = digests_back table rows listed.1 own in only (digests_sorted table rows listed.1 back) back))))
    (rw c.as_slice.ensures.value at c.are_own_digests.ensures.is) (rw c.as_slice.ensures.value at c.are_own_digests.ensures.only)

pub returns-in_err-rows-clause-cause : goal.returns-in_err-rows-clause-cause
returns-in_err-rows-clause-cause g c laid =
    handed (HasCause (state g.S.Store c.args.conn.now) (state g.S.Store c.rows_by_digest.new.conn)) c.from_residual.result c.in_err-rows.field-0.0 c.from_residual.ensures.1 (c.in_err-rows.ensures.cause laid)

pub returns-clause-cause : goal.returns-clause-cause
returns-clause-cause g c laid = all_of_memory (state g.S.Store c.args.conn.now) (state g.S.Store c.rows_by_digest.new.conn) c.are_own_digests.result c.are_own_digests.ensures.memory
