use Rattle.std.proofs.Common.{codes, map, refl, subst, arith}
use Rattle.std.proofs.lemmas.List.Sorted.{IsPermutation-refl}
use Rattle.sqlite.specs.Effect.{Database}
use Rattle.sqlite.specs.State.{HasCleanDisk}
use Rattle.sqlite.specs.Held.{state}
use Rattle.wgr_sql.specs.Causes.{HasCause}
use Rattle.wgr_sql.specs.Named.{rows_named}
use Rattle.wgr_sql.proofs.CauseLemmas.{handed}
use Rattle.wgr_sql.proofs.ResultLemmas.{if_both}
use Rattle.wgr_columns.specs.Decode.{bytes_at}
use Rattle.wgr_columns.specs.LaidOut.{IsLaidOut}
use Rattle.wgr_checks.specs.Later.{HasReadersToo}
use Rattle.wgr_checks.specs.TenantRows.{ListsSorted}
use Rattle.wgr_checks.specs.TokenRows.{digest_values}
use Rattle.wgr_checks.proofs.LaterQueries.{empty_is}
use Rattle.wgr_checks.proofs.NextLemmas.{second_fails, second_holds}
use Rattle.wgr_checks.proofs.ReaderLemmas.{digests_sorted, none_read, token_digests, token_digests_back, tokens_back, tokens_same, tokens_sorted}
use Rattle.wgr_checks.proofs.readers.have_token_digests.Goals as goal

pub returns-in_err-rows-clause-cause : goal.returns-in_err-rows-clause-cause
returns-in_err-rows-clause-cause g c may =
    handed (HasCause (state g.S.Store c.args.conn.now) (state g.S.Store c.readers_by_digest.new.conn)) c.from_residual.result c.in_err-rows.field-0.0 c.from_residual.ensures.1 (c.in_err-rows.ensures.cause may)

pub returns-then-is_empty-clause-answer : goal.returns-then-is_empty-clause-answer
returns-then-is_empty-clause-answer g c clean may =
    let old = state g.S.Store c.args.conn.now in
    let listed = c.in_ok-rows.ensures.listed clean may in
    let tokens = old.now.trees 3 in
    let rows = c.in_ok-rows.rows.items in
    let none = (empty_is rows c.in_ok-rows.rows.len c.is_empty.result c.is_empty.ensures c.in_ok-rows.rows.ok.0).0 c.if-is_empty.true in
    (listed.0, λ own. ((λ told. token_digests (rows_named old.now (codes "reader")) rows tokens tokens listed.1 (IsPermutation-refl (map (λ r. bytes_at r 1) tokens)) (none_read tokens rows none)), (λ good. refl)))

pub returns-in_err-tokens-clause-cause : goal.returns-in_err-tokens-clause-cause
returns-in_err-tokens-clause-cause g c may =
    let old = state g.S.Store c.args.conn.now in
    let mid = state g.S.Store c.readers_by_digest.new.conn in
    let new = state g.S.Store c.rows_by_digest.new.conn in
    handed (HasCause old new) c.from_residual-in_err-tokens.result c.in_err-tokens.field-0.0 c.from_residual-in_err-tokens.ensures.1
    (second_fails HasReadersToo (λ db. IsLaidOut db.schema) (λ db is. is.0) old mid new c.readers_by_digest.ensures.survives c.rows_by_digest.ensures.survives c.readers_by_digest.ensures.kept may c.in_err-tokens.field-0.0 c.in_err-tokens.ensures.cause)

pub returns-clause-answer : goal.returns-clause-answer
returns-clause-answer g c clean may =
    let old = state g.S.Store c.args.conn.now in
    let mid = state g.S.Store c.readers_by_digest.new.conn in
    let new = state g.S.Store c.rows_by_digest.new.conn in
    let before : HasCleanDisk mid = omega (arith, c.rows_by_digest.ensures.survives.clean, clean) in
    let first = c.in_ok-rows.ensures.listed before may in
    let laid = second_holds HasReadersToo (λ db. IsLaidOut db.schema) (λ db is. is.0) old mid new c.readers_by_digest.ensures.survives c.rows_by_digest.ensures.survives c.readers_by_digest.ensures.kept (λ _. may) clean in
    let all = c.in_ok-tokens.ensures.listed clean laid in
    let table = rows_named old.now (codes "reader") in
    let tokens = old.now.trees 3 in
    let rows = c.in_ok-rows.rows.items in
    let listed = c.in_ok-tokens.tokens.items in
    let l = subst (λ (d : Database). ListsSorted digest_values 1 (d.trees 3) listed) (c.readers_by_digest.ensures.kept (λ _. may) before all.0).1 all.1 in
    let same = tokens_same tokens listed l in
    if_both c.are_of_tokens.result _ _ _ (λ is so only. (
      first.0,
      λ own.
          let each = tokens_back tokens listed l own.each in
          let up = tokens_sorted tokens listed l each in (
            (λ told. token_digests table rows tokens listed first.1 same (so up told)),
            (λ good. let back = token_digests_back table rows tokens listed first.1 same good in only up each (digests_sorted table rows tokens listed first.1 same back.each) back),
          ),
    ))
    (rw (c.as_slice.ensures.value, c.as_slice-2.ensures.value) at c.are_of_tokens.ensures.is) (rw (c.as_slice.ensures.value, c.as_slice-2.ensures.value) at c.are_of_tokens.ensures.only)
