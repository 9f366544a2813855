use Rattle.std.proofs.Common.{rules, true, ◌≡◌, ◌↔◌, ◌≤◌, Some, None, subst}
use Rattle.sqlite.specs.Held.{state}
use Rattle.wgr_sql.specs.Causes.{HasCause}
use Rattle.wgr_sql.proofs.CauseLemmas.{handed}
use Rattle.wgr_columns.specs.LaidOut.{IsLaidOut}
use Rattle.wgr_schema.specs.Versions.{HasTablesOf, SaysVersion, version_number}
use Rattle.wgr_schema.specs.declared.version.Version.{Version}
use Rattle.wgr_schema.proofs.VersionLemmas.{version_found, query_is_plain, version_answered, version_is, no_version}
use Rattle.wgr_schema.proofs.version.version_of.Goals as goal

pub returns-in-Some-clause-answer : goal.returns-in-Some-clause-answer
returns-in-Some-clause-answer g c clean =
    let db = (state g.S.Store c.args.conn.now).now in
    let laid : IsLaidOut db.schema = search rules in
    let answer = c.in_ok-rows.ensures.shown clean in
    let rows = c.in_ok-rows.rows.items in
    let found = λ (v : Version). version_found v (state g.S.Store (record c.args.conn.now { in_transaction = true })) (state g.S.Store answer.after) laid rows answer.shown in
    let has : (v : Version) → HasTablesOf v db.schema ↔ (version_number v ≤ version_number c.last_served-last.result) = subst (λ s. (v : Version) → HasTablesOf v s ↔ (version_number v ≤ version_number c.last_served-last.result)) c.schema-2.ensures.value c.last_served-last.ensures in
    let told : (v : Version) → (Some c.in-Some.version ≡ Some v) ↔ SaysVersion v rows = subst (λ l. (v : Version) → (Some c.in-Some.version ≡ Some v) ↔ SaysVersion v l) c.as_slice.ensures.value c.in-Some.ensures in
    version_is db rows c.in-Some.version c.last_served-last.result c.up_to.result laid found told has c.up_to.ensures

pub returns-clause-answer : goal.returns-clause-answer
returns-clause-answer g c clean =
    let db = (state g.S.Store c.args.conn.now).now in
    let laid : IsLaidOut db.schema = search rules in
    let answer = c.in_ok-rows.ensures.shown clean in
    let rows = c.in_ok-rows.rows.items in
    let found = λ (v : Version). version_found v (state g.S.Store (record c.args.conn.now { in_transaction = true })) (state g.S.Store answer.after) laid rows answer.shown in
    let told : (v : Version) → (None ≡ Some v) ↔ SaysVersion v rows = subst (λ l. (v : Version) → (None ≡ Some v) ↔ SaysVersion v l) c.as_slice.ensures.value c.in-None.ensures in
    no_version db rows found told

pub returns-clause-kept : goal.returns-clause-kept
returns-clause-kept g c =
    let laid : IsLaidOut (state g.S.Store c.args.conn.now).now.schema = search rules in
    c.query.ensures.kept (λ live clean. query_is_plain c.args.conn.now.schema laid)

pub returns-in-Some-clause-kept : goal.returns-in-Some-clause-kept
returns-in-Some-clause-kept g c =
    let laid : IsLaidOut (state g.S.Store c.args.conn.now).now.schema = search rules in
    c.query.ensures.kept (λ live clean. query_is_plain c.args.conn.now.schema laid)

pub returns-in_err-rows-clause-kept : goal.returns-in_err-rows-clause-kept
returns-in_err-rows-clause-kept g c =
    let laid : IsLaidOut (state g.S.Store c.args.conn.now).now.schema = search rules in
    c.query.ensures.kept (λ live clean. query_is_plain c.args.conn.now.schema laid)

pub returns-in_err-rows-clause-cause : goal.returns-in_err-rows-clause-cause
returns-in_err-rows-clause-cause g c =
    let laid : IsLaidOut (state g.S.Store c.args.conn.now).now.schema = search rules in
    handed (HasCause (state g.S.Store c.args.conn.now) (state g.S.Store c.query.new.conn)) c.from_residual.result c.in_err-rows.field-0.0 c.from_residual.ensures.1
    (c.in_err-rows.ensures.cause (λ live clean. version_answered c.args.conn.now.schema laid))
