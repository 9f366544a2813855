use Rattle.std.proofs.Common.{ℕ, true, false, Err, sym, subst}
use Rattle.sqlite.specs.Held.{state}
use Rattle.wgr_sql.specs.Causes.{HasCause}
use Rattle.wgr_sql.proofs.CauseLemmas.{cause_after, handed, never_fails}
use Rattle.wgr_columns.specs.Decode.{tables_of}
use Rattle.wgr_rows.specs.Holder.{HasEnd, HasLead, IsLasting, IsLed}
use Rattle.wgr_rows.proofs.LeadLemmas.{end_there, lead_there, led_nowhere, led_to}
use Rattle.wgr_tables.proofs.ReadLemmas.{reads_next}
use Rattle.wgr_rows.proofs.allowed.allowed_row.Goals as goal

pub returns-in_err-rows-clause-cause : goal.returns-in_err-rows-clause-cause
returns-in_err-rows-clause-cause g c db pending w stood is here id = handed (HasCause (state g.S.Store c.args.conn.now) (state g.S.Store c.prefix_rows.new.conn)) c.from_residual.result c.in_err-rows.field-0.0 c.from_residual.ensures.1 (c.in_err-rows.ensures.cause db pending stood)

pub returns-in_err-number-clause-cause : goal.returns-in_err-number-clause-cause
returns-in_err-number-clause-cause g c db pending w stood is here id =
    let rows = c.in_ok-rows.rows.items in
    handed (HasCause (state g.S.Store c.args.conn.now) (state g.S.Store c.prefix_rows.new.conn)) c.from_residual-in_err-number.result c.in_err-number.field-0.0 c.from_residual-in_err-number.ensures.1
    (never_fails {X = ℕ} (HasLead rows c.args.network → ⊥) (state g.S.Store c.args.conn.now) (state g.S.Store c.prefix_rows.new.conn) (Err c.in_err-number.field-0.0) c.in_err-number.ensures.only (λ clean bad.
    bad (lead_there (tables_of db) is w here c.args.network id c.args.prefix.now rows (c.in_ok-rows.ensures.listed db pending stood clean) (c.in_ok-rows.ensures.numbers db pending stood clean))))

pub returns-in_default-clause-found : goal.returns-in_default-clause-found
returns-in_default-clause-found g c db pending w stood is here id clean =
    let rows = c.in_ok-rows.rows.items in
    sym (led_nowhere (tables_of db) is w here c.args.network id c.args.prefix.now rows (c.in_ok-rows.ensures.listed db pending stood clean) c.args.now (subst (IsLed rows c.args.network) c.in_default.is c.in_ok-number.ensures.found))

pub returns-in_err-peers-clause-reads : goal.returns-in_err-peers-clause-reads
returns-in_err-peers-clause-reads g c = reads_next c.prefix_rows.ensures.reads c.peer_rows.ensures.reads

pub returns-in_err-peers-clause-cause : goal.returns-in_err-peers-clause-cause
returns-in_err-peers-clause-cause g c db pending w stood is here id =
    let old = state g.S.Store c.args.conn.now in
    let mid = state g.S.Store c.prefix_rows.new.conn in
    let end = state g.S.Store c.peer_rows.new.conn in
    handed (HasCause old end) c.from_residual-in_err-peers.result c.in_err-peers.field-0.0 c.from_residual-in_err-peers.ensures.1
    (cause_after old mid end ⊥ ⊥ (λ _. ⊥) (λ _. ⊥) c.prefix_rows.ensures.reads.survives c.peer_rows.ensures.reads.survives (λ h. h) c.in_err-peers.field-0.0 (c.in_err-peers.ensures.cause db pending (c.prefix_rows.ensures.reads.stands db pending stood)))

pub returns-in_err-lasts-clause-reads : goal.returns-in_err-lasts-clause-reads
returns-in_err-lasts-clause-reads g c = reads_next c.prefix_rows.ensures.reads c.peer_rows.ensures.reads

pub returns-in_err-lasts-clause-cause : goal.returns-in_err-lasts-clause-cause
returns-in_err-lasts-clause-cause g c db pending w stood is here id =
    let rows = c.in_ok-rows.rows.items in
    let peers = c.in_ok-peers.peers.items in
    let next = c.prefix_rows.ensures.reads.stands db pending stood in
    let end = state g.S.Store c.peer_rows.new.conn in
    handed (HasCause (state g.S.Store c.args.conn.now) end) c.from_residual-in_err-lasts.result c.in_err-lasts.field-0.0 c.from_residual-in_err-lasts.ensures.1
    (never_fails {X = ℕ} (HasEnd peers → ⊥) (state g.S.Store c.args.conn.now) end (Err c.in_err-lasts.field-0.0) c.in_err-lasts.ensures.only (λ clean bad.
    bad (end_there (tables_of db) is w here c.args.network id c.args.prefix.now rows (c.in_ok-rows.ensures.listed db pending stood (c.peer_rows.ensures.reads.clean clean)) c.in-Some.number (subst (IsLed rows c.args.network) c.in-Some.is c.in_ok-number.ensures.found)
    peers (c.in_ok-peers.ensures.listed db pending next clean) (c.in_ok-peers.ensures.numbers db pending next clean))))

pub returns-then-branch-clause-reads : goal.returns-then-branch-clause-reads
returns-then-branch-clause-reads g c = reads_next c.prefix_rows.ensures.reads c.peer_rows.ensures.reads

pub returns-then-branch-clause-found : goal.returns-then-branch-clause-found
returns-then-branch-clause-found g c db pending w stood is here id clean =
    let rows = c.in_ok-rows.rows.items in
    let peers = c.in_ok-peers.peers.items in
    let next = c.prefix_rows.ensures.reads.stands db pending stood in
    sym (led_to (tables_of db) is w here c.args.network id c.args.prefix.now rows (c.in_ok-rows.ensures.listed db pending stood (c.peer_rows.ensures.reads.clean clean)) c.in-Some.number (subst (IsLed rows c.args.network) c.in-Some.is c.in_ok-number.ensures.found)
    peers (c.in_ok-peers.ensures.listed db pending next clean) c.args.now true (subst (IsLasting peers c.args.now) c.if-branch.true c.in_ok-lasts.ensures.found))

pub returns-else-branch-clause-reads : goal.returns-else-branch-clause-reads
returns-else-branch-clause-reads g c = reads_next c.prefix_rows.ensures.reads c.peer_rows.ensures.reads

pub returns-else-branch-clause-found : goal.returns-else-branch-clause-found
returns-else-branch-clause-found g c db pending w stood is here id clean =
    let rows = c.in_ok-rows.rows.items in
    let peers = c.in_ok-peers.peers.items in
    let next = c.prefix_rows.ensures.reads.stands db pending stood in
    sym (led_to (tables_of db) is w here c.args.network id c.args.prefix.now rows (c.in_ok-rows.ensures.listed db pending stood (c.peer_rows.ensures.reads.clean clean)) c.in-Some.number (subst (IsLed rows c.args.network) c.in-Some.is c.in_ok-number.ensures.found)
    peers (c.in_ok-peers.ensures.listed db pending next clean) c.args.now false (subst (IsLasting peers c.args.now) c.if-branch.false c.in_ok-lasts.ensures.found))
