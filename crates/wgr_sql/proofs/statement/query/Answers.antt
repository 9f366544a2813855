use Rattle.std.proofs.Common.{rules, ◌≡◌, true, IsTrue, sym, subst, ◌∙◌, arith}
use Rattle.sqlite.specs.Values.{bound}
use Rattle.sqlite.specs.State.{HasCleanDisk, Survives}
use Rattle.sqlite.specs.Held.{state}
use Rattle.wgr_sql.proofs.CauseLemmas.{mapped_cause, query_cause}
use Rattle.wgr_sql.proofs.ResultLemmas.{if_ok}
use Rattle.wgr_sql.proofs.QueryLemmas.{shown_open, committed_same, query_open}
use Rattle.wgr_sql.proofs.statement.query.Goals as goal

pub returns-clause-shown : goal.returns-clause-shown
returns-clause-shown g c clean =
    let end = c.drop-tx.new.self.0 in
    let same : end ≡ c.conn-1.given.0 = search rules in
    let late : HasCleanDisk (state g.S.Store end) = search rules in
    let mid : HasCleanDisk (state g.S.Store c.query_all.new.self.conn.now) = omega (arith, c.drop-tx.ensures.survives.clean, late) in
    let begun = c.transaction-tx.ensures.begun in
    let asked = rw begun at (c.query_all.ensures.ok mid) in
    if_ok c.map_err.result _ _ (λ rows h. record { after = c.query_all.new.self.conn.now; was_open = shown_open _ _ _ _ _ h; shown = h }) (search (rules, asked))

pub returns-clause-kept : goal.returns-clause-kept
returns-clause-kept g c plain clean live =
    let end = c.drop-tx.new.self.0 in
    let old = state g.S.Store c.args.conn.now in
    let mid = state g.S.Store c.query_all.new.self.conn.now in
    let same : end ≡ c.conn-1.given.0 = search rules in
    let late : HasCleanDisk (state g.S.Store end) = search rules in
    let open_end : IsTrue (state g.S.Store end).is_open = search rules in
    let before : HasCleanDisk mid = omega (arith, c.drop-tx.ensures.survives.clean, late) in
    let begun = c.transaction-tx.ensures.begun in
    let back = c.drop-tx.ensures.undone late in
    let mid_open = back.was_open open_end in
    let start = state g.S.Store (record c.args.conn.now { in_transaction = true }) in
    let opened = query_open c.args.sql.now (bound c.args.values.now) start mid (λ rows. rows.items) c.query_all.result (rw begun at (c.query_all.ensures.ok before)) (rw begun at (c.query_all.ensures.err before)) mid_open in
    let stays = committed_same c.args.sql.now (bound c.args.values.now) start mid (plain opened clean) (λ rows. rows.items) c.query_all.result (rw begun at (c.query_all.ensures.ok before)) (rw begun at (c.query_all.ensures.err before)) mid_open in
    let yes : IsTrue c.is_autocommit-settled.result = rw (c.is_autocommit-settled.ensures.value, c.requires.idle) in
    let was_open : IsTrue old.is_open = stays.0 in
    let whole : (state g.S.Store end).now ≡ old.now = (back.undone open_end).0 ∙ stays.1 ∙ sym (c.is_autocommit-settled.ensures.settled yes was_open) in
    (opened, subst (λ h. (state g.S.Store h).now ≡ old.now) same whole)

pub returns-clause-cause : goal.returns-clause-cause
returns-clause-cause g c answered =
    let mid = state g.S.Store c.query_all.new.self.conn.now in
    let start = state g.S.Store (record c.args.conn.now { in_transaction = true }) in
    let same : c.drop-tx.new.self.0 ≡ c.conn-1.given.0 = search rules in
    let begun = c.transaction-tx.ensures.begun in
    let ended = subst (λ h. Survives mid (state g.S.Store h) (λ _. ⊥)) same c.drop-tx.ensures.survives in
    mapped_cause ⊥ start (state g.S.Store c.conn-1.given.0) c.query_all.result c.map_err.result c.map_err.ensures.cases
    (query_cause c.args.sql.now (bound c.args.values.now) start mid (state g.S.Store c.conn-1.given.0) (λ _. ⊥) ended c.query_all.result (rw begun at c.query_all.ensures.err) answered)
