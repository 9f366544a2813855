use Rattle.std.proofs.Common.{◌≤◌, ◌+◌, ◌∙◌, nat_lt, length, sym, ap, arith}
use Rattle.sqlite.specs.Held.{state}
use Rattle.wgr_model.specs.Rows.{network_entry_of}
use Rattle.wgr_model.proofs.RuleLemmas.{rules as rules_of}
use Rattle.wgr_columns.specs.Decode.{tables_of}
use Rattle.wgr_sql.specs.Causes.{HasCause}
use Rattle.wgr_sql.proofs.CauseLemmas.{handed}
use Rattle.wgr_rows.proofs.ActLemmas.{room_by_count, room_by_numbers}
use Rattle.wgr_rows.proofs.act.has_room.Goals as goal

pub returns-then-head-most-clause-found : goal.returns-then-head-most-clause-found
returns-then-head-most-clause-found g c db pending w stood good here is clean now head over =
    let n = (network_entry_of (tables_of db) w).network in
    let le : n.next ≤ n.capacity = omega (arith, c.if-head-most.true, c.from-most.ensures, c.peers.ensures.value, head.next, head.capacity) in
    sym (room_by_numbers n now (rules_of (tables_of db) good w here) le)

pub returns-in_err-count-clause-cause : goal.returns-in_err-count-clause-cause
returns-in_err-count-clause-cause g c db pending w stood good here is =
    handed (HasCause (state g.S.Store c.args.conn.now) (state g.S.Store c.count_rows.new.conn)) c.from_residual.result c.in_err-count.field-0.0 c.from_residual.ensures.1 (c.in_err-count.ensures.cause db pending w stood good here is)

pub returns-clause-found : goal.returns-clause-found
returns-clause-found g c db pending w stood good here is clean now head over =
    let n = (network_entry_of (tables_of db) w).network in
    ap (λ m. nat_lt m (length c.args.over.now + c.from-most.result)) (c.in_ok-count.ensures.found db pending w stood good here is clean)
    ∙ ap (λ m. nat_lt (length n.peers) (length c.args.over.now + m)) (c.from-most.ensures ∙ c.peers.ensures.value ∙ head.capacity)
    ∙ room_by_count n now (length c.args.over.now) (ap length over)
