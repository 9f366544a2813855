use Rattle.std.proofs.Common.{◌∙◌, sym, ap}
use Rattle.sqlite.specs.Held.{state}
use Rattle.wgr_core.specs.declared.joining.Joining.{Joining}
use Rattle.wgr_core.specs.Refusals.{joining_refusal}
use Rattle.wgr_model.specs.Rows.{network_entry_of}
use Rattle.wgr_columns.specs.Decode.{tables_of}
use Rattle.wgr_sql.specs.Causes.{HasCause}
use Rattle.wgr_sql.proofs.SurvivesLemmas.{survives_next}
use Rattle.wgr_rows.proofs.ActLemmas.{fault_told, joining_is, later}
use Rattle.wgr_tables.proofs.ReadLemmas.{reads_next}
use Rattle.wgr_rows.proofs.act.admit_row.Goals as goal

pub returns-in_err-head-clause-cause : goal.returns-in_err-head-clause-cause
returns-in_err-head-clause-cause g c db pending w stood good here is =
    fault_told (HasCause (state g.S.Store c.args.conn.now) (state g.S.Store c.head_row.new.conn)) c.from_residual.result c.in_err-head.field-0.0 c.from_residual.ensures.1 (c.in_err-head.ensures.cause db pending w stood good here is)

pub returns-in_err-key_holder-clause-reads : goal.returns-in_err-key_holder-clause-reads
returns-in_err-key_holder-clause-reads g c = reads_next c.head_row.ensures.reads c.key_row.ensures.reads

pub returns-in_err-key_holder-clause-cause : goal.returns-in_err-key_holder-clause-cause
returns-in_err-key_holder-clause-cause g c db pending w stood good here is =
    let old = state g.S.Store c.args.conn.now in
    let new = state g.S.Store c.key_row.new.conn in
    fault_told (HasCause old new) c.from_residual-in_err-key_holder.result c.in_err-key_holder.field-0.0 c.from_residual-in_err-key_holder.ensures.1
    (later old (state g.S.Store c.head_row.new.conn) new c.head_row.ensures.reads.survives c.key_row.ensures.reads.survives c.in_err-key_holder.field-0.0 (c.in_err-key_holder.ensures.cause db pending w (c.head_row.ensures.reads.stands db pending stood) good here is))

pub returns-in_err-expired-clause-reads : goal.returns-in_err-expired-clause-reads
returns-in_err-expired-clause-reads g c = reads_next (reads_next c.head_row.ensures.reads c.key_row.ensures.reads) c.expired_rows.ensures.reads

pub returns-in_err-expired-clause-cause : goal.returns-in_err-expired-clause-cause
returns-in_err-expired-clause-cause g c db pending w stood good here is =
    let old = state g.S.Store c.args.conn.now in
    let mid = state g.S.Store c.key_row.new.conn in
    let new = state g.S.Store c.expired_rows.new.conn in
    fault_told (HasCause old new) c.from_residual-in_err-expired.result c.in_err-expired.field-0.0 c.from_residual-in_err-expired.ensures.1
    (later old mid new (survives_next _ _ _ c.head_row.ensures.reads.survives c.key_row.ensures.reads.survives) c.expired_rows.ensures.reads.survives c.in_err-expired.field-0.0
    (c.in_err-expired.ensures.cause db pending w (c.key_row.ensures.reads.stands db pending (c.head_row.ensures.reads.stands db pending stood)) good here is))

pub returns-in_err-has_room-clause-reads : goal.returns-in_err-has_room-clause-reads
returns-in_err-has_room-clause-reads g c = reads_next (reads_next (reads_next c.head_row.ensures.reads c.key_row.ensures.reads) c.expired_rows.ensures.reads) c.has_room.ensures.reads

pub returns-in_err-has_room-clause-cause : goal.returns-in_err-has_room-clause-cause
returns-in_err-has_room-clause-cause g c db pending w stood good here is =
    let old = state g.S.Store c.args.conn.now in
    let mid = state g.S.Store c.expired_rows.new.conn in
    let new = state g.S.Store c.has_room.new.conn in
    fault_told (HasCause old new) c.from_residual-in_err-has_room.result c.in_err-has_room.field-0.0 c.from_residual-in_err-has_room.ensures.1
    (later old mid new (survives_next _ _ _ (survives_next _ _ _ c.head_row.ensures.reads.survives c.key_row.ensures.reads.survives) c.expired_rows.ensures.reads.survives) c.has_room.ensures.reads.survives c.in_err-has_room.field-0.0
    (c.in_err-has_room.ensures.cause db pending w (c.expired_rows.ensures.reads.stands db pending (c.key_row.ensures.reads.stands db pending (c.head_row.ensures.reads.stands db pending stood))) good here is))

pub returns-in-None-clause-reads : goal.returns-in-None-clause-reads
returns-in-None-clause-reads g c = reads_next (reads_next (reads_next c.head_row.ensures.reads c.key_row.ensures.reads) c.expired_rows.ensures.reads) c.has_room.ensures.reads

pub returns-in-Some-clause-reads : goal.returns-in-Some-clause-reads
returns-in-Some-clause-reads g c = reads_next (reads_next (reads_next c.head_row.ensures.reads c.key_row.ensures.reads) c.expired_rows.ensures.reads) c.has_room.ensures.reads

pub returns-in-Some-clause-found : goal.returns-in-Some-clause-found
returns-in-Some-clause-found g c db pending w stood good here is clean ends =
    let n = (network_entry_of (tables_of db) w).network in
    let at_key = c.head_row.ensures.reads.stands db pending stood in
    let at_expired = c.key_row.ensures.reads.stands db pending at_key in
    let at_room = c.expired_rows.ensures.reads.stands db pending at_expired in
    let expired_clean = c.has_room.ensures.reads.clean clean in
    let key_clean = c.expired_rows.ensures.reads.clean expired_clean in
    let head = c.in_ok-head.ensures.found db pending w stood good here is (c.key_row.ensures.reads.clean key_clean) in
    let holder = c.in_ok-key_holder.ensures.found db pending w at_key good here is key_clean in
    let over = c.in_ok-expired.ensures.found db pending w at_expired good here is expired_clean ends in
    let room = c.in_ok-has_room.ensures.found db pending w at_room good here is clean c.args.now head (c.as_slice.ensures.value ∙ over) in
    let same = joining_is n c.args.now c.args.key.now c.in_ok-head.head.server c.in_ok-key_holder.key_holder c.in_ok-has_room.has_room c.in_ok-head.head.next head.server holder room head.next in
    sym (ap (λ (j : Joining). joining_refusal j c.args.now c.args.key.now c.args.until) same) ∙ sym c.refusal.ensures ∙ c.in-Some.is

pub returns-in-None-clause-found : goal.returns-in-None-clause-found
returns-in-None-clause-found g c db pending w stood good here is clean ends =
    let n = (network_entry_of (tables_of db) w).network in
    let at_key = c.head_row.ensures.reads.stands db pending stood in
    let at_expired = c.key_row.ensures.reads.stands db pending at_key in
    let at_room = c.expired_rows.ensures.reads.stands db pending at_expired in
    let expired_clean = c.has_room.ensures.reads.clean clean in
    let key_clean = c.expired_rows.ensures.reads.clean expired_clean in
    let head = c.in_ok-head.ensures.found db pending w stood good here is (c.key_row.ensures.reads.clean key_clean) in
    let holder = c.in_ok-key_holder.ensures.found db pending w at_key good here is key_clean in
    let over = c.in_ok-expired.ensures.found db pending w at_expired good here is expired_clean ends in
    let room = c.in_ok-has_room.ensures.found db pending w at_room good here is clean c.args.now head (c.as_slice.ensures.value ∙ over) in
    let same = joining_is n c.args.now c.args.key.now c.in_ok-head.head.server c.in_ok-key_holder.key_holder c.in_ok-has_room.has_room c.in_ok-head.head.next head.server holder room head.next in
    (sym (ap (λ (j : Joining). joining_refusal j c.args.now c.args.key.now c.args.until) same) ∙ sym c.refusal.ensures ∙ c.in-None.is, head, over)

pub returns-in-None-clause-head : goal.returns-in-None-clause-head
returns-in-None-clause-head g c db pending w stood good here is clean = c.in_ok-head.ensures.found db pending w stood good here is (c.key_row.ensures.reads.clean (c.expired_rows.ensures.reads.clean (c.has_room.ensures.reads.clean clean)))
