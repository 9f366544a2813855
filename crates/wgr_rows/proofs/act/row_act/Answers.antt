use Rattle.std.proofs.Common.{◌≡◌, ◌∙◌, ℕ, List, Option, None, Ok, Err, sym, ap, subst}
use Rattle.sqlite.specs.Held.{state}
use Rattle.wgr_core.specs.declared.command.Command.{Command}
use Rattle.wgr_core.specs.declared.command.Command.TheVariants as command
use Rattle.wgr_core.specs.declared.change.Change.{Change}
use Rattle.wgr_core.specs.declared.fault.ActFault.TheVariants as act
use Rattle.wgr_core.specs.declared.refusal.Refusal.TheVariants.{NobodysAddress}
use Rattle.wgr_core.specs.declared.reply.Reply.{Reply}
use Rattle.wgr_core.specs.declared.reply.Reply.TheVariants as reply
use Rattle.wgr_peers.specs.declared.peer.Peer.{Peer}
use Rattle.wgr_core.specs.Change.{Meets}
use Rattle.wgr_core.specs.Outcome.{outcome_of}
use Rattle.wgr_core.specs.Refusals.{of_command}
use Rattle.wgr_model.specs.Rows.{network_entry_of}
use Rattle.wgr_model.proofs.RuleLemmas.{rules as rules_of}
use Rattle.wgr_columns.specs.Decode.{tables_of}
use Rattle.wgr_sql.specs.Causes.{HasCause}
use Rattle.wgr_rows.specs.Act.{IfFails, as_acted}
use Rattle.wgr_rows.proofs.ActLemmas.{fault_told, is_added, is_nobodys, is_owner, unadmitted, unplaced, why_later, why_told}
use Rattle.wgr_tables.proofs.ReadLemmas.{reads_next}
use Rattle.wgr_rows.proofs.act.row_act.Goals as goal

pub returns-in_err-admission-in-Add-clause-outcome : goal.returns-in_err-admission-in-Add-clause-outcome
returns-in_err-admission-in-Add-clause-outcome g c db pending w stood good here is clean outlined =
    let n = (network_entry_of (tables_of db) w).network in
    subst (λ (x : Command). Meets n (as_acted c.from_residual.result) (outcome_of n c.args.now x)) (sym c.in-Add.is)
    (unadmitted n (rules_of (tables_of db) good w here) c.args.now c.in-Add.key c.in-Add.label c.in-Add.address c.in-Add.until c.in-Add.keepalive c.from_residual.result c.in_err-admission-in-Add.field-0.0 c.from_residual.ensures.1
    (c.in_err-admission-in-Add.ensures.found db pending w stood good here is clean outlined.ends))

pub returns-in_err-admission-in-Add-clause-cause : goal.returns-in_err-admission-in-Add-clause-cause
returns-in_err-admission-in-Add-clause-cause g c db pending w stood good here is =
    why_told (IfFails (HasCause (state g.S.Store c.args.conn.now) (state g.S.Store c.admit_row.new.conn))) c.from_residual.result c.in_err-admission-in-Add.field-0.0 c.from_residual.ensures.1 (c.in_err-admission-in-Add.ensures.cause db pending w stood good here is)

pub returns-in_err-address-in-Add-clause-reads : goal.returns-in_err-address-in-Add-clause-reads
returns-in_err-address-in-Add-clause-reads g c = reads_next c.admit_row.ensures.reads c.place_row.ensures.reads

pub returns-in_err-address-in-Add-clause-outcome : goal.returns-in_err-address-in-Add-clause-outcome
returns-in_err-address-in-Add-clause-outcome g c db pending w stood good here is clean outlined =
    let n = (network_entry_of (tables_of db) w).network in
    let admitted = c.in_ok-admission-in-Add.ensures.found db pending w stood good here is (c.place_row.ensures.reads.clean clean) outlined.ends in
    subst (λ (x : Command). Meets n (as_acted c.from_residual-in_err-address-in-Add.result) (outcome_of n c.args.now x)) (sym c.in-Add.is)
    (unplaced n (rules_of (tables_of db) good w here) c.args.now c.in-Add.key c.in-Add.label c.in-Add.address c.in-Add.until c.in-Add.keepalive c.from_residual-in_err-address-in-Add.result c.in_err-address-in-Add.field-0.0 c.from_residual-in_err-address-in-Add.ensures.1 admitted.0
    (c.in_err-address-in-Add.ensures.found db pending w (c.admit_row.ensures.reads.stands db pending stood) good here is clean admitted.1 admitted.2 (c.floor_at-floor.ensures n (rules_of (tables_of db) good w here) outlined)))

pub returns-in_err-address-in-Add-clause-cause : goal.returns-in_err-address-in-Add-clause-cause
returns-in_err-address-in-Add-clause-cause g c db pending w stood good here is =
    why_later (state g.S.Store c.args.conn.now) (state g.S.Store c.admit_row.new.conn) (state g.S.Store c.place_row.new.conn) c.admit_row.ensures.reads.survives c.place_row.ensures.reads.survives c.from_residual-in_err-address-in-Add.result c.in_err-address-in-Add.field-0.0 c.from_residual-in_err-address-in-Add.ensures.1
    (λ clean. c.in_err-address-in-Add.ensures.cause db pending w (c.admit_row.ensures.reads.stands db pending stood) good here is (λ now. c.in_ok-admission-in-Add.ensures.head db pending w stood good here is (c.place_row.ensures.reads.clean now)))

pub returns-in_err-copy-in-Add-clause-reads : goal.returns-in_err-copy-in-Add-clause-reads
returns-in_err-copy-in-Add-clause-reads g c = reads_next c.admit_row.ensures.reads c.place_row.ensures.reads

pub returns-in_err-joined-in-Add-clause-reads : goal.returns-in_err-joined-in-Add-clause-reads
returns-in_err-joined-in-Add-clause-reads g c = reads_next c.admit_row.ensures.reads c.place_row.ensures.reads

pub returns-in_err-number-in-Owner-clause-cause : goal.returns-in_err-number-in-Owner-clause-cause
returns-in_err-number-in-Owner-clause-cause g c db pending w stood good here is =
    fault_told (HasCause (state g.S.Store c.args.conn.now) (state g.S.Store c.owner_row.new.conn)) c.from_residual-in_err-number-in-Owner.result c.in_err-number-in-Owner.field-0.0 c.from_residual-in_err-number-in-Owner.ensures.1 (c.in_err-number-in-Owner.ensures.cause db pending w stood good here is)

pub returns-in_ok-joined-in-Add-clause-reads : goal.returns-in_ok-joined-in-Add-clause-reads
returns-in_ok-joined-in-Add-clause-reads g c = reads_next c.admit_row.ensures.reads c.place_row.ensures.reads

pub returns-in_ok-joined-in-Add-clause-outcome : goal.returns-in_ok-joined-in-Add-clause-outcome
returns-in_ok-joined-in-Add-clause-outcome g c db pending w stood good here is clean outlined =
    let n = (network_entry_of (tables_of db) w).network in
    let admission = c.in_ok-admission-in-Add.admission in
    let admitted = c.in_ok-admission-in-Add.ensures.found db pending w stood good here is (c.place_row.ensures.reads.clean clean) outlined.ends in
    let placed = c.in_ok-address-in-Add.ensures.found db pending w (c.admit_row.ensures.reads.stands db pending stood) good here is clean admitted.1 admitted.2 (c.floor_at-floor.ensures n (rules_of (tables_of db) good w here) outlined) in
    let address = c.in_ok-address-in-Add.address in
    let peer : Peer = record { number = admission.head.next; key = c.in-Add.key; label = c.in_ok-copy-in-Add.field-0; address = address; second = None; until = c.in-Add.until; keepalive = c.in-Add.keepalive; status = None } in
    let same : peer ≡ record { number = n.next; key = c.in-Add.key; label = c.in-Add.label; address = address; second = None; until = c.in-Add.until; keepalive = c.in-Add.keepalive; status = None } =
    ap (λ (m : ℕ). record peer { number = m }) admitted.1.next ∙ ap (λ (text : List ℕ). record peer { number = n.next; label = text }) c.in_ok-copy-in-Add.ensures in
    subst (λ (x : Command). Meets n (Ok c.in_ok-joined-in-Add.field-0) (outcome_of n c.args.now x)) (sym c.in-Add.is)
    (subst (λ (given : Reply × Option Change). Meets n (Ok given) (outcome_of n c.args.now (command.Add c.in-Add.key c.in-Add.label c.in-Add.address c.in-Add.until c.in-Add.keepalive))) (sym c.in_ok-joined-in-Add.ensures)
    (is_added n (rules_of (tables_of db) good w here) c.args.now c.in-Add.key c.in-Add.label c.in-Add.address c.in-Add.until c.in-Add.keepalive address peer admission.expired.items admitted.0 placed same admitted.2))

pub returns-in-Some-clause-outcome : goal.returns-in-Some-clause-outcome
returns-in-Some-clause-outcome g c db pending w stood good here is clean outlined =
    let n = (network_entry_of (tables_of db) w).network in
    subst (λ (x : Command). Meets n (Ok (reply.Owner c.in-Some.number, None)) (outcome_of n c.args.now x)) (sym c.in-Owner.is)
    (is_owner n (rules_of (tables_of db) good w here) c.args.now c.in-Owner.address c.in-Some.number (rw c.in-Some.is at c.in_ok-number-in-Owner.ensures.found db pending w stood good here is clean))

pub returns-in-None-clause-outcome : goal.returns-in-None-clause-outcome
returns-in-None-clause-outcome g c db pending w stood good here is clean outlined =
    let n = (network_entry_of (tables_of db) w).network in
    subst (λ (x : Command). Meets n (Err (act.Refused (of_command NobodysAddress))) (outcome_of n c.args.now x)) (sym c.in-Owner.is)
    (is_nobodys n (rules_of (tables_of db) good w here) c.args.now c.in-Owner.address (rw c.in-None.is at c.in_ok-number-in-Owner.ensures.found db pending w stood good here is clean))
