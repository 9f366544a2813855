use Rattle.std.proofs.Common.{List, Err, Ok, subst, true≢false, sym, ◌∙◌, ap, not, refl}
use Rattle.wgr_core.specs.Change.{Meets}
use Rattle.wgr_core.specs.Outcome.{outcome_of}
use Rattle.wgr_core.specs.Network.{NetworkValue}
use Rattle.wgr_model.specs.Register.{Bytes}
use Rattle.wgr_model.specs.Steps.{Ask, Event}
use Rattle.wgr_sql.specs.declared.fault.Fault.TheVariants.{NoMemory}
use Rattle.wgr_columns.specs.Decode.{tables_of}
use Rattle.wgr_core.specs.Refusals.{of_command}
use Rattle.wgr_rows.specs.Act.{as_acted}
use Rattle.wgr_rows.specs.declared.fault.RowFault.{RowFault}
use Rattle.wgr_register.specs.Memory.{IsMemoryOf}
use Rattle.wgr_register.proofs.AskLemmas.{acts_done, acts_late, at_found, refused_rows}
use Rattle.wgr_register.proofs.LoadedLemmas.{found_formed, shown_so, unless}
use Rattle.wgr_register.proofs.StandLemmas.{ask_if, ask_unread, at_read, late_ends, rows_undone_ends}
use Rattle.wgr_register.proofs.CauseLemmas.{ask_stops, fault_handed, row_handed, row_weaker, stopped_after, stopped_clean, reads_and_writes, writes_nothing}
use Rattle.sqlite.specs.Effect.{Database}
use Rattle.sqlite.specs.Held.{state}
use Rattle.sqlite.specs.State.{HasCleanDisk}
use Rattle.wgr_register.specs.Ends.{IsFound}
use Rattle.wgr_register.specs.Standing.{StandsAt}
use Rattle.wgr_sql.specs.Causes.{HasCause, HasCauseOr}
use Rattle.wgr_register.specs.Causes.{AskStops, StopsIf}
use Rattle.wgr_sql.proofs.CauseLemmas.{cause_weaker}
use Rattle.wgr_model.specs.Rows.{network_entry_of}
use Rattle.wgr_register.proofs.KnownLemmas.{formed_rules}
use Rattle.wgr_register.proofs.MemoryLemmas.{memory_so}
use Rattle.wgr_register.proofs.ask.act_on_rows.Given.{Over}
use Rattle.wgr_register.proofs.ask.act_on_rows.Goals.{In_ok-reply}
use Rattle.wgr_register.proofs.ask.act_on_rows.Goals as goal

-- the change that is to be committed is the command's
met_by : (g : Over) (c : In_ok-reply g) (db : Database) (late : List Event) (digest name : Bytes) (n : NetworkValue) (at : StandsAt g.S.Store c.args.conn.now db late) (found : IsFound (tables_of db) digest name c.args.command.now c.args.id n)
    → IsMemoryOf c.args.memory.now (tables_of db) → HasCleanDisk (state g.S.Store c.row_act.new.conn) → Meets n (Ok (c.in_ok-reply.reply, c.in_ok-reply.changes)) (outcome_of n c.args.now c.args.command.now)
met_by g c db late digest name n at found are clean =
    let outlined = c.outline-before.ensures (tables_of db) (network_entry_of (tables_of db) found.row).network at.consistent are (found.row, found.there, found.at, refl) in
    at_found (tables_of db) digest name c.args.id n found c.args.now (Ok (c.in_ok-reply.reply, c.in_ok-reply.changes)) (c.in_ok-reply.ensures.outcome db at.pending found.row at.stands at.consistent found.there found.at clean outlined)

-- ---- the command isn't done

pub returns-in_err-reply-clause-ends : goal.returns-in_err-reply-clause-ends
returns-in_err-reply-clause-ends g c db late digest name n at found are =
    let event = Ask digest name c.args.now c.args.command.now in
    ask_if g.S.Store g.R.Render.shown c.row_act.new.conn db late event c.args.now c.from_residual.result c.row_act.ensures.reads.idle at.stands.sound at.consistent (λ clean.
    rows_undone_ends g.S.Store g.R.Render.shown c.row_act.new.conn db late event c.args.now c.from_residual.result c.in_err-reply.field-0.0 c.from_residual.ensures.1 (at_read g.S.Store c.args.conn.now c.row_act.new.conn db late (c.row_act.ensures.reads.stands db) at)
    (λ refusal is. refused_rows (tables_of db) at.consistent digest name c.args.now c.args.command.now c.args.id n found (of_command refusal)
    (subst (λ (w : RowFault). Meets n (as_acted (Err w)) (outcome_of n c.args.now c.args.command.now)) is
    (let outlined = c.outline-before.ensures (tables_of db) (network_entry_of (tables_of db) found.row).network at.consistent are (found.row, found.there, found.at, refl) in
    at_found (tables_of db) digest name c.args.id n found c.args.now (as_acted (Err c.in_err-reply.field-0.0)) (c.in_err-reply.ensures.outcome db at.pending found.row at.stands at.consistent found.there found.at clean outlined)))))

pub returns-in_err-reply-clause-cause : goal.returns-in_err-reply-clause-cause
returns-in_err-reply-clause-cause g c db late digest name n at found reads =
    row_handed (HasCause (state g.S.Store c.args.conn.now) (state g.S.Store c.row_act.new.conn)) c.from_residual.result c.in_err-reply.field-0.0 c.from_residual.ensures.1 (c.in_err-reply.ensures.cause db at.pending found.row at.stands at.consistent found.there found.at)

pub returns-in_err-reply-clause-stops : goal.returns-in_err-reply-clause-stops
returns-in_err-reply-clause-stops g c db late digest name n at found are =
    let P = AskStops (tables_of db) digest name c.args.now c.args.command.now in
    row_handed (HasCauseOr P (state g.S.Store c.args.conn.now) (state g.S.Store c.row_act.new.conn)) c.from_residual.result c.in_err-reply.field-0.0 c.from_residual.ensures.1
    (row_weaker P (state g.S.Store c.args.conn.now) (state g.S.Store c.row_act.new.conn) c.in_err-reply.field-0.0 (c.in_err-reply.ensures.cause db at.pending found.row at.stands at.consistent found.there found.at))

pub returns-in_err-reply-clause-keeps : goal.returns-in_err-reply-clause-keeps
returns-in_err-reply-clause-keeps g c = reads_and_writes c.row_act.ensures.reads (writes_nothing g.S.Store c.row_act.new.conn c.row_act.ensures.reads.idle)

-- ---- its text isn't made

pub returns-in_err-text-clause-ends : goal.returns-in_err-text-clause-ends
returns-in_err-text-clause-ends g c db late digest name n at found are =
    ask_unread g.S.Store g.R.Render.shown _ _ db late _ _ _ _ c.from_residual-in_err-text.ensures.1 (c.row_act.ensures.reads.stands db) at

pub returns-in_err-text-clause-cause : goal.returns-in_err-text-clause-cause
returns-in_err-text-clause-cause g c db late digest name n at found reads = fault_handed (HasCause (state g.S.Store c.args.conn.now) (state g.S.Store c.row_act.new.conn)) c.from_residual-in_err-text.result NoMemory c.from_residual-in_err-text.ensures.1 tt

pub returns-in_err-text-clause-stops : goal.returns-in_err-text-clause-stops
returns-in_err-text-clause-stops g c db late digest name n at found are =
    fault_handed (HasCauseOr (AskStops (tables_of db) digest name c.args.now c.args.command.now) (state g.S.Store c.args.conn.now) (state g.S.Store c.row_act.new.conn)) _ NoMemory c.from_residual-in_err-text.ensures.1 tt

pub returns-in_err-text-clause-keeps : goal.returns-in_err-text-clause-keeps
returns-in_err-text-clause-keeps g c = reads_and_writes c.row_act.ensures.reads (writes_nothing g.S.Store c.row_act.new.conn c.row_act.ensures.reads.idle)

-- ---- its change isn't committed

pub returns-in_err-commit_if-clause-ends : goal.returns-in_err-commit_if-clause-ends
returns-in_err-commit_if-clause-ends g c db late digest name n at found are =
    let event = Ask digest name c.args.now c.args.command.now in
    let there = c.row_act.ensures.reads.stands db at.pending at.stands in
    ask_if g.S.Store g.R.Render.shown c.commit_if.new.conn db late event c.args.now c.from_residual-in_err-commit_if.result c.commit_if.ensures.keeps.idle at.stands.sound at.consistent (λ clean.
    let met = met_by g (goal.at.returns-in_err-commit_if-clause-ends g c).In_ok-reply db late digest name n at found are (c.commit_if.ensures.keeps.clean clean) in
    late_ends g.S.Store g.R.Render.shown c.commit_if.new.conn db late event c.args.now c.from_residual-in_err-commit_if.result c.in_err-commit_if.field-0.0 c.from_residual-in_err-commit_if.ensures.1
    (acts_late g.S.Store g.R.Render.shown c.commit_if.new.conn db at.pending late at.consistent at.steps digest name c.args.now c.args.command.now (c.forms_hold.ensures.asked, c.forms_hold.ensures.forms) c.args.id n found c.in_ok-reply.reply
    c.in_ok-reply.changes met (c.in_err-commit_if.ensures.fault db at.pending found.row there at.consistent found.there found.at)))

pub returns-in_err-commit_if-clause-cause : goal.returns-in_err-commit_if-clause-cause
returns-in_err-commit_if-clause-cause g c db late digest name n at found reads = absurd (true≢false (sym c.in_err-commit_if.ensures.changes ∙ c.in_ok-reply.ensures.change ∙ ap not reads))

pub returns-in_err-commit_if-clause-stops : goal.returns-in_err-commit_if-clause-stops
returns-in_err-commit_if-clause-stops g c db late digest name n at found are =
    let P = AskStops (tables_of db) digest name c.args.now c.args.command.now in
    let why = c.in_err-commit_if.field-0.0 in
    let old = state g.S.Store c.args.conn.now in
    let mid = state g.S.Store c.row_act.new.conn in
    let new = state g.S.Store c.commit_if.new.conn in
    let there = c.row_act.ensures.reads.stands db at.pending at.stands in
    stopped_clean P old new c.from_residual-in_err-commit_if.result (λ clean.
    let met = met_by g (goal.at.returns-in_err-commit_if-clause-stops g c).In_ok-reply db late digest name n at found are (c.commit_if.ensures.keeps.clean clean) in
    stopped_after P old mid new c.from_residual-in_err-commit_if.result c.row_act.ensures.reads.survives c.commit_if.ensures.keeps.survives
    (fault_handed (HasCauseOr P mid new) c.from_residual-in_err-commit_if.result why c.from_residual-in_err-commit_if.ensures.1
    (cause_weaker (StopsIf c.args.id c.in_ok-reply.changes (tables_of db)) P mid new
    (ask_stops (tables_of db) digest name c.args.now c.args.command.now c.args.id n found c.in_ok-reply.reply c.in_ok-reply.changes met c.in_ok-reply.ensures.change) why (c.in_err-commit_if.ensures.cause db at.pending there))))

pub returns-in_err-commit_if-clause-keeps : goal.returns-in_err-commit_if-clause-keeps
returns-in_err-commit_if-clause-keeps g c = reads_and_writes c.row_act.ensures.reads c.commit_if.ensures.keeps

-- ---- it is done

pub returns-clause-ends : goal.returns-clause-ends
returns-clause-ends g c db late digest name n at found are clean =
    let there = c.row_act.ensures.reads.stands db at.pending at.stands in
    let met = met_by g (goal.at.returns-clause-ends g c).In_ok-reply db late digest name n at found are (c.commit_if.ensures.keeps.clean clean) in
    acts_done g.S.Store g.R.Render.shown c.commit_if.new.conn db at.pending late at.consistent at.steps digest name c.args.now c.args.command.now (c.forms_hold.ensures.asked, c.forms_hold.ensures.forms) c.args.id n found c.in_ok-reply.reply
    c.in_ok-reply.changes c.in_ok-text.text.items c.in_ok-reply.ensures.change met (c.in_ok-text.ensures c.args.now n) (c.in_ok-commit_if.ensures.done db at.pending found.row there at.consistent found.there found.at clean) clean

pub returns-clause-keeps : goal.returns-clause-keeps
returns-clause-keeps g c = reads_and_writes c.row_act.ensures.reads c.commit_if.ensures.keeps

-- ---- what stays in memory

pub returns-in_err-reply-clause-memory : goal.returns-in_err-reply-clause-memory
returns-in_err-reply-clause-memory g c db late digest name n at found is =
    unless c.from_residual.result _ (shown_so g.S.Store c.row_act.new.conn db at.pending (IsMemoryOf c.args.memory.now) (c.row_act.ensures.reads.stands db at.pending at.stands) is)

pub returns-clause-memory : goal.returns-clause-memory
returns-clause-memory g c db late digest name n at found is clean live =
    let there = c.row_act.ensures.reads.stands db at.pending at.stands in
    let met = met_by g (goal.at.returns-clause-memory g c).In_ok-reply db late digest name n at found is (c.commit_if.ensures.keeps.clean clean) in
    let formed = found_formed (tables_of db) digest name c.args.id n found in
    memory_so g.S.Store c.commit_if.new.conn db at.pending at.consistent digest name c.args.now c.args.command.now (c.forms_hold.ensures.asked, c.forms_hold.ensures.forms) c.args.id n found c.in_ok-reply.reply c.after.new.self
    c.in_ok-reply.changes met (c.in_ok-commit_if.ensures.done db at.pending found.row there at.consistent found.there found.at clean)
    (λ u after. c.after.ensures (tables_of db) u n is after
    (c.after-outline.ensures n (formed_rules (tables_of db) at.consistent c.args.id n formed) (c.outline-before.ensures (tables_of db) n at.consistent is formed) met)) clean live
