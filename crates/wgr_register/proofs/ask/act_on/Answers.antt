use Rattle.std.proofs.Common.{Err, subst, true≢false, sym, ◌∙◌, ap, not, refl, ◌≡◌}
use Rattle.wgr_core.specs.Change.{Meets}
use Rattle.wgr_core.specs.Outcome.{outcome_of}
use Rattle.wgr_core.specs.declared.fault.ActFault.{ActFault}
use Rattle.wgr_model.specs.Steps.{Ask}
use Rattle.wgr_sql.specs.declared.fault.Fault.TheVariants.{NoMemory}
use Rattle.wgr_columns.specs.Decode.{tables_of}
use Rattle.wgr_register.specs.Memory.{IsMemoryOf}
use Rattle.wgr_register.proofs.AskLemmas.{acts_done, acts_late, refused_rows}
use Rattle.wgr_register.proofs.LoadedLemmas.{found_formed, shown_so, unless, unless_late}
use Rattle.wgr_register.proofs.StandLemmas.{at_more, late_ends, undone_ends}
use Rattle.wgr_register.proofs.CauseLemmas.{fault_handed, undone_memory, ask_stops, memory_stops, writes_nothing}
use Rattle.sqlite.specs.Held.{state}
use Rattle.wgr_sql.specs.Causes.{HasCauseOr}
use Rattle.wgr_register.specs.Causes.{AskStops, StopsIf}
use Rattle.wgr_sql.proofs.CauseLemmas.{cause_weaker}
use Rattle.wgr_register.proofs.KnownLemmas.{formed_rules}
use Rattle.wgr_register.proofs.MemoryLemmas.{memory_so}
use Rattle.wgr_register.proofs.ask.act_on.Goals as goal

-- ---- the command isn't done

pub returns-in-Err-clause-ends : goal.returns-in-Err-clause-ends
returns-in-Err-clause-ends g c db late digest name at found =
    undone_ends g.S.Store g.R.Render.shown c.args.conn.now db late (Ask digest name c.args.now c.args.command.now) c.args.now (Err c.from.result) c.in-Err.why c.from.ensures at
    (λ refusal is. refused_rows (tables_of db) at.consistent digest name c.args.now c.args.command.now c.args.id c.args.network found refusal
    (subst (λ (w : ActFault). Meets c.args.network (Err w) (outcome_of c.args.network c.args.now c.args.command.now)) is c.in-Err.ensures.outcome))

-- ---- its text isn't made, or its change not committed

pub returns-in_err-text-clause-ends : goal.returns-in_err-text-clause-ends
returns-in_err-text-clause-ends g c db late digest name at found =
    let event = Ask digest name c.args.now c.args.command.now in
    late_ends g.S.Store g.R.Render.shown c.args.conn.now db late event c.args.now c.from_residual.result NoMemory c.from_residual.ensures.1 (at_more g.S.Store c.args.conn.now db late event at)

pub returns-in_err-commit_if-clause-ends : goal.returns-in_err-commit_if-clause-ends
returns-in_err-commit_if-clause-ends g c db late digest name at found =
    late_ends g.S.Store g.R.Render.shown c.commit_if.new.conn db late (Ask digest name c.args.now c.args.command.now) c.args.now c.from_residual-in_err-commit_if.result c.in_err-commit_if.field-0.0 c.from_residual-in_err-commit_if.ensures.1
    (acts_late g.S.Store g.R.Render.shown c.commit_if.new.conn db at.pending late at.consistent at.steps digest name c.args.now c.args.command.now (c.forms_hold.ensures.asked, c.forms_hold.ensures.forms) c.args.id c.args.network found c.in-Ok.done.0
    c.in-Ok.done.1 c.in-Ok.ensures.outcome (c.in_err-commit_if.ensures.fault db at.pending found.row at.stands at.consistent found.there found.at))

pub returns-in_err-text-clause-memory : goal.returns-in_err-text-clause-memory
returns-in_err-text-clause-memory g c db late digest name at found held = unless_late c.from_residual.result NoMemory _ c.from_residual.ensures.1

pub returns-in_err-commit_if-clause-memory : goal.returns-in_err-commit_if-clause-memory
returns-in_err-commit_if-clause-memory g c db late digest name at found held = unless_late c.from_residual-in_err-commit_if.result c.in_err-commit_if.field-0.0 _ c.from_residual-in_err-commit_if.ensures.1

-- ---- it is done

pub returns-clause-ends : goal.returns-clause-ends
returns-clause-ends g c db late digest name at found clean =
    acts_done g.S.Store g.R.Render.shown c.commit_if.new.conn db at.pending late at.consistent at.steps digest name c.args.now c.args.command.now (c.forms_hold.ensures.asked, c.forms_hold.ensures.forms) c.args.id c.args.network found c.in-Ok.done.0
    c.in-Ok.done.1 c.in_ok-text.text.items c.in-Ok.ensures.change c.in-Ok.ensures.outcome c.in_ok-text.ensures (c.in_ok-commit_if.ensures.done db at.pending found.row at.stands at.consistent found.there found.at clean) clean

-- ---- a reading meets no fault but want of memory

pub returns-in-Err-clause-reading : goal.returns-in-Err-clause-reading
returns-in-Err-clause-reading g c reads = undone_memory c.from.result c.in-Err.why c.from.ensures

pub returns-in_err-text-clause-reading : goal.returns-in_err-text-clause-reading
returns-in_err-text-clause-reading g c reads = fault_handed (λ why. why ≡ NoMemory) c.from_residual.result NoMemory c.from_residual.ensures.1 refl

pub returns-in_err-commit_if-clause-reading : goal.returns-in_err-commit_if-clause-reading
returns-in_err-commit_if-clause-reading g c reads = absurd (true≢false (sym c.in_err-commit_if.ensures.changes ∙ c.in-Ok.ensures.change ∙ ap not reads))

-- ---- why it ends by a fault

pub returns-in-Err-clause-stops : goal.returns-in-Err-clause-stops
returns-in-Err-clause-stops g c db late digest name at found = memory_stops (AskStops (tables_of db) digest name c.args.now c.args.command.now) (state g.S.Store c.args.conn.now) (state g.S.Store c.args.conn.now) (Err c.from.result) (undone_memory c.from.result c.in-Err.why c.from.ensures)

pub returns-in_err-text-clause-stops : goal.returns-in_err-text-clause-stops
returns-in_err-text-clause-stops g c db late digest name at found = fault_handed (HasCauseOr (AskStops (tables_of db) digest name c.args.now c.args.command.now) (state g.S.Store c.args.conn.now) (state g.S.Store c.args.conn.now)) c.from_residual.result NoMemory c.from_residual.ensures.1 tt

pub returns-in_err-commit_if-clause-stops : goal.returns-in_err-commit_if-clause-stops
returns-in_err-commit_if-clause-stops g c db late digest name at found =
    let why = c.in_err-commit_if.field-0.0 in
    fault_handed (HasCauseOr (AskStops (tables_of db) digest name c.args.now c.args.command.now) (state g.S.Store c.args.conn.now) (state g.S.Store c.commit_if.new.conn)) c.from_residual-in_err-commit_if.result why c.from_residual-in_err-commit_if.ensures.1
    (cause_weaker (StopsIf c.args.id c.in-Ok.done.1 (tables_of db)) (AskStops (tables_of db) digest name c.args.now c.args.command.now) (state g.S.Store c.args.conn.now) (state g.S.Store c.commit_if.new.conn)
    (ask_stops (tables_of db) digest name c.args.now c.args.command.now c.args.id c.args.network found c.in-Ok.done.0 c.in-Ok.done.1 c.in-Ok.ensures.outcome c.in-Ok.ensures.change) why (c.in_err-commit_if.ensures.cause db at.pending at.stands))

pub returns-in-Err-clause-keeps : goal.returns-in-Err-clause-keeps
returns-in-Err-clause-keeps g c = writes_nothing g.S.Store c.args.conn.now c.requires.idle

pub returns-in_err-text-clause-keeps : goal.returns-in_err-text-clause-keeps
returns-in_err-text-clause-keeps g c = writes_nothing g.S.Store c.args.conn.now c.requires.idle

-- ---- what stays in memory

pub returns-in-Err-clause-memory : goal.returns-in-Err-clause-memory
returns-in-Err-clause-memory g c db late digest name at found is =
    unless (Err c.from.result) _
    (shown_so g.S.Store c.args.conn.now db at.pending (IsMemoryOf c.keep.new.self) at.stands (c.keep.ensures (tables_of db) is (found_formed (tables_of db) digest name c.args.id c.args.network found)))

pub returns-clause-memory : goal.returns-clause-memory
returns-clause-memory g c db late digest name at found is clean live =
    let n = c.args.network in
    let formed = found_formed (tables_of db) digest name c.args.id n found in
    memory_so g.S.Store c.commit_if.new.conn db at.pending at.consistent digest name c.args.now c.args.command.now (c.forms_hold.ensures.asked, c.forms_hold.ensures.forms) c.args.id n found c.in-Ok.done.0 c.keep_changed.new.self
    c.in-Ok.done.1 c.in-Ok.ensures.outcome (c.in_ok-commit_if.ensures.done db at.pending found.row at.stands at.consistent found.there found.at clean)
    (λ u after. c.keep_changed.ensures u
    (c.after.ensures (tables_of db) u n is after
    (c.after-outline.ensures n (formed_rules (tables_of db) at.consistent c.args.id n formed) (c.outline_with-before.ensures (tables_of db) at.consistent is formed) c.in-Ok.ensures.outcome)) after.own) clean live
