use Rattle.std.proofs.Common.{◌-◌, ◌≤◌, sym, ap, ◌∙◌, arith}
use Rattle.sqlite.specs.Held.{state}
use Rattle.wgr_text.specs.Prefix.{width}
use Rattle.wgr_sql.specs.Causes.{HasCause}
use Rattle.wgr_sql.proofs.CauseLemmas.{cause_after, handed}
use Rattle.wgr_columns.specs.Decode.{tables_of}
use Rattle.wgr_rows.proofs.OwnerRows.{begins, found_here, goes_on, nobodys}
use Rattle.wgr_tables.proofs.ReadLemmas.{reads_next, reads_still}
use Rattle.wgr_rows.proofs.owner.owner_row.Goals as goal

pub loop-length-init : goal.loop-length-init
loop-length-init g c = record {
  reads = reads_still g.S.Store c.args.conn.now c.requires.idle;
  none = λ db pending w stood is here id clean. begins (tables_of db) is w here c.args.now c.args.address.now c.width-width.result (c.width-width.ensures ∙ ap width c.family.ensures.value);
}

pub returns-in_err-number-clause-reads : goal.returns-in_err-number-clause-reads
returns-in_err-number-clause-reads g c = reads_next c.loop-length.invariant.reads c.masked_row.ensures.reads

pub returns-in_err-number-clause-cause : goal.returns-in_err-number-clause-cause
returns-in_err-number-clause-cause g c db pending w stood is here id =
    let old = state g.S.Store c.args.conn.now in
    let mid = state g.S.Store c.loop-length.conn in
    let end = state g.S.Store c.masked_row.new.conn in
    handed (HasCause old end) c.from_residual.result c.in_err-number.field-0.0 c.from_residual.ensures.1
    (cause_after old mid end ⊥ ⊥ (λ _. ⊥) (λ _. ⊥) c.loop-length.invariant.reads.survives c.masked_row.ensures.reads.survives (λ h. h) c.in_err-number.field-0.0 (c.in_err-number.ensures.cause db pending w (c.loop-length.invariant.reads.stands db pending stood) is here id))

pub returns-in-Some-clause-reads : goal.returns-in-Some-clause-reads
returns-in-Some-clause-reads g c = reads_next c.loop-length.invariant.reads c.masked_row.ensures.reads

pub returns-in-Some-clause-found : goal.returns-in-Some-clause-found
returns-in-Some-clause-found g c db pending w stood is here id clean =
    let length = c.loop-length.length in
    let top = c.width-width.ensures ∙ ap width c.family.ensures.value in
    let short : length - 1 ≤ width c.args.address.now.family = omega (arith, c.loop-length.auto.length, top) in
    let none = c.loop-length.invariant.none db pending w stood is here id (c.masked_row.ensures.reads.clean clean) in
    let led = c.in_ok-number.ensures.found short db pending w (c.loop-length.invariant.reads.stands db pending stood) is here id clean in
    found_here (tables_of db) is w here c.args.now c.args.address.now length (omega (arith, c.loop-length-test.true)) none c.in-Some.number (sym c.in-Some.is ∙ led)

pub loop-length-preserved : goal.loop-length-preserved
loop-length-preserved g c = record {
  reads = reads_next c.loop-length.invariant.reads c.masked_row.ensures.reads;
  none = λ db pending w stood is here id clean.
      let length = c.loop-length.length in
      let top = c.width-width.ensures ∙ ap width c.family.ensures.value in
      let short : length - 1 ≤ width c.args.address.now.family = omega (arith, c.loop-length.auto.length, top) in
      let none = c.loop-length.invariant.none db pending w stood is here id (c.masked_row.ensures.reads.clean clean) in
      let led = c.in_ok-number.ensures.found short db pending w (c.loop-length.invariant.reads.stands db pending stood) is here id clean in
      goes_on (tables_of db) is w here c.args.now c.args.address.now length (omega (arith, c.loop-length-test.true)) none (sym c.in_default.is ∙ led);
}

pub returns-clause-found : goal.returns-clause-found
returns-clause-found g c db pending w stood is here id clean =
    nobodys (tables_of db) is w here c.args.now c.args.address.now c.loop-length.length (omega (arith, c.loop-length-test.false)) (c.loop-length.invariant.none db pending w stood is here id clean)
