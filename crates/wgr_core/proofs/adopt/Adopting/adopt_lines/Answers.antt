use Rattle.std.proofs.Common.{◌≡◌, true, false, Err, sym, subst, ◌∙◌}
use Rattle.wgr_core.specs.declared.fault.ActFault.{ActFault}
use Rattle.wgr_core.specs.Adoption.{adopt_lines, names_address}
use Rattle.wgr_core.specs.Draft.{MeetsLines, is_asked_for, numbered_lines}
use Rattle.wgr_core.proofs.AdoptingLemmas.{lines_go_on, lines_go_past, lines_stop}
use Rattle.wgr_core.proofs.adopt.Adopting.adopt_lines.Goals as goal

pub loop-index-preserved : goal.loop-index-preserved
loop-index-preserved c =
    let line = c.index-lines-index.result in
    let so = c.loop-index.invariant in
    let asked : is_asked_for c.args.naming (names_address c.args.pool.now line) ≡ true = sym c.is_asked_for.ensures ∙ c.if-not-is_asked_for.false in
    let on = lines_go_on c.args.self.now c.loop-index.self c.adopt_line.new.self c.args.pool.now c.args.naming c.args.lines.now c.loop-index.index line (adopt_lines c.args.self.now.so_far (numbered_lines c.args.pool.now c.args.naming 2 c.args.lines.now))
    c.loop-index-test.true c.index-lines-index.is asked (record { left = so.left; kept = so.kept }) c.in-Ok.ensures in
    record { left = on.left; kept = on.kept }

pub loop-index-preserved-then-not-is_asked_for : goal.loop-index-preserved-then-not-is_asked_for
loop-index-preserved-then-not-is_asked_for c =
    let line = c.index-lines-index.result in
    let so = c.loop-index.invariant in
    let skipped : is_asked_for c.args.naming (names_address c.args.pool.now line) ≡ false = sym c.is_asked_for.ensures ∙ c.if-not-is_asked_for.true in
    record {
      left = lines_go_past c.loop-index.self.so_far c.args.pool.now c.args.naming c.args.lines.now c.loop-index.index line c.loop-index-test.true c.index-lines-index.is skipped ∙ so.left;
      kept = so.kept;
    }

pub returns-in-Err : goal.returns-in-Err
returns-in-Err c =
    let line = c.index-lines-index.result in
    let whole = adopt_lines c.args.self.now.so_far (numbered_lines c.args.pool.now c.args.naming 2 c.args.lines.now) in
    let asked : is_asked_for c.args.naming (names_address c.args.pool.now line) ≡ true = sym c.is_asked_for.ensures ∙ c.if-not-is_asked_for.false in
    subst (λ (w : ActFault). MeetsLines c.args.self.now (Err w) whole) (sym c.in_line.ensures)
    (lines_stop c.args.self.now c.loop-index.self c.in-Err.why c.args.pool.now c.args.naming c.args.lines.now c.loop-index.index line whole c.loop-index-test.true c.index-lines-index.is asked c.loop-index.invariant.left c.in-Err.ensures)
