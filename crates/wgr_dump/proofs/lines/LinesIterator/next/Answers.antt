use Rattle.std.proofs.Common.{sym, ◌∙◌}
use Rattle.wgr_dump.specs.Dump.{IsPeerLine}
use Rattle.wgr_text.specs.Lines.{lines_of}
use Rattle.wgr_dump.specs.MeantLines.{coded_line}
use Rattle.wgr_dump.specs.Unique.{one_peer_line}
use Rattle.wgr_text.proofs.LineLemmas.{no_lines, first_and_others}
use Rattle.wgr_dump.proofs.MeantLemmas.{meant_after, meant_none, meant_step, steps_on}
use Rattle.wgr_dump.proofs.lines.LinesIterator.next.Goals as goal

pub returns-then-is_empty-clause-steps : goal.returns-then-is_empty-clause-steps
returns-then-is_empty-clause-steps c =
    let none = sym c.self.view_is ∙ meant_none IsPeerLine coded_line one_peer_line (lines_of c.self.inside.rest.now) (no_lines c.self.inside.rest.now (sym c.if-is_empty.ensures)) c.self.inside.known in
    (none, none)

pub invariant_of-self-inside : goal.invariant_of-self-inside
invariant_of-self-inside c =
    (meant_after IsPeerLine _ _ _ (first_and_others c.self.inside.rest.now c.first_line.result.0.now c.first_line.result.1.now c.if-is_empty.ensures c.first_line.ensures.line) c.self.inside.known, tt)

pub returns-clause-steps : goal.returns-clause-steps
returns-clause-steps c =
    let split = first_and_others c.self.inside.rest.now c.first_line.result.0.now c.first_line.result.1.now c.if-is_empty.ensures c.first_line.ensures.line in
    rw (← c.self.view_is) (meant_step IsPeerLine coded_line one_peer_line _ _ _ split c.self.inside.known _ c.read_peer_line.result c.read_peer_line.ensures.spelled c.read_peer_line.ensures.none)

pub returns-clause-goes : goal.returns-clause-goes
returns-clause-goes c =
    let split = first_and_others c.self.inside.rest.now c.first_line.result.0.now c.first_line.result.1.now c.if-is_empty.ensures c.first_line.ensures.line in
    let step = meant_step IsPeerLine coded_line one_peer_line _ _ _ split c.self.inside.known _ c.read_peer_line.result c.read_peer_line.ensures.spelled c.read_peer_line.ensures.none in
    rw (← c.self.view_is) (steps_on _ (λ s. tt) _ _ c.read_peer_line.result step)
