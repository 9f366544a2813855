use Rattle.std.proofs.Common.{sym, ◌∙◌}
use Rattle.wgr_dump.specs.Fields.{SpellsMasked}
use Rattle.wgr_dump.specs.MeantPrefixes.{coded_prefix}
use Rattle.wgr_dump.specs.Unique.{one_masked}
use Rattle.wgr_dump.specs.PartsLeft.{left}
use Rattle.wgr_dump.proofs.MeantLemmas.{meant_left, meant_none, meant_step, steps_on}
use Rattle.wgr_dump.proofs.allowed.AllowedIterator.next.Goals as goal

pub invariant_of-self-inside : goal.invariant_of-self-inside
invariant_of-self-inside c = (meant_left SpellsMasked _ _ c.next.result c.next.ensures c.self.inside.known, tt)

pub returns-in_err-item-clause-steps : goal.returns-in_err-item-clause-steps
returns-in_err-item-clause-steps c =
    let old = meant_none SpellsMasked coded_prefix one_masked (left c.self.inside.items) c.in_err-item.ensures.0 c.self.inside.known in
    rw c.from_residual.ensures (sym c.self.view_is ∙ old, meant_none SpellsMasked coded_prefix one_masked (left c.next.new.self) c.in_err-item.ensures.1 _)

pub returns-clause-steps : goal.returns-clause-steps
returns-clause-steps c =
    let step = meant_step SpellsMasked coded_prefix one_masked c.in_ok-item.item.now (left c.self.inside.items) (left c.next.new.self) c.in_ok-item.ensures c.self.inside.known _ c.read_masked.result c.read_masked.ensures.spelled c.read_masked.ensures.none in
    rw (← c.self.view_is) step

pub returns-clause-goes : goal.returns-clause-goes
returns-clause-goes c =
    let step = meant_step SpellsMasked coded_prefix one_masked c.in_ok-item.item.now (left c.self.inside.items) (left c.next.new.self) c.in_ok-item.ensures c.self.inside.known _ c.read_masked.result c.read_masked.ensures.spelled c.read_masked.ensures.none in
    rw (← c.self.view_is) (steps_on _ (λ s. tt) _ _ c.read_masked.result step)
