use Rattle.std.proofs.Common.{ℕ, ap, subst, sym, ◌∙◌}
use Rattle.wgr_core.specs.Network.{lowest_free}
use Rattle.wgr_outline.specs.Outline.{IsFloor}
use Rattle.wgr_outline.proofs.FloorLemmas.{from_zero, lowest_is_floor}
use Rattle.wgr_outline.proofs.outline.Outline.of.Goals as goal
use Rattle.wgr_outline.proofs.outline.Outline.of.Goals.{in-Some, in-None}

pub returns : goal.returns
returns c =
    let n = c.args.network.now in
    record {
      ends = c.soonest_end.ensures;
      floor = elim c.match-lowest_free.branch [
        | in-Some w ↦ subst (λ (f : ℕ). IsFloor n f) (sym (w.floor-is ∙ w.number-floor.ensures.value)) (lowest_is_floor n c.rules_hold.ensures w.in-Some.address (sym (c.lowest_free.ensures ∙ ap (lowest_free n) c.pool-pool.ensures.value) ∙ w.in-Some.is))
        | in-None w ↦ subst (λ (f : ℕ). IsFloor n f) (sym w.floor-is) (from_zero n)
      ];
    }
