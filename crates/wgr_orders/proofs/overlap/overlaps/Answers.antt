-- Two pools that aren't disjoint overlap.
use Rattle.std.proofs.Common.{◌≡◌, Bool, true, false, not, sym, subst, inl, inr, refl, true≢false}
use Rattle.std.specs.Prelude.{IsTrue, ◌↔◌}
use Rattle.wgr_text.specs.Prefix.{AreDisjoint, PrefixValue}
use Rattle.wgr_pool.proofs.Bools.{decide}
use Rattle.wgr_pool.specs.Pool.{IsPool}
use Rattle.wgr_model.specs.Consistent.{overlaps}
use Rattle.wgr_model.proofs.PoolLemmas.{overlaps_are_decided}
use Rattle.wgr_orders.proofs.overlap.overlaps.Goals as goal

told : (p q : PrefixValue) (b : Bool) → IsPool p → IsPool q → IsTrue b ↔ AreDisjoint p q → not b ≡ overlaps p q
told p q true pools others is = sym ((overlaps_are_decided p q pools others).1 (is.0 refl))
told p q false pools others is = elim (decide (overlaps p q)) [
  | inl yes_it_does ↦ sym yes_it_does
  | inr apart ↦ absurd (true≢false (sym (is.1 ((overlaps_are_decided p q pools others).0 apart))))
]

pub returns : goal.returns
returns c =
    let is = subst (λ (p : PrefixValue). IsTrue c.disjoint.result ↔ AreDisjoint p c.args.other.now) c.prefix.ensures.value (subst (λ (q : PrefixValue). IsTrue c.disjoint.result ↔ AreDisjoint c.prefix.result q) c.prefix-2.ensures.value c.disjoint.ensures) in
    told c.args.one.now c.args.other.now c.disjoint.result c.prefix.ensures.is_pool c.prefix-2.ensures.is_pool is
