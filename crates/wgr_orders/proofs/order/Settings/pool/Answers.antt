use Rattle.std.proofs.Common.{◌≡◌, true, false, sym, ap, subst, ◌∙◌, inl, inr, refl, true≢false}
use Rattle.wgr_pool.proofs.Bools.{decide}
use Rattle.wgr_pool.specs.Pool.{IsPool}
use Rattle.wgr_text.specs.Prefix.{PrefixValue}
use Rattle.wgr_model.specs.Consistent.{is_pool}
use Rattle.wgr_model.specs.Steps.{Settings}
use Rattle.wgr_model.proofs.PoolLemmas.{pools_are_decided}
use Rattle.wgr_orders.proofs.order.Settings.pool.Goals as goal

-- what is no pool fails the test
not_told : (p : PrefixValue) → (IsPool p → false ≡ true) → is_pool p ≡ false
not_told p none = elim (decide (is_pool p)) [
  | inl pool ↦ absurd (true≢false (sym (none ((pools_are_decided p).0 pool))))
  | inr not_one ↦ not_one
]

pub returns-in-Ok-clause-some : goal.returns-in-Ok-clause-some
returns-in-Ok-clause-some c =
    let pool : PrefixValue = record { address = c.self.inside.address; length = c.self.inside.length } in
    let same : pool ≡ c.args.self.now.pool = ap {A = Settings} (λ s. s.pool) c.self.view_is in
    (subst (λ (p : PrefixValue). is_pool p ≡ true) same ((pools_are_decided pool).1 (c.in-Ok.ensures.is_pool.0 refl)), c.in-Ok.ensures.value ∙ same)

pub returns-in-Err-clause-none : goal.returns-in-Err-clause-none
returns-in-Err-clause-none c =
    let pool : PrefixValue = record { address = c.self.inside.address; length = c.self.inside.length } in
    let same : pool ≡ c.args.self.now.pool = ap {A = Settings} (λ s. s.pool) c.self.view_is in
    subst (λ (p : PrefixValue). is_pool p ≡ false) same (not_told pool (λ is. c.in-Err.ensures.is_pool.1 is))
