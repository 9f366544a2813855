-- the search over numbers gives the least free address
use Rattle.std.proofs.Common.{◌≡◌, ℕ, zero, suc, ◌+◌, ◌<◌, ◌≤◌, inl, inr, Bool, true, false, refl, sym, ap, ◌∙◌, subst, arith, Option, Some, None}
use Rattle.std.proofs.lemmas.Bool.{cases_lt}
use Rattle.wgr_text.specs.declared.addr.Family.{Family}
use Rattle.wgr_text.specs.Prefix.{AddrValue}
use Rattle.wgr_pool.specs.Allot.{first_from}

pub first_is : (f : Family) (passes : AddrValue → Bool) (start count n : ℕ) → start ≤ n → n < start + count → passes (record { family = f; number = n }) ≡ true → ((k : ℕ) → start ≤ k → k < n → passes (record { family = f; number = k }) ≡ false) → first_from f passes start count ≡ Some (record { family = f; number = n })
first_is f passes start zero n a b hit miss = absurd (omega (arith, a, b))
first_is f passes start (suc count) n a b hit miss =
    elim (cases_lt start n) [
      | inl l ↦
          ap (λ t. elim t as (λ _. Option AddrValue) [ true ↦ Some (record { family = f; number = start }) | false ↦ first_from f passes (start + 1) count ]) (miss start (omega arith) l)
          ∙ first_is f passes (start + 1) count n (omega arith) (omega (arith, b)) hit (λ k from to. miss k (omega (arith, from)) to)
      | inr g ↦
          let e : n ≡ start = omega (arith, a, g) in
          ap (λ t. elim t as (λ _. Option AddrValue) [ true ↦ Some (record { family = f; number = start }) | false ↦ first_from f passes (start + 1) count ]) (subst (λ m. passes (record { family = f; number = m }) ≡ true) e hit)
          ∙ ap (λ m. Some (record { family = f; number = m })) (sym e)
    ]

pub first_none : (f : Family) (passes : AddrValue → Bool) (start count : ℕ) → ((k : ℕ) → start ≤ k → k < start + count → passes (record { family = f; number = k }) ≡ false) → first_from f passes start count ≡ None
first_none f passes start zero miss = refl
first_none f passes start (suc count) miss =
    ap (λ t. elim t as (λ _. Option AddrValue) [ true ↦ Some (record { family = f; number = start }) | false ↦ first_from f passes (start + 1) count ]) (miss start (omega arith) (omega arith))
    ∙ first_none f passes (start + 1) count (λ k from to. miss k (omega (arith, from)) (omega (arith, to)))
