-- the tests of the model and the facts of the pool
use Rattle.std.proofs.Common.{◌≡◌, ◌≢◌, ℕ, ◌+◌, ◌-◌, ◌^◌, ◌<◌, ◌≤◌, ◌↔◌, inl, inr, Bool, true, false, not, ◌&&◌, refl, sym, ap, ◌∙◌, List, subst, arith, Some, None}
use Rattle.std.proofs.lemmas.Bool.Decides.{nat_tests}
use Rattle.wgr_text.specs.declared.addr.Family.{Family}
use Rattle.wgr_text.specs.declared.addr.Family.TheVariants.{V4, V6}
use Rattle.std.proofs.lemmas.Nat.{pow_pos}
use Rattle.wgr_text.specs.Prefix.{AddrValue, PrefixValue, IsAddr, IsIn, block, width, first_rank}
use Rattle.wgr_text.proofs.Spans.{is_in_iff, prefix_ends}
use Rattle.wgr_text.specs.declared.prefix.Span.{Span}
use Rattle.wgr_pool.specs.Spans.{IsHeld, IsLowestFree, IsFull}
use Rattle.wgr_pool.proofs.Bools.{decide, and_true, not_true}
use Rattle.wgr_pool.proofs.PrefixLemmas.{same_family_is, same_family_self}
use Rattle.wgr_pool.proofs.First.{first_is, first_none}
use Rattle.wgr_pool.specs.Pool.{IsPool, IsAssignable, reserved}
use Rattle.wgr_pool.specs.PrefixTests.{same_family, has}
use Rattle.wgr_pool.specs.Allot.{is_assignable, lowest_where}

pub has_iff : (p : PrefixValue) (a : AddrValue) → (has p a ≡ true) ↔ IsIn p a
has_iff p a = (
  (λ h. (sym (same_family_is p.address.family a.family (grind arith)), grind (arith, nat_tests))),
  (λ h. let s = ap (same_family p.address.family) h.0 ∙ same_family_self p.address.family in grind (arith, nat_tests)),
)

tail_out : (f g : Family) (a n b : ℕ) → g ≡ f → (g ≡ V4 → a + 1 ≢ n + b) → a < n + b → a < n + b - reserved f
tail_out V4 g a n b same last h = let l = last same in omega (arith, l, h)
tail_out V6 g a n b same last h = omega (arith, h)

tail_in : (f g : Family) (a n b : ℕ) → g ≡ f → g ≡ V4 → 1 ≤ b → a < n + b - reserved f → a + 1 ≢ n + b
tail_in f g a n b same is some h e = let v : f ≡ V4 = sym same ∙ is in let r = ap reserved v in omega (arith, h, e, r, some)

pub assignable_iff : (pool : PrefixValue) (a : AddrValue) → IsPool pool → (is_assignable pool a ≡ true) ↔ IsAssignable pool a
assignable_iff pool a is =
    let some = pow_pos (width pool.address.family - pool.length) in (
      (λ h.
          let i = (has_iff pool a).0 (grind arith) in
          let low : pool.address.number + 2 ≤ a.number = grind (arith, nat_tests) in
          let high : a.number < pool.address.number + block pool.address.family pool.length - reserved pool.address.family = grind (arith, nat_tests) in
          record {
            in_pool = i;
            not_first = λ e. omega (arith, e, low);
            not_server = λ e. omega (arith, e, low);
            not_last = λ v. tail_in pool.address.family a.family a.number pool.address.number _ i.0 v some high;
          }),
      (λ h.
          let i = (has_iff pool a).1 h.in_pool in
          let j = (is_in_iff pool is.1 a).0 h.in_pool in
          let low : pool.address.number + 2 ≤ a.number = omega (arith, j.1, h.not_first, h.not_server) in
          let high = tail_out pool.address.family a.family a.number pool.address.number _ j.0 h.not_last j.2 in
          grind (arith, nat_tests)),
    )

clash : (a : Bool) → a ≡ false → a ≡ true → ⊥
clash a e f = cc

pub lowest_is : (pool : PrefixValue) (taken : AddrValue → Bool) (spans : List Span) (a : AddrValue) → IsPool pool → ((b : AddrValue) → IsAddr b → (taken b ≡ true) ↔ IsHeld spans b) → IsLowestFree pool spans a → lowest_where pool taken ≡ Some a
lowest_is pool taken spans a is same low =
    let j = (is_in_iff pool is.1 a).0 low.is_free.1.in_pool in
    let whole : record { family = pool.address.family; number = a.number } ≡ a = ap (λ f. record { family = f; number = a.number }) (sym j.0) in
    let given = (assignable_iff pool a is).1 low.is_free.1 in
    let free : taken a ≡ false = elim (decide (taken a)) [ inl t ↦ absurd (low.is_free.2 ((same a low.is_free.0).0 t)) | inr f ↦ f ] in
    let passes : is_assignable pool a && not (taken a) ≡ true = grind (arith, given, free) in
    let fits : a.number < 2 ^ width pool.address.family = let w = ap (λ f. 2 ^ width f) j.0 in omega (arith, low.is_free.0, w) in
    first_is pool.address.family (λ b. is_assignable pool b && not (taken b)) pool.address.number _ a.number j.1 j.2
    (subst (λ b. is_assignable pool b && not (taken b) ≡ true) (sym whole) passes)
    (λ k from to.
    let b : AddrValue = record { family = pool.address.family; number = k } in
    elim (decide (is_assignable pool b && not (taken b))) [
      | inl t ↦
          let t1 : is_assignable pool b ≡ true = (and_true (is_assignable pool b) (not (taken b)) t).0 in
          let t2 : taken b ≡ false = not_true (taken b) (and_true (is_assignable pool b) (not (taken b)) t).1 in
          let b_fits : IsAddr b = omega (arith, to, fits) in
          let r = low.is_least b (b_fits, (assignable_iff pool b is).0 t1, λ h. clash (taken b) t2 ((same b b_fits).1 h)) in
          let e = ap first_rank j.0 in
          absurd (omega (arith, r, to, e))
      | inr f ↦ f
    ])
    ∙ ap (λ x. Some x) whole

pub full_is : (pool : PrefixValue) (taken : AddrValue → Bool) (spans : List Span) → IsPool pool → ((b : AddrValue) → IsAddr b → (taken b ≡ true) ↔ IsHeld spans b) → IsFull pool spans → lowest_where pool taken ≡ None
full_is pool taken spans is same full =
    first_none pool.address.family (λ b. is_assignable pool b && not (taken b)) pool.address.number _
    (λ k from to.
    let b : AddrValue = record { family = pool.address.family; number = k } in
    elim (decide (is_assignable pool b && not (taken b))) [
      | inl t ↦
          let t1 : is_assignable pool b ≡ true = (and_true (is_assignable pool b) (not (taken b)) t).0 in
          let t2 : taken b ≡ false = not_true (taken b) (and_true (is_assignable pool b) (not (taken b)) t).1 in
          let ends = prefix_ends pool is.1 is.0 in
          let b_fits : IsAddr b = omega (arith, to, ends) in
          absurd (clash (taken b) t2 ((same b b_fits).1 (full b b_fits ((assignable_iff pool b is).0 t1))))
      | inr f ↦ f
    ])

pub same_test : {P : Type 0} (r b : Bool) → (r ≡ true) ↔ P → (b ≡ true) ↔ P → r ≡ b
same_test true true f g = refl
same_test false false f g = refl
same_test true false f g = sym (g.1 (f.0 refl))
same_test false true f g = f.1 (g.0 refl)
