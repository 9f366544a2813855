use Rattle.std.proofs.Common.{◌≡◌, ◌≢◌, ℕ, ◌+◌, ◌-◌, ◌^◌, ◌<◌, ◌≤◌, arith, refl, sym, ap, ◌∙◌}
use Rattle.std.proofs.Math.Nat.{pow-le-pow_right}
use Rattle.wgr_text.specs.declared.addr.Family.{Family}
use Rattle.wgr_text.specs.declared.addr.Family.TheVariants.{V4, V6}
use Rattle.wgr_text.specs.Prefix.{AddrValue, PrefixValue, IsSpanOf, IsEndsOf, width, rank, first_rank}
use Rattle.wgr_text.proofs.Spans.{prefix_ends}
use Rattle.wgr_pool.specs.Pool.{IsPool, IsPoolLength, IsRangeOf, reserved}

pub room : (f : Family) (k : ℕ) → IsPoolLength f k → 4 ≤ 2 ^ (width f - k)
room V4 k h = let two : 2 ≤ 32 - k = omega (arith, h.1) in let p : 2 ^ 2 ≤ 2 ^ (32 - k) = pow-le-pow_right (let o : 1 ≤ 2 = omega arith in o) two in omega (arith, p)
room V6 k h = let two : 2 ≤ 128 - k = omega (arith, h.1) in let p : 2 ^ 2 ≤ 2 ^ (128 - k) = pow-le-pow_right (let o : 1 ≤ 2 = omega arith in o) two in omega (arith, p)

-- a pool has at least four addresses
pub pool_room : (p : PrefixValue) (lo hi : AddrValue) → IsPool p → IsEndsOf p lo hi → lo.number + 3 ≤ hi.number
pool_room p lo hi pool ends = let r = room p.address.family p.length pool.2 in let n = ap (λ a. a.number) ends.first in omega (arith, r, n, ends.last)

pub reserved_most : (f : Family) → reserved f ≤ 1
reserved_most V4 = omega arith
reserved_most V6 = omega arith

pub hi_fits : (p : PrefixValue) (lo hi : AddrValue) → IsSpanOf p lo hi → IsEndsOf p lo hi → hi.number < 2 ^ width lo.family
hi_fits p lo hi span ends = let w = ap (λ f. 2 ^ width f) (ends.same_family ∙ sym (ap (λ a. a.family) ends.first)) in omega (arith, span.last_in.0, w)

-- an address between two of a family is of that family
pub between_family : (g f : Family) (n lo hi : ℕ) → n < 2 ^ width g → first_rank f + lo ≤ first_rank g + n → first_rank g + n ≤ first_rank f + hi → hi < 2 ^ width f → g ≡ f
between_family V4 V4 n lo hi a b c d = refl
between_family V4 V6 n lo hi a b c d = absurd (omega (arith, a, b))
between_family V6 V4 n lo hi a b c d = absurd (omega (arith, c, d))
between_family V6 V6 n lo hi a b c d = refl

inner : (f : Family) (n h a : ℕ) → n + 3 ≤ h → n ≤ a → a ≤ h → a ≢ n → a ≢ n + 1 → (f ≡ V4 → a + 1 ≢ h + 1) → (n + 2 ≤ a) × (a ≤ h - reserved f)
inner V4 n h a r l u x y z = let z' = z refl in (omega (arith, l, x, y), omega (arith, u, z'))
inner V6 n h a r l u x y z = (omega (arith, l, x, y), omega (arith, u))

not_last_of : (f g : Family) (h a : ℕ) → g ≡ f → g ≡ V4 → 1 ≤ h → a ≤ h - reserved f → a + 1 ≢ h + 1
not_last_of f g h a same is some l e = let v : f ≡ V4 = sym same ∙ is in let r = ap reserved v in omega (arith, l, e, r, some)

pub assignable_range : (f : Family) (p : PrefixValue) (lo hi first last : AddrValue) → f ≡ lo.family → IsPool p → IsSpanOf p lo hi → IsEndsOf p lo hi → first ≡ record { family = lo.family; number = lo.number + 2 } → last ≡ record { family = lo.family; number = hi.number - reserved f } → IsRangeOf p first last
assignable_range f p lo hi first last is_f pool span ends is_first is_last =
    let gap = pool_room p lo hi pool ends in
    let fits = hi_fits p lo hi span ends in
    let most = reserved_most f in
    let first_n = ap (λ a. a.number) is_first in
    let last_n = ap (λ a. a.number) is_last in
    let first_f = ap (λ a. a.family) is_first in
    let last_f = ap (λ a. a.family) is_last in
    let first_r = ap first_rank first_f in
    let last_r = ap first_rank last_f in
    let first_w = ap (λ f. 2 ^ width f) first_f in
    let last_w = ap (λ f. 2 ^ width f) last_f in
    let start = ap (λ a. a.number) ends.first in
    let start_f = ap (λ a. a.family) ends.first in
    record {
      fits = (omega (arith, gap, fits, first_n, first_w), omega (arith, gap, fits, last_n, last_w));
      same_family = first_f ∙ sym last_f;
      rises = omega (arith, gap, most, first_n, last_n);
      between = λ a a_fits. (
        (λ is.
            let b = (span.between a).0 is.in_pool in
            let i = inner f lo.number hi.number a.number gap b.1 b.2 (λ e. is.not_first (e ∙ start)) (λ e. is.not_server (e ∙ ap (λ n. n + 1) start)) (λ v e. is.not_last (b.0 ∙ sym is_f ∙ v) (e ∙ ends.last)) in
            let r = ap first_rank b.0 in
            (omega (arith, i.0, r, first_r, first_n), omega (arith, i.1, r, last_r, last_n))),
        (λ h.
            let l : first_rank lo.family + (lo.number + 2) ≤ rank a = omega (arith, h.0, first_r, first_n) in
            let u : rank a ≤ first_rank lo.family + (hi.number - reserved f) = omega (arith, h.1, last_r, last_n) in
            let same = between_family a.family lo.family a.number (lo.number + 2) (hi.number - reserved f) a_fits l u (omega (arith, fits)) in
            let r = ap first_rank same in
            let lower : lo.number + 2 ≤ a.number = omega (arith, l, r) in
            let upper : a.number ≤ hi.number - reserved f = omega (arith, u, r) in
            record {
              in_pool = (span.between a).1 (same, omega (arith, lower), omega (arith, upper));
              not_first = λ e. omega (arith, e, lower, start);
              not_server = λ e. omega (arith, e, lower, start);
              not_last = λ v e. not_last_of f a.family hi.number a.number (same ∙ sym is_f) v (omega (arith, gap)) upper (e ∙ sym ends.last);
            }),
      );
    }

-- a pool's second address is one of its family
pub server_fits : (p : PrefixValue) (a : AddrValue) (n : ℕ) → IsPool p → a ≡ p.address → n ≡ a.number → n + 1 < 2 ^ width a.family
server_fits p a n is at e =
    let some = room p.address.family p.length is.2 in
    let ends = prefix_ends p is.1 is.0 in
    let number = ap (λ a. a.number) at in
    let most = ap (λ a. 2 ^ width a.family) at in
    omega (arith, some, ends, number, most, e)
