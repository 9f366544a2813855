-- The written text of an IPv6 address is the recommended one, and no other is.
use Rattle.std.proofs.Common.{◌≡◌, ℕ, ◌+◌, ◌<◌, ◌≤◌, ◌⊎◌, List, [], ◌∷◌, ◌++◌, take, drop, All, refl, sym, ap, ap₂, subst, ◌∙◌, arith, inl, inr, lt-ltb, le-ltb}
use Rattle.std.proofs.lemmas.Bool.{cases_lt, cases_eq}
use Rattle.std.proofs.lemmas.List.Elements.{All-weaker}
use Rattle.std.specs.Net.Text.{groups_text, longest_zero_run, hex_groups_text}
use Rattle.std.proofs.NetLemmas.Alphabet.{IsHexOrColon, All-hex_groups_text}
use Rattle.std.proofs.NetLemmas.Texts.{AllSegments, AllSegments-take, AllSegments-drop, IsZeroRun-longest_zero_run, longest_zero_run_first}
use Rattle.wgr_text.specs.Canonical.{IsLowerHex, IsElidedRun, IsRecommended, AreShortGroups, AreZeros}
use Rattle.wgr_text.proofs.Hex.{short_groups, groups_unique}

longest_is_elided : (xs : List ℕ) → 1 < (longest_zero_run xs).1 → IsElidedRun xs (longest_zero_run xs).0 (longest_zero_run xs).1
longest_is_elided xs long = record {
  zeros = IsZeroRun-longest_zero_run xs;
  many = omega arith;
  longest = λ s l run. (longest_zero_run_first xs s l run).0;
  first = λ s run. (longest_zero_run_first xs s (longest_zero_run xs).1 run).1 refl;
}

elided_is_longest : (xs : List ℕ) (start len : ℕ) → IsElidedRun xs start len → (start ≡ (longest_zero_run xs).0) × (len ≡ (longest_zero_run xs).1)
elided_is_longest xs start len run =
    let zeros = IsZeroRun-longest_zero_run xs in
    let most = (longest_zero_run_first xs start len run.zeros).0 in
    let least = run.longest (longest_zero_run xs).0 (longest_zero_run xs).1 zeros in
    let same : len ≡ (longest_zero_run xs).1 = omega (arith, most, least) in
    let before = run.first (longest_zero_run xs).0 (subst (λ l. AreZeros xs (longest_zero_run xs).0 l) (sym same) zeros) in
    let after = (longest_zero_run_first xs start len run.zeros).1 same in
    (omega (arith, before, after), same)

pub written_is_recommended : (xs text : List ℕ) → AllSegments xs → text ≡ hex_groups_text xs → IsRecommended text xs
unfolding hex_groups_text
written_is_recommended xs text fits is =
    let start = (longest_zero_run xs).0 in
    let len = (longest_zero_run xs).1 in
    elim (cases_lt 1 len) [
      | inl long ↦ inl (record {
        head_text = groups_text (take start xs);
        tail_text = groups_text (drop (start + len) xs);
        start = start;
        len = len;
        run = longest_is_elided xs long;
        head = short_groups (take start xs) (AllSegments-take start xs fits);
        tail = short_groups (drop (start + len) xs) (AllSegments-drop (start + len) xs fits);
        spelled = rw (lt-ltb 1 len long) at is;
      })
      | inr short ↦ inr (record {
        none = λ s l run. omega (arith, (longest_zero_run_first xs s l run).0);
        all = subst (λ t. AreShortGroups t xs) (sym (rw (le-ltb 1 len short) at is)) (short_groups xs fits);
      })
    ]

pub recommended_is_written : (xs text : List ℕ) → IsRecommended text xs → text ≡ hex_groups_text xs
unfolding hex_groups_text
recommended_is_written xs text (inl h) =
    let start = (longest_zero_run xs).0 in
    let len = (longest_zero_run xs).1 in
    let same = elided_is_longest xs h.start h.len h.run in
    let long : 1 < len = omega (arith, h.run.many, same.1) in
    let head = groups_unique _ h.head_text h.head ∙ ap (λ s. groups_text (take s xs)) same.0 in
    let tail = groups_unique _ h.tail_text h.tail ∙ ap₂ (λ (s l : ℕ). groups_text (drop (s + l) xs)) same.0 same.1 in
    rw (lt-ltb 1 len long) (h.spelled ∙ ap₂ (λ (a b : List ℕ). (a ++ (58 ∷ 58 ∷ [])) ++ b) head tail)
recommended_is_written xs text (inr h) =
    let short : (longest_zero_run xs).1 ≤ 1 = omega (arith, h.none (longest_zero_run xs).0 (longest_zero_run xs).1 (IsZeroRun-longest_zero_run xs)) in
    rw (le-ltb 1 (longest_zero_run xs).1 short) (groups_unique xs text h.all)

lower_or_colon : (c : ℕ) → IsHexOrColon c → IsLowerHex c ⊎ (c ≡ 58)
lower_or_colon c (inl h) =
    elim (cases_eq c 58) [
      | inl colon ↦ inr colon
      | inr other ↦ inl (inl (omega arith))
    ]
lower_or_colon c (inr h) = inl (inr h)

pub written_is_lower_hex : (xs : List ℕ) → AllSegments xs → All (λ c. IsLowerHex c ⊎ (c ≡ 58)) (hex_groups_text xs)
written_is_lower_hex xs fits = All-weaker IsHexOrColon (λ c. IsLowerHex c ⊎ (c ≡ 58)) lower_or_colon (hex_groups_text xs) (All-hex_groups_text xs fits)
