-- The longest match of an address, by the prefixes of each length that have it.
use Rattle.std.proofs.Common.{◌≡◌, ℕ, ◌+◌, ◌-◌, ◌*◌, ◌/◌, ◌<◌, ◌≤◌, Bool, true, false, cond, nat_eq, nat_lt, [], ◌∷◌, Option, Some, None, inl, inr, refl, sym, ap, subst, ◌∙◌, arith, true≢false}
use Rattle.std.specs.Prelude.{IfSome, option_map}
use Rattle.std.proofs.lemmas.Bool.Decides.{nat_tests}
use Rattle.std.proofs.lemmas.List.Elements.{recursion_from_All}
use Rattle.std.proofs.lemmas.Nat.{div-mul-add, pow_pos}
use Rattle.wgr_text.specs.declared.addr.Family.{Family}
use Rattle.wgr_text.specs.Prefix.{AddrValue, PrefixValue, IsPrefix, block, mask, width}
use Rattle.wgr_pool.specs.PrefixTests.{full, has, same_prefix}
use Rattle.wgr_pool.proofs.Bools.{decide}
use Rattle.wgr_pool.proofs.PrefixLemmas.{has_in, is_in, nat_eq_is, same_prefix_is, same_prefix_self}
use Rattle.wgr_peers.specs.declared.peer.Peer.{Peer}
use Rattle.wgr_peers.specs.Routes.{Routes, route_of}
use Rattle.wgr_peers.proofs.PlaceLemmas.{below_test}
use Rattle.wgr_core.specs.Network.{IsNetwork, IsRoute, NetworkValue}
use Rattle.wgr_core.specs.Owner.{allowed, longer, longest_match, owner_of, own_prefixes}
use Rattle.wgr_core.proofs.AllowedLemmas.{full_is_prefix}
use Rattle.wgr_core.proofs.OwnerLemmas.{longest_skip}
use Rattle.wgr_model.specs.Laws.{Has}
use Rattle.wgr_model.proofs.CollectLemmas.{from_append, from_map}
use Rattle.wgr_model.proofs.SameLemmas.{at_has}
use Rattle.wgr_columns.proofs.FieldLemmas.{masked_itself}
use Rattle.wgr_rows.proofs.LeadLemmas.{not_led}

-- ---- the prefix of a length that has an address

-- a masked prefix that has the address is the address, masked
is_mask : (p : PrefixValue) (a : AddrValue) → IsPrefix p → has p a ≡ true → p ≡ mask a p.length
is_mask p a is h =
    let both = is_in p a h in
    let b = block p.address.family p.length in
    let first : p ≡ mask p.address p.length = ap (λ (x : AddrValue). record { address = x; length = p.length }) (sym (masked_itself p.address p.length is.1)) in
    let number : p.address.number / b * b ≡ a.number / b * b = ap (λ m. m * b) (sym both.1) in
    let second : mask p.address p.length ≡ record { address = record { family = p.address.family; number = a.number / b * b }; length = p.length } = ap (λ m. record { address = record { family = p.address.family; number = m }; length = p.length }) number in
    first ∙ second ∙ ap (λ (f : Family). record { address = record { family = f; number = a.number / block f p.length * block f p.length }; length = p.length }) (sym both.0)

mask_has : (a : AddrValue) (length : ℕ) → has (mask a length) a ≡ true
mask_has a length =
    let b = block a.family length in
    let some = pow_pos (width a.family - length) in
    let none : a.number / b * b ≡ a.number / b * b + 0 = omega arith in
    has_in (mask a length) a (refl, sym (ap (λ m. m / b) none ∙ div-mul-add (a.number / b) b 0 (omega (arith, some))))

-- ---- the match

abbrev pub AreMasked : Routes → Type 0
AreMasked es = (e : PrefixValue × ℕ) → Has es e → IsPrefix e.0

-- none of the prefixes of this length or a longer one has the address
abbrev pub HasNoneFrom : Routes → AddrValue → ℕ → Type 0
HasNoneFrom es a length = (e : PrefixValue × ℕ) → Has es e → has e.0 a ≡ true → e.0.length < length

longest_low : (es : Routes) (a : AddrValue) (length : ℕ) → HasNoneFrom es a (length + 1) → IfSome (longest_match es a) (λ r. r.0.length ≤ length)
longest_low [] a length none = tt
longest_low (e ∷ es) a length none = go (has e.0 a) refl (longest_match es a) (longest_low es a length (λ f h. none f (inr h)))
  where
    of_two : (o : Option (PrefixValue × ℕ)) → e.0.length ≤ length → IfSome o (λ r. r.0.length ≤ length) → IfSome (longer (Some e) o) (λ r. r.0.length ≤ length)
    of_two None low all = low
    of_two (Some r) low all = elim (nat_lt e.0.length r.0.length) as (λ b. IfSome (cond b (Some r) (Some e)) (λ r. r.0.length ≤ length)) [ true ↦ all | false ↦ low ]

    go : (b : Bool) → has e.0 a ≡ b → (o : Option (PrefixValue × ℕ)) → IfSome o (λ r. r.0.length ≤ length) → IfSome (longer (cond b (Some e) None) o) (λ r. r.0.length ≤ length)
    go true h o all = let l = none e (inl refl) h in of_two o (omega (arith, l)) all
    go false h o all = all

first_stays : (e : PrefixValue × ℕ) (o : Option (PrefixValue × ℕ)) (length : ℕ) → e.0.length ≡ length → IfSome o (λ r. r.0.length ≤ length) → longer (Some e) o ≡ Some e
first_stays e None length is all = refl
first_stays e (Some r) length is all = ap (λ b. cond b (Some r) (Some e)) (not_longer e.0.length r.0.length length is all)
  where
    not_longer : (m n length : ℕ) → m ≡ length → n ≤ length → nat_lt m n ≡ false
    not_longer m n length h i = grind (arith, nat_tests)

-- a prefix of this length that has the address is the address, masked
of_length : (e : PrefixValue × ℕ) (a : AddrValue) (length : ℕ) → IsPrefix e.0 → has e.0 a ≡ true → nat_eq e.0.length length ≡ true → same_prefix e.0 (mask a length) ≡ true
of_length e a length is h same =
    let masked : e.0 ≡ mask a length = is_mask e.0 a is h ∙ ap (mask a) (nat_eq_is e.0.length length same) in
    ap (λ q. same_prefix q (mask a length)) masked ∙ same_prefix_self (mask a length)

below : (m length : ℕ) → m < length + 1 → nat_eq m length ≡ false → m < length
below m length l other = grind (arith, nat_tests)

-- where no longer prefix has the address, the prefix of this length that leads to somebody is the longest match
match_here : (es : Routes) (a : AddrValue) (length number : ℕ) → AreMasked es → HasNoneFrom es a (length + 1) → route_of es (mask a length) ≡ Some number → longest_match es a ≡ Some (mask a length, number)
match_here [] a length number masked none led = absurd cc
match_here (e ∷ es) a length number masked none led = go (same_prefix e.0 (mask a length)) refl led (match_here es a length number (λ f h. masked f (inr h)) (λ f h. none f (inr h)))
  where
    m : PrefixValue
    m = mask a length

    go : (b : Bool) → same_prefix e.0 (mask a length) ≡ b → cond b (Some e.1) (route_of es (mask a length)) ≡ Some number → (route_of es (mask a length) ≡ Some number → longest_match es a ≡ Some (mask a length, number)) → longest_match (e ∷ es) a ≡ Some (mask a length, number)
    go true s h later =
        let is : e.0 ≡ mask a length = same_prefix_is e.0 (mask a length) s in
        let number_is : e.1 ≡ number = cc in
        let mine : has e.0 a ≡ true = ap (λ q. has q a) is ∙ mask_has a length in
        ap (λ b. longer (cond b (Some e) None) (longest_match es a)) mine
        ∙ first_stays e (longest_match es a) length (ap (λ q. q.length) is) (longest_low es a length (λ f k. none f (inr k)))
        ∙ (λ i. Some (is i, number_is i))
    go false s h later = elim (decide (has e.0 a)) [
      | inr skip ↦ longest_skip e es a skip ∙ later h
      | inl mine ↦
          let shorter : e.0.length < length = elim (decide (nat_eq e.0.length length)) [
            | inl same ↦ absurd (true≢false (sym (of_length e a length (masked e (inl refl)) mine same) ∙ s))
            | inr other ↦ below e.0.length length (none e (inl refl) mine) other
          ] in
          ap (λ b. longer (cond b (Some e) None) (longest_match es a)) mine ∙ ap (longer (Some e)) (later h) ∙ ap (λ b. cond b (Some (mask a length, number)) (Some e)) (below_test e.0.length length shorter)
    ]

no_match : (es : Routes) (a : AddrValue) → HasNoneFrom es a 0 → longest_match es a ≡ None
no_match [] a none = refl
no_match (e ∷ es) a none = elim (decide (has e.0 a)) [
  | inl mine ↦ absurd (let l = none e (inl refl) mine in omega (arith, l))
  | inr skip ↦ longest_skip e es a skip ∙ no_match es a (λ f h. none f (inr h))
]

-- ---- the owner

allowed_masked : (n : NetworkValue) → IsNetwork n → AreMasked (allowed n)
allowed_masked n is e h = elim (from_append (own_prefixes n.peers) n.routes e h) [
  | inl own ↦ let v = from_map (λ (p : Peer). (full p.address, p.number)) n.peers e own in subst (λ (x : PrefixValue × ℕ). IsPrefix x.0) v.2 (full_is_prefix v.0.address)
  | inr route ↦ (at_has (IsRoute n) n.routes e (recursion_from_All (IsRoute n) n.routes is.routes) route).masked.1
]

module _ (n : NetworkValue) (is : IsNetwork n) (a : AddrValue) where
  -- no prefix is longer than its family has bits
  pub none_yet : HasNoneFrom (allowed n) a (width a.family + 1)
  none_yet e h mine =
      let long = (allowed_masked n is e h).0 in
      let family = (is_in e.0 a mine).0 in
      let low : e.0.length ≤ width a.family = subst (λ (f : Family). e.0.length ≤ width f) (sym family) long in
      omega (arith, low)

  -- the prefix of this length, too, leads nowhere
  pub none_here : (length : ℕ) → HasNoneFrom (allowed n) a (length + 1) → route_of (allowed n) (mask a length) ≡ None → HasNoneFrom (allowed n) a length
  none_here length none out e h mine = elim (decide (nat_eq e.0.length length)) [
    | inl same ↦ absurd (true≢false (sym (of_length e a length (allowed_masked n is e h) mine same) ∙ not_led (allowed n) (mask a length) e out h))
    | inr other ↦ below e.0.length length (none e h mine) other
  ]

  pub owner_here : (length number : ℕ) → HasNoneFrom (allowed n) a (length + 1) → route_of (allowed n) (mask a length) ≡ Some number → owner_of n a ≡ Some number
  owner_here length number none led = ap (option_map (λ (r : PrefixValue × ℕ). r.1)) (match_here (allowed n) a length number (allowed_masked n is) none led)

  pub no_owner : HasNoneFrom (allowed n) a 0 → owner_of n a ≡ None
  no_owner none = ap (option_map (λ (r : PrefixValue × ℕ). r.1)) (no_match (allowed n) a none)
