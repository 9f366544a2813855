-- Rows of a list's elements, and others, of which some go.
use Rattle.std.proofs.Common.{◌≡◌, ◌⊎◌, ◌↔◌, List, [], ◌∷◌, ◌++◌, map, Bool, true, false, not, cond, refl, sym, ap, subst, ◌∙◌, inl, inr}
use Rattle.std.specs.List.{filter, IsDistinct}
use Rattle.wgr_model.specs.Laws.{Has}
use Rattle.wgr_model.specs.Rows.{PeerRow, AllowedRow, Tables, AreKeyed, number_in, allowed_key, same_allowed, same_pair}
use Rattle.wgr_model.proofs.CollectLemmas.{has_map, from_map, has_left, has_right, from_append}
use Rattle.wgr_model.proofs.GatherLemmas.{in_filter}
use Rattle.wgr_model.proofs.KeptLemmas.{distinct_filter}
use Rattle.wgr_model.proofs.OrderLemmas.{from_filter}

pub not_false : (b : Bool) → not b ≡ true → b ≡ false
not_false true h = absurd cc
not_false false h = refl

pub not_true : (b : Bool) → b ≡ false → not b ≡ true
not_true true h = absurd cc
not_true false h = refl

module _ {R : Type 0} (gone : R → Bool) where
  -- what is left of a list: the elements whose rows stay
  abbrev pub AreLeft : {X : Type 0} → (X → R) → List X → List X → Type 0
  AreLeft {X} f xs left = (x : X) → Has left x ↔ (Has xs x × (gone (f x) ≡ false))

  -- and what stays of rows
  abbrev pub Stay : List R → List R → Type 0
  Stay own kept = (a : R) → Has kept a ↔ (Has own a × (gone a ≡ false))

  module _ {X : Type 0} (f : X → R) (xs : List X) where
    pub left_by : (test : X → Bool) → ((x : X) → gone (f x) ≡ test x) → AreLeft f xs (filter (λ x. not (test x)) xs)
    left_by test tests x = (
      (λ h. let k = from_filter (λ y. not (test y)) xs x h in (k.0, tests x ∙ not_false (test x) k.1)),
      (λ h. in_filter (λ y. not (test y)) xs x h.0 (not_true (test x) (sym (tests x) ∙ h.1))),
    )

    pub left_all : ((x : X) → gone (f x) ≡ false) → AreLeft f xs xs
    left_all none x = ((λ h. (h, none x)), (λ h. h.0))

    pub one_stays : (left : List X) → AreLeft f xs left → Stay (map f xs) (map f left)
    one_stays left are a = (
      (λ h.
          let x = from_map f left a h in
          let k = (are x.0).0 x.1 in
          (subst (Has (map f xs)) x.2 (has_map f xs x.0 k.0), ap gone (sym x.2) ∙ k.1)),
      (λ h.
          let x = from_map f xs a h.0 in
          subst (Has (map f left)) x.2 (has_map f left x.0 ((are x.0).1 (x.1, ap gone x.2 ∙ h.1)))),
    )

  -- rows of two kinds
  pub two_stay : {X Y : Type 0} (f : X → R) (g : Y → R) (xs left : List X) (ys kept : List Y) → AreLeft f xs left → AreLeft g ys kept → Stay (map f xs ++ map g ys) (map f left ++ map g kept)
  two_stay f g xs left ys kept p q a = (
    (λ h. elim (from_append (map f left) (map g kept) a h) [
      | inl x ↦ let k = (one_stays f xs left p a).0 x in (has_left (map f xs) (map g ys) a k.0, k.1)
      | inr y ↦ let k = (one_stays g ys kept q a).0 y in (has_right (map f xs) (map g ys) a k.0, k.1)
    ]),
    (λ h. elim (from_append (map f xs) (map g ys) a h.0) [
      | inl x ↦ has_left (map f left) (map g kept) a ((one_stays f xs left p a).1 (x, h.1))
      | inr y ↦ has_right (map f left) (map g kept) a ((one_stays g ys kept q a).1 (y, h.1))
    ]),
  )

  pub rows_stay : (Other : R → Type 0) → ((a : R) → Other a → gone a ≡ false) → (own kept rows : List R) → Stay own kept → ((a : R) → Has rows a ↔ (Has own a ⊎ Other a)) → (a : R) → Has (filter (λ x. not (gone x)) rows) a ↔ (Has kept a ⊎ Other a)
  rows_stay Other others own kept rows stay are a = (
    (λ h.
        let f = from_filter (λ x. not (gone x)) rows a h in
        elim ((are a).0 f.0) [ inl mine ↦ inl ((stay a).1 (mine, not_false (gone a) f.1)) | inr other ↦ inr other ]),
    (λ h. elim h [
      | inl mine ↦ let k = (stay a).0 mine in in_filter (λ x. not (gone x)) rows a ((are a).1 (inl k.0)) (not_true (gone a) k.1)
      | inr other ↦ in_filter (λ x. not (gone x)) rows a ((are a).1 (inr other)) (not_true (gone a) (others a other))
    ]),
  )

filters_turn : {A : Type 0} (p q : A → Bool) (xs : List A) → filter p (filter q xs) ≡ filter q (filter p xs)
filters_turn p q [] = refl
filters_turn p q (x ∷ xs) = go (p x) (q x) refl refl (filters_turn p q xs)
  where
    go : (a b : Bool) → p x ≡ a → q x ≡ b → filter p (filter q xs) ≡ filter q (filter p xs) → filter p (cond b (x ∷ filter q xs) (filter q xs)) ≡ filter q (cond a (x ∷ filter p xs) (filter p xs))
    go true true e f later = ap (λ c. cond c (x ∷ filter p (filter q xs)) (filter p (filter q xs))) e ∙ ap (λ l. x ∷ l) later ∙ sym (ap (λ c. cond c (x ∷ filter q (filter p xs)) (filter q (filter p xs))) f)
    go true false e f later = later ∙ sym (ap (λ c. cond c (x ∷ filter q (filter p xs)) (filter q (filter p xs))) f)
    go false true e f later = ap (λ c. cond c (x ∷ filter p (filter q xs)) (filter p (filter q xs))) e ∙ later
    go false false e f later = later

-- no two addresses of a peer come where some rows go
pub addresses_left : (q : AllowedRow → Bool) (rows : List AllowedRow) → IsDistinct same_pair (map (λ (a : AllowedRow). (a.network, a.peer)) (filter (λ a. not a.is_route) rows))
    → IsDistinct same_pair (map (λ (a : AllowedRow). (a.network, a.peer)) (filter (λ a. not a.is_route) (filter (λ a. not (q a)) rows)))
addresses_left q rows distinct =
    subst (λ l. IsDistinct same_pair (map (λ (a : AllowedRow). (a.network, a.peer)) l)) (filters_turn (λ a. not (q a)) (λ (a : AllowedRow). not a.is_route) rows)
    (distinct_filter same_pair (λ (a : AllowedRow). (a.network, a.peer)) (λ a. not (q a)) (filter (λ a. not a.is_route) rows) distinct)

pub allowed_keyed : (q : AllowedRow → Bool) (t : Tables) → AreKeyed t → AreKeyed (record t { allowed = filter (λ a. not (q a)) t.allowed })
allowed_keyed q t keyed = record {
  peer_keys = keyed.peer_keys;
  allowed_keys = distinct_filter same_allowed allowed_key (λ a. not (q a)) t.allowed keyed.allowed_keys;
  address_keys = addresses_left q t.allowed keyed.address_keys;
}

pub rows_keyed : (p : PeerRow → Bool) (q : AllowedRow → Bool) (t : Tables) → AreKeyed t → AreKeyed (record t { peers = filter (λ a. not (p a)) t.peers; allowed = filter (λ a. not (q a)) t.allowed })
rows_keyed p q t keyed = record {
  peer_keys = distinct_filter same_pair (λ (a : PeerRow). (a.network, number_in a.network a.id)) (λ a. not (p a)) t.peers keyed.peer_keys;
  allowed_keys = distinct_filter same_allowed allowed_key (λ a. not (q a)) t.allowed keyed.allowed_keys;
  address_keys = addresses_left q t.allowed keyed.address_keys;
}
