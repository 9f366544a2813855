-- What the query shows are the holding rows, in the order of their prefixes.
use Rattle.std.proofs.Common.{◌≡◌, ℕ, zero, suc, pos, ◌+◌, ◌<◌, ◌^◌, ◌⊎◌, Bool, true, false, ◌&&◌, nat_eq, nat_le, List, [], ◌∷◌, map, filter, length, get_or, Ordering, Less, Equal, Greater, is_lt, IsPermutation, inl, inr, refl, sym, ap, ap₂, subst, ◌∙◌, arith, true≢false, eqb-true}
use Rattle.std.specs.Prelude.{⊤}
use Rattle.std.specs.List.{AllByRecursion, AllPairs, IsDistinct, list_all}
use Rattle.std.specs.List.Sorted.{IsStrictlySortedBy}
use Rattle.std.specs.Ordering.{nat_cmp, ordering_reverse, ordering_then}
use Rattle.std.specs.Cmp.{nat_cmp_is}
use Rattle.std.proofs.lemmas.List.{get_or-map}
use Rattle.std.proofs.lemmas.List.Sorted.{IsPermutation-map, IsPermutation-sym}
use Rattle.std.proofs.lemmas.Map.Keys.{apart_from_distinct, IsDistinct-IsPermutation}
use Rattle.std.proofs.Math.ListN.{length-map}
use Rattle.sqlite.specs.declared.types.Value.TheVariants.{Int, Blob}
use Rattle.sqlite.specs.Order.{Row}
use Rattle.sqlite_value.specs.Order.{bytes, column, value_cmp}
use Rattle.sqlite_value.proofs.OrderLemmas.{then-Equal, value_cmp-Int}
use Rattle.sqlite.specs.Collation.TheVariants.{Binary}
use Rattle.sqlite.specs.Ops.{binary, is_true}
use Rattle.sqlite_sql.specs.declared.ops.BinaryOp.TheVariants.{Compare}
use Rattle.sqlite_sql.specs.declared.ops.CompareOp.TheVariants.{Eq, Ge, Le}
use Rattle.sqlite.specs.Query.{sort_cmp}
use Rattle.sqlite.specs.Term.{eval_all, holds}
use Rattle.sqlite.specs.State.{State, Shown}
use Rattle.sqlite.proofs.Callers.{reads_as}
use Rattle.sqlite_rules.specs.Lists as there
use Rattle.sqlite_rules.proofs.ListLemmas.{has_filtered}
use Rattle.wgr_core.proofs.PartsLemmas.{pairs_from_adjacent}
use Rattle.wgr_text.specs.Prefix.{PrefixValue}
use Rattle.wgr_pool.proofs.Bools.{and_true as both}
use Rattle.wgr_model.specs.Rows.{AllowedRow, AreKeyed, allowed_key, family_number, prefix_cmp, prefix_key, same_allowed}
use Rattle.wgr_model.proofs.CollectLemmas.{collected}
use Rattle.wgr_model.proofs.GatherLemmas.{eqb_self, in_filter, in_sorted, prefix_exact, prefix_total}
use Rattle.wgr_model.proofs.KeptLemmas.{distinct_filter}
use Rattle.wgr_model.proofs.OrderLemmas.{from_filter}
use Rattle.wgr_model.proofs.SameLemmas.{has_permutation}
use Rattle.wgr_sql.specs.Effects.{Lists, passing}
use Rattle.wgr_sql.proofs.Answers.{answers, map-both}
use Rattle.wgr_sql.proofs.KeyedLemmas.{has_moved}
use Rattle.wgr_sql.proofs.RowLemmas.{equal_nats, map_filter}
use Rattle.wgr_sql.proofs.TableLemmas.{unmapped}
use Rattle.wgr_sql.proofs.Values.{and_true}
use Rattle.wgr_columns.specs.Layout.{schema_with}
use Rattle.wgr_columns.specs.Decode.{IsRegister, allowed_in, bytes_at, bytes_of, family_of, number_at, number_of, tables_of}
use Rattle.wgr_columns.proofs.Statements.{rising}
use Rattle.wgr_tables.proofs.RouteRests.{allowed_sym}
use Rattle.wgr_checks.proofs.TenantLemmas.{as_naturals}
use Rattle.wgr_rows.specs.HeldRows.{brief, hold_params, holds_in, holds_text, is_hold, last_number}
use Rattle.wgr_rows.proofs.Meaning.{hold_places, holds_ask, of_holds}
use Rattle.wgr_rows.proofs.Spelled.{at_least, from_spelled, read_small, spelled_cmp, to_spelled}

-- two rows of a network with one prefix have one key
key_tells : (id : ℕ) (a b : AllowedRow) → nat_eq a.network id ≡ true → nat_eq b.network id ≡ true → prefix_key a.prefix ≡ prefix_key b.prefix → same_allowed (allowed_key a) (allowed_key b) ≡ true
key_tells id a b x y e =
    let p = eqb-true a.network id x in
    let q = eqb-true b.network id y in
    let key = prefix_key a.prefix in
    subst (λ z. same_allowed (allowed_key a) z ≡ true) (λ i. ((p ∙ sym q) i, (e i).0, (e i).1, (e i).2))
    (ap₂ (λ u v. u && v) (ap₂ (λ u v. u && v) (ap₂ (λ u v. u && v) (eqb_self a.network) (eqb_self key.0)) (eqb_self key.1)) (eqb_self key.2))

less_or_tie : (o p : Ordering) → o ≡ ordering_reverse p → is_lt p ≡ false → (o ≡ Less) ⊎ (o ≡ Equal)
less_or_tie o Less e h = absurd (true≢false h)
less_or_tie o Equal e h = inr e
less_or_tie o Greater e h = inl e

everywhere : {X : Type 0} (xs : List X) → AllByRecursion (λ _. ⊤) xs
everywhere [] = tt
everywhere (x ∷ xs) = (tt, everywhere xs)

-- a place within a list has one of its elements
pub place_there : {X : Type 0} (xs : List X) (k : ℕ) (d : X) → k < length xs → there.Has xs (get_or xs k d)
place_there [] k d low = absurd (omega (arith, low))
place_there (x ∷ xs) zero d low = inl refl
place_there (x ∷ xs) (suc k) d low = inr (place_there xs k d (omega (arith, low)))

-- what is read of a row that is shown is what is read of the row in the table
as_there : (shows_peers : Bool) (network : ℕ) (params r : Row) → brief shows_peers network (allowed_in (eval_all (hold_places shows_peers) (params ∷ r ∷ []))) ≡ brief shows_peers network (allowed_in r)
as_there true network params r = refl
as_there false network params r = refl

module _ (shows_peers : Bool) (old new : State) (register : IsRegister old.now) (network : ℕ) (pool : PrefixValue) (start : ℕ) (low : start < 2 ^ 128) (high : last_number pool < 2 ^ 128) (rows : List Row) (shown : Shown (holds_text shows_peers) (hold_params network pool start) old new rows) where
  abbrev params : Row
  params = hold_params network pool start

  abbrev table : List Row
  table = old.now.trees 10

  pub lo_is : (r : Row) → there.Has table r → column r 3 ≡ Blob (bytes_of (number_of (bytes_at r 3)))
  lo_is r here = register.written.allowed.addresses_are r here 3 (inl refl)

  small : (r : Row) → there.Has table r → number_of (bytes_at r 3) < 2 ^ 128
  small r here = subst (λ n. n < 2 ^ 128) (ap (λ v. number_of (bytes v)) (sym (lo_is r here))) (read_small (number_of (bytes_at r 3)))

  pub length_is : (r : Row) → there.Has table r → column r 4 ≡ Int (pos (number_at r 4))
  length_is r here = register.written.allowed.numbers_are r here 4 (inr (inr (inl refl)))

  family_is : (r : Row) → there.Has table r → column r 2 ≡ Int (pos (family_number (family_of (number_at r 2))))
  family_is r here = register.written.allowed.numbers_are r here 2 (inr (inl refl)) ∙ ap (λ m. Int (pos m)) (register.written.allowed.families_are r here 2 (inl refl))

  passes : (r : Row) → there.Has table r → list_all (holds (params ∷ r ∷ [])) of_holds ≡ is_hold network pool start (allowed_in r)
  passes r here =
      let one : is_true (binary (Compare Eq Binary) (column r 1) (Int (pos network))) ≡ nat_eq (number_at r 1) network = ap (λ v. is_true (binary (Compare Eq Binary) v (Int (pos network)))) (register.written.allowed.numbers_are r here 1 (inl refl)) ∙ equal_nats (number_at r 1) network in
      let family = family_number pool.address.family in
      let two : is_true (binary (Compare Eq Binary) (column r 2) (Int (pos family))) ≡ nat_eq (family_number (family_of (number_at r 2))) family = ap (λ v. is_true (binary (Compare Eq Binary) v (Int (pos family)))) (family_is r here) ∙ equal_nats (family_number (family_of (number_at r 2))) family in
      let three : is_true (binary (Compare Ge Binary) (column r 3) (Blob (bytes_of start))) ≡ nat_le start (number_of (bytes_at r 3)) = ap (λ v. is_true (binary (Compare Ge Binary) v (Blob (bytes_of start)))) (lo_is r here) ∙ from_spelled (number_of (bytes_at r 3)) start (small r here) low in
      let four : is_true (binary (Compare Le Binary) (column r 3) (Blob (bytes_of (last_number pool)))) ≡ nat_le (number_of (bytes_at r 3)) (last_number pool) = ap (λ v. is_true (binary (Compare Le Binary) v (Blob (bytes_of (last_number pool))))) (lo_is r here) ∙ to_spelled (number_of (bytes_at r 3)) (last_number pool) (small r here) high in
      let five : is_true (binary (Compare Ge Binary) (column r 4) (Int (pos pool.length))) ≡ nat_le pool.length (number_at r 4) = ap (λ v. is_true (binary (Compare Ge Binary) v (Int (pos pool.length)))) (length_is r here) ∙ at_least (number_at r 4) pool.length in
      λ k. one k && (two k && (three k && (four k && (and_true (is_true (binary (Compare Ge Binary) (column r 4) (Int (pos pool.length)))) ∙ five) k)))

  pub listing : Lists of_holds (hold_places shows_peers) (rising 3 ∷ rising 4 ∷ []) params table rows
  listing =
      let asks = holds_ask register.others shows_peers in
      answers 10 of_holds (hold_places shows_peers) (rising 3 ∷ rising 4 ∷ []) old.now.trees params rows (reads_as (holds_text shows_peers) params old new (schema_with register.others) register.schema_is _ asks.means.command_is asks.means.plain asks.unlisted rows shown).answer

  -- the table's rows that are shown, in their order
  abbrev pub held : List AllowedRow
  held = map allowed_in listing.chosen

  pub held_read : map (brief shows_peers network) held ≡ map (λ r. brief shows_peers network (allowed_in r)) rows
  held_read =
      let read = λ (r : Row). brief shows_peers network (allowed_in r) in
      map-both allowed_in (brief shows_peers network) listing.chosen
      ∙ sym (λ k. map (λ r. as_there shows_peers network params r k) listing.chosen)
      ∙ sym (map-both (λ r. eval_all (hold_places shows_peers) (params ∷ r ∷ [])) read listing.chosen)
      ∙ ap (map read) (sym listing.shown)

  pub holds_listed : IsPermutation (filter (is_hold network pool start) (tables_of old.now).allowed) held
  holds_listed =
      let q = is_hold network pool start in
      let typed : map allowed_in (passing of_holds params table) ≡ filter q (map allowed_in table) = map_filter allowed_in (λ r. list_all (holds (params ∷ r ∷ [])) of_holds) q table passes in
      subst (λ x. IsPermutation x held) typed (IsPermutation-map allowed_in _ _ listing.same)

  pub as_many : length held ≡ length rows
  as_many = length-map listing.chosen allowed_in ∙ sym (length-map listing.chosen (λ r. eval_all (hold_places shows_peers) (params ∷ r ∷ []))) ∙ ap length (sym listing.shown)

  abbrev pub IsChosen : Row → Type 0
  IsChosen r = there.Has table r × (is_hold network pool start (allowed_in r) ≡ true)

  chosen_is : (r : Row) → there.Has listing.chosen r → IsChosen r
  chosen_is r here =
      let it = has_filtered (λ x. list_all (holds (params ∷ x ∷ [])) of_holds) table r (has_moved listing.chosen _ r (IsPermutation-sym _ _ listing.same) here) in
      (it.0, sym (passes r it.0) ∙ it.1)

  -- what is true of each that is chosen, as it is shown, is true of each row
  pub chosen_each : (P : Row → Type 0) → ((x : Row) → IsChosen x → P (eval_all (hold_places shows_peers) (params ∷ x ∷ []))) → (r : Row) → there.Has rows r → P r
  chosen_each P each r here =
      let it = unmapped (λ x. eval_all (hold_places shows_peers) (params ∷ x ∷ [])) listing.chosen r (subst (λ l. there.Has l r) listing.shown here) in
      subst P (sym it.2) (each it.0 (chosen_is it.0 it.1))

  abbrev key_in : Row → ℕ × ℕ × ℕ
  key_in r = prefix_key (allowed_in r).prefix

  -- the order of the query is that of prefixes
  one_order : (x y : Row) → IsChosen x → IsChosen y → sort_cmp (rising 3 ∷ rising 4 ∷ []) (params ∷ x ∷ []) (params ∷ y ∷ []) ≡ prefix_cmp (key_in x) (key_in y)
  one_order x y here there' =
      let family = λ (r : Row) (is : IsChosen r). eqb-true (family_number (family_of (number_at r 2))) (family_number pool.address.family) (both _ _ (both _ _ is.1).1).0 in
      let same : family_number (family_of (number_at x 2)) ≡ family_number (family_of (number_at y 2)) = family x here ∙ sym (family y there') in
      let tie : nat_cmp (family_number (family_of (number_at x 2))) (family_number (family_of (number_at y 2))) ≡ Equal = sym (nat_cmp_is _ _ Equal same) in
      let lo : value_cmp (column x 3) (column y 3) ≡ nat_cmp (number_of (bytes_at x 3)) (number_of (bytes_at y 3)) = ap₂ value_cmp (lo_is x here.0) (lo_is y there'.0) ∙ spelled_cmp _ _ (small x here.0) (small y there'.0) in
      let long : value_cmp (column x 4) (column y 4) ≡ nat_cmp (number_at x 4) (number_at y 4) = ap₂ value_cmp (length_is x here.0) (length_is y there'.0) ∙ value_cmp-Int (pos (number_at x 4)) (pos (number_at y 4)) ∙ as_naturals (number_at x 4) (number_at y 4) in
      ap₂ ordering_then lo (then-Equal (value_cmp (column x 4) (column y 4)) ∙ long)
      ∙ sym (ap (λ o. ordering_then o (ordering_then (nat_cmp (number_of (bytes_at x 3)) (number_of (bytes_at y 3))) (nat_cmp (number_at x 4) (number_at y 4)))) tie)

  module _ (keyed : AreKeyed (tables_of old.now)) where
    apart : IsDistinct same_allowed (map allowed_key held)
    apart = IsDistinct-IsPermutation same_allowed allowed_sym _ _ (IsPermutation-map allowed_key _ _ holds_listed) (distinct_filter same_allowed allowed_key (is_hold network pool start) (tables_of old.now).allowed keyed.allowed_keys)

    abbrev IsNext : Row → Row → Type 0
    IsNext x y = prefix_cmp (key_in x) (key_in y) ≡ Less

    next : (k : ℕ) (d : Row) → k + 1 < length listing.chosen → IsNext (get_or listing.chosen k d) (get_or listing.chosen (k + 1) d)
    next k d low' =
        let xs = listing.chosen in
        let x = get_or xs k d in
        let y = get_or xs (k + 1) d in
        let short : k < length xs = omega (arith, low') in
        let here = chosen_is x (place_there xs k d short) in
        let here' = chosen_is y (place_there xs (k + 1) d low') in
        let up : is_lt (prefix_cmp (key_in y) (key_in x)) ≡ false = ap is_lt (sym (one_order y x here' here)) ∙ listing.sorted k d (omega arith) low' in
        let keys = map (λ r. allowed_key (allowed_in r)) xs in
        let apart' : IsDistinct same_allowed keys = subst (IsDistinct same_allowed) (map-both allowed_in allowed_key xs) apart in
        let long : k + 1 < length keys = omega (arith, low', length-map xs (λ r. allowed_key (allowed_in r))) in
        let other : same_allowed (allowed_key (allowed_in x)) (allowed_key (allowed_in y)) ≡ false =
        ap₂ same_allowed (sym (get_or-map (λ r. allowed_key (allowed_in r)) xs k d (allowed_key (allowed_in d)) short)) (sym (get_or-map (λ r. allowed_key (allowed_in r)) xs (k + 1) d (allowed_key (allowed_in d)) low'))
        ∙ apart_from_distinct same_allowed keys k (k + 1) (allowed_key (allowed_in d)) apart' (omega arith) long in
        elim (less_or_tie (prefix_cmp (key_in x) (key_in y)) (prefix_cmp (key_in y) (key_in x)) (prefix_total.antisymm (key_in x) (key_in y)) up) [
          | inl less ↦ less
          | inr tie ↦ absurd (true≢false (sym (key_tells network (allowed_in x) (allowed_in y) (both _ _ here.1).0 (both _ _ here'.1).0 (prefix_exact (key_in x) (key_in y) tie)) ∙ other))
        ]

    pub holds_sorted : IsStrictlySortedBy prefix_cmp (map (λ a. prefix_key a.prefix) held)
    holds_sorted =
        let pairs : AllPairs IsNext listing.chosen = pairs_from_adjacent IsNext listing.chosen (λ x y z. prefix_total.trans (key_in x) (key_in y) (key_in z)) next in
        subst (IsStrictlySortedBy prefix_cmp) (sym (map-both allowed_in (λ a. prefix_key a.prefix) listing.chosen)) (in_sorted prefix_cmp key_in IsNext (λ _. ⊤) (λ x y _ _ is. is) listing.chosen (everywhere listing.chosen) pairs)

    -- the rows are all that the tables have, in their order
    pub holds_are : holds_in (tables_of old.now) network pool start ≡ held
    holds_are =
        let t = tables_of old.now in
        let q = is_hold network pool start in
        let xs = held in
        collected prefix_cmp prefix_total prefix_exact (λ a. prefix_key a.prefix) q (λ a. prefix_key a.prefix) (λ a. a) (λ a. a) allowed_key same_allowed t.allowed xs
        (λ a b x y e. key_tells network a b (both _ _ x).0 (both _ _ y).0 e) keyed.allowed_keys holds_sorted
        (λ v k. let it = from_filter q t.allowed v (has_permutation xs (filter q t.allowed) v (IsPermutation-sym _ _ holds_listed) k) in (it.0, it.1, refl, refl))
        (λ a k e. (a, has_permutation (filter q t.allowed) xs a holds_listed (in_filter q t.allowed a k e), refl))
