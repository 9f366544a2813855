-- Edits of a table of which rows that differ have rowids that differ.
use Rattle.std.proofs.Common.{◌≡◌, ℤ, List, [], ◌∷◌, ◌++◌, map, filter, Bool, true, false, not, cond, IsPermutation, Equal, refl, sym, ap, subst, ◌∙◌, inl, inr, arith, true≢false}
use Rattle.std.specs.Ordering.{is_eq, int_cmp}
use Rattle.std.specs.List.{list_any}
use Rattle.std.proofs.lemmas.Bool.{and_parts, or_parts, not-true, false_from_ne_true}
use Rattle.std.proofs.lemmas.Cmp.{tied_itself}
use Rattle.std.proofs.lemmas.List.Sorted.{IsPermutation-refl, IsPermutation-trans, IsPermutation-cons, IsPermutation-sym, IsPermutation-map, IsPermutation-append_left, IsPermutation-append_right, IsPermutation-middle, Contains-permutation}
use Rattle.sqlite.specs.declared.types.Value.TheVariants.{Int}
use Rattle.sqlite.specs.Order.{Row}
use Rattle.sqlite_value.specs.Order.{value_cmp}
use Rattle.sqlite_value.proofs.OrderLemmas.{value_cmp_total, value_cmp-Int}
use Rattle.sqlite_rules.specs.Lists.{Has}
use Rattle.sqlite_rules.proofs.ListLemmas.{has_contained, contains_had, has_filtered, has_kept, some_has, some_from}
use Rattle.sqlite_trees.specs.Tree.{rowid, has_rowid, put_row}
use Rattle.sqlite_rules.specs.Edit.{id_in, put_all, without_all, is_taken, are_fresh}
use Rattle.wgr_sql.specs.Keyed.{IsKeyed}
use Rattle.wgr_sql.proofs.TableLemmas.{put_one, taken_out, kept_alike, mapped, unmapped}
use Rattle.wgr_sql.proofs.Values.{is_equal}

exact_int : (m n : ℤ) → int_cmp m n ≡ Equal → m ≡ n
exact_int m n h = grind (arith)

pub has_moved : {X : Type 0} (xs ys : List X) (x : X) → IsPermutation xs ys → Has xs x → Has ys x
has_moved xs ys x p h = has_contained ys x (Contains-permutation xs ys x p (contains_had xs x h))

-- the rows whose rowids a query of the same table gave are those that it found
pub deleted_keyed : (p : Row → Bool) (rows found : List Row) (ids : List ℤ) → IsKeyed rows → IsPermutation (filter p rows) found → ids ≡ map (λ r. id_in (rowid r)) found
    → without_all rows ids ≡ filter (λ r. not (p r)) rows
deleted_keyed p rows found ids keyed same are = taken_out ids rows ∙ kept_alike _ _ rows (λ r here. ap not (alike r here (p r) refl))
  where
    alike : (r : Row) → Has rows r → (b : Bool) → p r ≡ b → list_any (λ id. has_rowid id r) ids ≡ b
    alike r here true is =
        let chosen = has_moved _ found r same (has_kept p rows r here is) in
        let among : Has ids (id_in (rowid r)) = subst (λ l. Has l (id_in (rowid r))) (sym are) (mapped (λ (x : Row). id_in (rowid x)) found r chosen) in
        some_from (λ id. has_rowid id r) ids (id_in (rowid r)) among (ap (λ v. is_eq (value_cmp (rowid r) v)) (sym (keyed.ints r here)) ∙ ap is_eq (tied_itself value_cmp_total (rowid r)))
    alike r here false is = false_from_ne_true _ (λ any.
        let it = some_has (λ id. has_rowid id r) ids any in
        let other = unmapped (λ (x : Row). id_in (rowid x)) found it.0 (subst (λ l. Has l it.0) are it.1) in
        let back = has_filtered p rows other.0 (has_moved found _ other.0 (IsPermutation-sym _ _ same) other.1) in
        let tie : value_cmp (rowid r) (Int it.0) ≡ Equal = is_equal _ it.2 in
        let tied : value_cmp (Int (id_in (rowid r))) (Int it.0) ≡ Equal = ap (λ v. value_cmp v (Int it.0)) (sym (keyed.ints r here)) ∙ tie in
        let one = keyed.once r other.0 here back.0 (exact_int _ _ (sym (value_cmp-Int _ _) ∙ tied) ∙ other.2) in
        true≢false (sym back.1 ∙ sym (ap p one) ∙ is))

-- rows that are put at free rowids are so many rows more
pub put_many : (news rows : List Row) → are_fresh rows news ≡ true → IsPermutation (news ++ rows) (put_all rows news)
put_many [] rows fresh = IsPermutation-refl _
put_many (n ∷ news) rows fresh =
    let both = and_parts _ _ fresh in
    IsPermutation-trans _ (news ++ n ∷ rows) _ (IsPermutation-sym _ _ (IsPermutation-middle news n rows)) (IsPermutation-trans _ (news ++ put_row n rows) _
    (IsPermutation-append_right news _ _ (put_one n rows (not-true _ both.0))) (put_many news (put_row n rows) both.1))

-- the rows that pass are changed in place
pub parted : {X Y : Type 0} (p : X → Bool) (f g : X → Y) (xs : List X) → IsPermutation (map f (filter p xs) ++ map g (filter (λ x. not (p x)) xs)) (map (λ x. cond (p x) (f x) (g x)) xs)
parted p f g [] = IsPermutation-refl _
parted p f g (x ∷ xs) = go (p x) (parted p f g xs)
  where
    go : (b : Bool) → IsPermutation (map f (filter p xs) ++ map g (filter (λ x. not (p x)) xs)) (map (λ x. cond (p x) (f x) (g x)) xs)
        → IsPermutation (map f (cond b (x ∷ filter p xs) (filter p xs)) ++ map g (cond (not b) (x ∷ filter (λ x. not (p x)) xs) (filter (λ x. not (p x)) xs))) (cond b (f x) (g x) ∷ map (λ x. cond (p x) (f x) (g x)) xs)
    go true later = IsPermutation-cons (f x) _ _ later
    go false later = IsPermutation-trans _ (g x ∷ map f (filter p xs) ++ map g (filter (λ x. not (p x)) xs)) _ (IsPermutation-middle (map f (filter p xs)) (g x) (map g (filter (λ x. not (p x)) xs))) (IsPermutation-cons (g x) _ _ later)

abbrev pub revised : (Row → Bool) → (Row → Row) → List Row → List Row
revised p change rows = map (λ r. cond (p r) (change r) r) rows

map_same : {X : Type 0} (xs : List X) → map (λ x. x) xs ≡ xs
map_same [] = refl
map_same (x ∷ xs) = ap (λ l. x ∷ l) (map_same xs)

-- what UPDATE makes of the rows that its query found
pub updated_rows : (p : Row → Bool) (change : Row → Row) (rows chosen : List Row) (ids : List ℤ) (news : List Row) → IsKeyed rows → IsPermutation (filter p rows) chosen
    → ids ≡ map (λ r. id_in (rowid r)) chosen → news ≡ map change chosen → are_fresh (without_all rows ids) news ≡ true
    → IsPermutation (put_all (without_all rows ids) news) (revised p change rows)
updated_rows p change rows chosen ids news keyed same are news_are fresh =
    let left = deleted_keyed p rows chosen ids keyed same are in
    let put = IsPermutation-sym _ _ (put_many news (without_all rows ids) fresh) in
    let named = subst (λ l. IsPermutation (put_all (without_all rows ids) news) (news ++ l)) left put in
    let mapped = subst (λ l. IsPermutation (put_all (without_all rows ids) news) (l ++ filter (λ r. not (p r)) rows)) news_are named in
    let back = IsPermutation-append_left (filter (λ r. not (p r)) rows) _ _ (IsPermutation-map change _ _ (IsPermutation-sym _ _ same)) in
    let whole = subst (λ l. IsPermutation (map change (filter p rows) ++ l) (revised p change rows)) (map_same _) (parted p change (λ r. r) rows) in
    IsPermutation-trans _ _ _ mapped (IsPermutation-trans _ _ _ back whole)

-- ---- rows stay keyed

pub keyed_moved : (rows others : List Row) → IsPermutation rows others → IsKeyed rows → IsKeyed others
keyed_moved rows others p keyed =
    let back = λ (r : Row) (h : Has others r). has_moved others rows r (IsPermutation-sym _ _ p) h in
    record { ints = λ r h. keyed.ints r (back r h); once = λ r s h k same. keyed.once r s (back r h) (back s k) same }

pub keyed_filter : (p : Row → Bool) (rows : List Row) → IsKeyed rows → IsKeyed (filter p rows)
keyed_filter p rows keyed = record { ints = λ r h. keyed.ints r (has_filtered p rows r h).0; once = λ r s h k same. keyed.once r s (has_filtered p rows r h).0 (has_filtered p rows s k).0 same }

pub keyed_revised : (p : Row → Bool) (change : Row → Row) (rows : List Row) → ((r : Row) → Has rows r → rowid (change r) ≡ rowid r) → IsKeyed rows → IsKeyed (revised p change rows)
keyed_revised p change rows same keyed = record {
  ints = λ r h. let from = unmapped (λ x. cond (p x) (change x) x) rows r h in
      let key = ap rowid from.2 ∙ stays from.0 from.1 (p from.0) in key ∙ keyed.ints from.0 from.1 ∙ ap (λ v. Int (id_in v)) (sym key);
  once = λ r s h k e.
      let one = unmapped (λ x. cond (p x) (change x) x) rows r h in
      let two = unmapped (λ x. cond (p x) (change x) x) rows s k in
      let ids = ap id_in (sym (ap rowid one.2 ∙ stays one.0 one.1 (p one.0))) ∙ e ∙ ap id_in (ap rowid two.2 ∙ stays two.0 two.1 (p two.0)) in
      one.2 ∙ ap (λ x. cond (p x) (change x) x) (keyed.once one.0 two.0 one.1 two.1 ids) ∙ sym two.2;
}
  where
    stays : (r : Row) → Has rows r → (b : Bool) → rowid (cond b (change r) r) ≡ rowid r
    stays r h true = same r h
    stays r h false = refl

pub not_taken : (rows : List Row) (new x : Row) → is_taken rows new ≡ false → Has rows x → is_eq (value_cmp (rowid x) (rowid new)) ≡ false
not_taken [] new x free h = absurd h
not_taken (r ∷ rows) new x free (inl same) = ap (λ y. is_eq (value_cmp (rowid y) (rowid new))) same ∙ (or_parts _ _ free).0
not_taken (r ∷ rows) new x free (inr later) = not_taken rows new x (or_parts _ _ free).1 later

apart_keys : (a b : Row) → rowid a ≡ Int (id_in (rowid a)) → rowid b ≡ Int (id_in (rowid b)) → is_eq (value_cmp (rowid a) (rowid b)) ≡ false → id_in (rowid a) ≡ id_in (rowid b) → ⊥
apart_keys a b one two apart same =
    let e : rowid a ≡ rowid b = one ∙ ap Int same ∙ sym two in
    true≢false (sym (ap is_eq (tied_itself value_cmp_total (rowid b))) ∙ ap (λ v. is_eq (value_cmp v (rowid b))) (sym e) ∙ apart)

pub keyed_put : (new : Row) (rows : List Row) → rowid new ≡ Int (id_in (rowid new)) → is_taken rows new ≡ false → IsKeyed rows → IsKeyed (put_row new rows)
keyed_put new rows key free keyed = keyed_moved (new ∷ rows) (put_row new rows) (put_one new rows free) (record { ints = ints; once = once })
  where
    ints : (r : Row) → Has (new ∷ rows) r → rowid r ≡ Int (id_in (rowid r))
    ints r (inl same) = subst (λ x. rowid x ≡ Int (id_in (rowid x))) (sym same) key
    ints r (inr later) = keyed.ints r later

    once : (r s : Row) → Has (new ∷ rows) r → Has (new ∷ rows) s → id_in (rowid r) ≡ id_in (rowid s) → r ≡ s
    once r s (inl a) (inl b) e = a ∙ sym b
    once r s (inl a) (inr b) e = absurd (apart_keys s r (keyed.ints s b) (ints r (inl a)) (subst (λ x. is_eq (value_cmp (rowid s) (rowid x)) ≡ false) (sym a) (not_taken rows new s free b)) (sym e))
    once r s (inr a) (inl b) e = absurd (apart_keys r s (keyed.ints r a) (ints s (inl b)) (subst (λ x. is_eq (value_cmp (rowid r) (rowid x)) ≡ false) (sym b) (not_taken rows new r free a)) e)
    once r s (inr a) (inr b) e = keyed.once r s a b e
