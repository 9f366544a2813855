-- An edit of a table that no table refers to sets nothing off.
use Rattle.std.proofs.Common.{◌≡◌, ◌==◌, ◌||◌, not, ℕ, List, Bool, true, false, [], ◌∷◌, map, Option, Some, None, option_map, Ordering, Less, Equal, Greater, refl, sym, ap, subst, ◌∙◌, if◌then◌else◌, true≢false}
use Rattle.std.specs.Prelude.{find, option_and_then}
use Rattle.std.specs.Char.{to_ascii_lowercase}
use Rattle.std.specs.Cmp.Lexicographic.{slice_cmp}
use Rattle.std.specs.Ordering.{nat_cmp, is_eq}
use Rattle.std.specs.List.{list_any, list_all, flat_map, filter_map}
use Rattle.std.proofs.lemmas.Bool.{and_parts, not-true}
use Rattle.std.proofs.lemmas.Map.Lookups.{exact_bytes}
use Rattle.sqlite.specs.Order.{Row}
use Rattle.sqlite_value.specs.declared.keys.Order.{Order}
use Rattle.sqlite.specs.Table.{Table}
use Rattle.sqlite.specs.Schema.{Schema}
use Rattle.sqlite_schema.specs.declared.schema.Keys.{Keys}
use Rattle.sqlite_schema.specs.declared.schema.Reference.{Reference}
use Rattle.sqlite_schema.specs.Names.{same_name}
use Rattle.sqlite_schema.specs.Rules.{ParentKey, parent_key, key_in, key_places, declared_order}
use Rattle.sqlite_rules.specs.declared.action.Deed.{Deed}
use Rattle.sqlite_rules.specs.Action.{work_by, work_for, works}
use Rattle.wgr_sql.specs.Named.{is_alone}

-- no table refers to the table of this name
abbrev pub is_unreferred : List ℕ → Schema → Bool
is_unreferred name schema = list_all (λ t. not (list_any (λ (r : Reference). same_name name r.parent) t.references)) schema.tables

is_equal : (o : Ordering) → is_eq o ≡ true → o ≡ Equal
is_equal Less h = absurd cc
is_equal Equal h = refl
is_equal Greater h = absurd cc

-- a name that is the same as another is found as the other is
same_as : (a b c : List ℕ) → same_name a b ≡ true → same_name a c ≡ same_name b c
unfolding same_name
same_as a b c same = ap (λ l. is_eq (slice_cmp nat_cmp l (map to_ascii_lowercase c))) (exact_bytes (map to_ascii_lowercase a) (map to_ascii_lowercase b) (is_equal _ same))

key_tree : (t : Table) (places : List ℕ) (o : Option Order) (k : ParentKey) → option_map (λ o. (t.tree, places, o)) o ≡ Some k → k.0 ≡ t.tree
key_tree t places None k e = absurd cc
key_tree t places (Some o) k e = let same : (t.tree, places, o) ≡ k = cc in sym (ap (λ (x : ParentKey). x.0) same)

key_of : (t : Table) (o : Option (List ℕ)) (k : ParentKey) → option_and_then (key_in t) o ≡ Some k → k.0 ≡ t.tree
key_of t None k e = absurd cc
key_of t (Some places) k e = key_tree t places (declared_order t places) k e

module _ (name : List ℕ) (tree : ℕ) where
  -- the table that a name finds has another tree, where the name isn't this one
  found_apart : (parent : List ℕ) → same_name name parent ≡ false → (ts : List Table) → list_all (is_alone name tree) ts ≡ true → (t : Table) → find (λ t. same_name t.name parent) ts ≡ Some t → (t.tree == tree) ≡ false
  found_apart parent other [] alone t is = absurd cc
  found_apart parent other (x ∷ ts) alone t is = go (same_name x.name parent) refl is (found_apart parent other ts (and_parts _ _ alone).1 t)
    where
      unnamed : same_name x.name parent ≡ true → (b : Bool) → same_name x.name name ≡ b → b ≡ false
      unnamed found true same = absurd (true≢false (sym found ∙ same_as x.name name parent same ∙ other))
      unnamed found false same = refl

      free : (b : Bool) → (false || not b) ≡ true → b ≡ false
      free false h = refl
      free true h = absurd cc

      go : (b : Bool) → same_name x.name parent ≡ b → (if b then Some x else find (λ t. same_name t.name parent) ts) ≡ Some t → (find (λ t. same_name t.name parent) ts ≡ Some t → (t.tree == tree) ≡ false) → (t.tree == tree) ≡ false
      go true found e later =
          let same : x ≡ t = cc in
          let none = unnamed found (same_name x.name name) refl in
          subst (λ (y : Table). (y.tree == tree) ≡ false) same (free (x.tree == tree) (ap (λ b. b || not (x.tree == tree)) (sym none) ∙ (and_parts _ _ alone).0))
      go false found e later = later e

  key_apart : (o : Option Table) (names : List (List ℕ)) (k : ParentKey) → ((t : Table) → o ≡ Some t → (t.tree == tree) ≡ false) → option_and_then (λ t. option_and_then (key_in t) (key_places t names)) o ≡ Some k → (k.0 == tree) ≡ false
  key_apart None names k apart e = absurd cc
  key_apart (Some t) names k apart e = subst (λ n. (n == tree) ≡ false) (sym (key_of t (key_places t names) k e)) (apart t refl)

  no_work : (depth : ℕ) (moves : List (Row × Row)) (child : Table) (ref : Reference) (d : Option Deed) (key : Option ParentKey) → ((k : ParentKey) → key ≡ Some k → (k.0 == tree) ≡ false) → work_by depth tree moves child ref d key ≡ None
  no_work depth moves child ref None key apart = refl
  no_work depth moves child ref (Some d) None apart = refl
  no_work depth moves child ref (Some d) (Some k) apart = rw (apart k refl)

  module _ (schema : Schema) (alone : list_all (is_alone name tree) schema.tables ≡ true) (keys : Keys) (depth : ℕ) (olds news : List Row) where
    none_of : (child : Table) (refs : List Reference) → list_any (λ (r : Reference). same_name name r.parent) refs ≡ false → filter_map (work_for schema keys depth tree olds news child) refs ≡ []
    none_of child [] none = refl
    none_of child (r ∷ refs) none =
        let parts = neither (same_name name r.parent) _ none in
        let one : work_for schema keys depth tree olds news child r ≡ None =
        no_work depth _ child r _ (parent_key schema.tables r) (λ k is. key_apart (find (λ t. same_name t.name r.parent) schema.tables) r.parent_columns k (λ t found. found_apart r.parent parts.0 schema.tables alone t found) is) in
        rw one (none_of child refs parts.1)
      where
        neither : (a b : Bool) → (a || b) ≡ false → (a ≡ false) × (b ≡ false)
        neither false b h = (refl, h)
        neither true b h = absurd cc

    none_from : (ts : List Table) → list_all (λ t. not (list_any (λ (r : Reference). same_name name r.parent) t.references)) ts ≡ true → flat_map (λ child. filter_map (work_for schema keys depth tree olds news child) child.references) ts ≡ []
    none_from [] all = refl
    none_from (t ∷ ts) all =
        let one = none_of t t.references (not-true _ (and_parts _ _ all).0) in
        rw one (none_from ts (and_parts _ _ all).1)

    pub works_none : is_unreferred name schema ≡ true → works schema keys depth tree olds news ≡ []
    works_none free = none_from schema.tables free
