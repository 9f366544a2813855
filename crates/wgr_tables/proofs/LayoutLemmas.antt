-- A change of the register's tables sets nothing off in what stands after them.
use Rattle.std.proofs.Common.{◌≡◌, ◌≢◌, ℕ, true, false, Bool, not, ◌&&◌, ◌||◌, ◌==◌, nat_le, List, [], ◌∷◌, ◌++◌, Option, Some, None, option_map, refl, sym, ap, subst, ◌∙◌, arith, if◌then◌else◌, inl, inr, true≢false}
use Rattle.std.specs.Prelude.{find, option_and_then}
use Rattle.std.specs.List.{AllByRecursion, list_any, list_all, flat_map, filter_map}
use Rattle.std.proofs.lemmas.Bool.Decides.{nat_tests}
use Rattle.sqlite.specs.Order.{Row}
use Rattle.sqlite_value.specs.declared.keys.Order.{Order}
use Rattle.sqlite.specs.Table.{Table}
use Rattle.sqlite.specs.Schema.{Schema}
use Rattle.sqlite_schema.specs.declared.schema.Index.{Index}
use Rattle.sqlite_schema.specs.declared.schema.Keys.{Keys}
use Rattle.sqlite_schema.specs.declared.schema.Reference.{Reference}
use Rattle.sqlite_schema.specs.Names.{same_name}
use Rattle.sqlite_schema.specs.Rules.{ParentKey, parent_key, key_in, key_places, declared_order}
use Rattle.sqlite_rules.specs.declared.action.Deed.{Deed}
use Rattle.sqlite_rules.specs.Action.{work_by, work_for, works}
use Rattle.sqlite_rules.specs.Edit.{IsNoIndex}
use Rattle.sqlite_rules.specs.Lists.{Has}
use Rattle.wgr_columns.specs.Layout.{register_tables, register_indexes, Others, schema_with, AreOthersApart, refers, is_apart, is_past}

both : (a b : Bool) → (a && b) ≡ true → (a ≡ true) × (b ≡ true)
both true true h = (refl, refl)
both true false h = absurd cc
both false b h = absurd cc

neither : (a b : Bool) → (a || b) ≡ false → (a ≡ false) × (b ≡ false)
neither false b h = (refl, h)
neither true b h = absurd cc

is_false : (b : Bool) → not b ≡ true → b ≡ false
is_false false h = refl
is_false true h = absurd cc

-- ---- the parent of a reference that names none of the register's tables

find_past : {X : Type 0} (p : X → Bool) (xs ys : List X) → list_any p xs ≡ false → find p (xs ++ ys) ≡ find p ys
find_past p [] ys none = refl
find_past p (x ∷ xs) ys none = let n = neither (p x) (list_any p xs) none in ap (λ b. if b then Some x else find p (xs ++ ys)) n.0 ∙ find_past p xs ys n.1

found_past : (p : Table → Bool) (ys : List Table) → list_all (is_apart register_tables) ys ≡ true → (t : Table) → find p ys ≡ Some t → nat_le 13 t.tree ≡ true
found_past p [] all t is = absurd cc
found_past p (y ∷ ys) all t is = let h = both _ _ all in found_by y (p y) (find p ys) (both _ _ h.0).0 t (λ e. found_past p ys h.1 t e) is
  where
    found_by : (y : Table) (b : Bool) (rest : Option Table) → nat_le 13 y.tree ≡ true → (t : Table) → (rest ≡ Some t → nat_le 13 t.tree ≡ true) → (if b then Some y else rest) ≡ Some t → nat_le 13 t.tree ≡ true
    found_by y true rest here t later e = let same : y ≡ t = cc in subst (λ (x : Table). nat_le 13 x.tree ≡ true) same here
    found_by y false rest here t later e = later e

key_tree : (t : Table) (places : List ℕ) (o : Option Order) (k : ParentKey) → option_map (λ o. (t.tree, places, o)) o ≡ Some k → k.0 ≡ t.tree
key_tree t places None k e = absurd cc
key_tree t places (Some o) k e = let same : (t.tree, places, o) ≡ k = cc in sym (ap (λ (x : ParentKey). x.0) same)

key_of : (t : Table) (o : Option (List ℕ)) (k : ParentKey) → option_and_then (key_in t) o ≡ Some k → k.0 ≡ t.tree
key_of t None k e = absurd cc
key_of t (Some places) k e = key_tree t places (declared_order t places) k e

key_past : (o : Option Table) (names : List (List ℕ)) (k : ParentKey) → ((t : Table) → o ≡ Some t → nat_le 13 t.tree ≡ true) → option_and_then (λ t. option_and_then (key_in t) (key_places t names)) o ≡ Some k → nat_le 13 k.0 ≡ true
key_past None names k past e = absurd cc
key_past (Some t) names k past e = subst (λ n. nat_le 13 n ≡ true) (sym (key_of t (key_places t names) k e)) (past t refl)

parent_past : (more : List Table) → list_all (is_apart register_tables) more ≡ true → (ref : Reference) → refers register_tables ref ≡ false → (k : ParentKey) → parent_key (register_tables ++ more) ref ≡ Some k → nat_le 13 k.0 ≡ true
parent_past more all ref none k e =
    let test = λ (t : Table). same_name t.name ref.parent in
    key_past (find test more) ref.parent_columns k (λ t is. found_past test more all t is)
    (ap (option_and_then (λ t. option_and_then (key_in t) (key_places t ref.parent_columns))) (sym (find_past test register_tables more none)) ∙ e)

-- a table of another name than the register's first six has a tree after theirs
pub past_tree : (name : List ℕ) → list_any (λ t. same_name t.name name) register_tables ≡ false → (more : List Table) → list_all (is_apart register_tables) more ≡ true → (t : Table) → Has (register_tables ++ more) t
    → same_name t.name name ≡ true → nat_le 13 t.tree ≡ true
past_tree name none more all t here named = go register_tables none here
  where
    all_true : (p : Table → Bool) (ts : List Table) (t : Table) → list_all p ts ≡ true → Has ts t → p t ≡ true
    all_true p [] t all h = absurd h
    all_true p (y ∷ ts) t all (inl same) = ap p same ∙ (both _ _ all).0
    all_true p (y ∷ ts) t all (inr later) = all_true p ts t (both _ _ all).1 later

    go : (ts : List Table) → list_any (λ t. same_name t.name name) ts ≡ false → Has (ts ++ more) t → nat_le 13 t.tree ≡ true
    go [] none here = (both _ _ (all_true (is_apart register_tables) more t all here)).0
    go (x ∷ ts) none (inl same) = absurd (true≢false (sym named ∙ ap (λ (y : Table). same_name y.name name) same ∙ (neither _ _ none).0))
    go (x ∷ ts) none (inr later) = go ts (neither _ _ none).1 later

-- ---- so nothing is set off

no_work : (depth tree : ℕ) (moves : List (Row × Row)) (child : Table) (ref : Reference) (d : Option Deed) (key : Option ParentKey) → nat_le 13 tree ≡ false → ((k : ParentKey) → key ≡ Some k → nat_le 13 k.0 ≡ true)
    → work_by depth tree moves child ref d key ≡ None
no_work depth tree moves child ref None key low past = refl
no_work depth tree moves child ref (Some d) None low past = refl
no_work depth tree moves child ref (Some d) (Some k) low past =
    let high = past k refl in
    let other : (k.0 == tree) ≡ false = grind (arith, nat_tests) in
    rw other

module _ (others : Others) (apart : AreOthersApart others) (keys : Keys) (depth tree : ℕ) (low : nat_le 13 tree ≡ false) (olds news : List Row) where
  abbrev schema : Schema
  schema = schema_with others

  none_of : (child : Table) (refs : List Reference) → list_any (refers register_tables) refs ≡ false → filter_map (work_for schema keys depth tree olds news child) refs ≡ []
  none_of child [] none = refl
  none_of child (r ∷ refs) none =
      let n = neither _ _ none in
      let one : work_for schema keys depth tree olds news child r ≡ None = no_work depth tree _ child r _ (parent_key schema.tables r) low (parent_past others.tables apart.tables r n.0) in
      rw one (none_of child refs n.1)

  none_from : (ms : List Table) → list_all (is_apart register_tables) ms ≡ true → flat_map (λ child. filter_map (work_for schema keys depth tree olds news child) child.references) ms ≡ []
  none_from [] all = refl
  none_from (m ∷ ms) all =
      let h = both _ _ all in
      let one = none_of m m.references (is_false _ (both _ _ h.0).1) in
      rw one (none_from ms h.1)

  pub works_none : works schema keys depth tree olds news ≡ []
  works_none = none_from others.tables apart.tables

-- ---- no further index has a tree of the register's tables

no_index : (indexes : List Index) (tree : ℕ) → nat_le 13 tree ≡ false → list_all is_past indexes ≡ true → AllByRecursion (λ (i : Index). i.tree ≢ tree) indexes
no_index [] tree low past = tt
no_index (i ∷ more) tree low past = let h = both _ _ past in (λ same. absurd (let one : nat_le 13 i.tree ≡ true = h.0 in grind (arith, nat_tests)), no_index more tree low h.1)

-- one of the trees of the register's tables
pub is_no_index : (others : Others) → AreOthersApart others → (tree : ℕ) → nat_le 13 tree ≡ false → list_all (λ i. not (i.tree == tree)) register_indexes ≡ true → IsNoIndex (schema_with others) tree
is_no_index others apart tree low ours = joined register_indexes others.indexes (first register_indexes ours) (no_index others.indexes tree low apart.indexes)
  where
    first : (xs : List Index) → list_all (λ i. not (i.tree == tree)) xs ≡ true → AllByRecursion (λ (i : Index). i.tree ≢ tree) xs
    first [] h = tt
    first (i ∷ xs) h = let b = both _ _ h in (λ same. absurd (let one : (i.tree == tree) ≡ false = is_false _ b.0 in grind (arith, nat_tests)), first xs b.1)

    joined : (xs ys : List Index) → AllByRecursion (λ (i : Index). i.tree ≢ tree) xs → AllByRecursion (λ (i : Index). i.tree ≢ tree) ys → AllByRecursion (λ (i : Index). i.tree ≢ tree) (xs ++ ys)
    joined [] ys p q = q
    joined (x ∷ xs) ys p q = (p.0, joined xs ys p.1 q)
