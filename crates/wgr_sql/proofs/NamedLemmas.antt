-- What the place of a table that is found by its name says, and what an edit of another table leaves of it.
use Rattle.std.proofs.Common.{◌≡◌, ◌≢◌, ◌≤◌, ◌^◌, ◌+◌, ◌==◌, ◌||◌, not, suc, zero, ℕ, List, Bool, true, false, [], ◌∷◌, slice_get, nat_le, Option, Some, None, option_map, inl, inr, refl, sym, ap, subst, ◌∙◌, arith, if◌then◌else◌}
use Rattle.std.specs.Prelude.{find, option_and_then}
use Rattle.std.specs.List.{list_all, position_from}
use Rattle.std.proofs.lemmas.Bool.{and_parts}
use Rattle.std.proofs.lemmas.Bool.Decides.{nat_tests}
use Rattle.sqlite.specs.Table.{Table}
use Rattle.sqlite.specs.Schema.{Schema}
use Rattle.sqlite.specs.Effect.{Database}
use Rattle.sqlite.specs.Order.{Row}
use Rattle.sqlite_schema.specs.Names.{same_name, table_named}
use Rattle.sqlite_rules.specs.Lists.{Has}
use Rattle.sqlite_rules.proofs.ListLemmas.{all_has}
use Rattle.sqlite_rules.specs.Edit.{IsNoIndex}
use Rattle.wgr_sql.proofs.TableLemmas.{apart}
use Rattle.wgr_sql.specs.Effects.{Edits}
use Rattle.wgr_sql.specs.Named.{HasTable, Holds, is_alone, rows_in, rows_named, tree_named}

position_past : (p : Table → Bool) (from : ℕ) (ts : List Table) (at : ℕ) → position_from p from ts ≡ Some at → from ≤ at
position_past p from [] at is = absurd cc
position_past p from (t ∷ ts) at is = go (p t) (position_past p (from + 1) ts at) is
  where
    go : (b : Bool) → (position_from p (from + 1) ts ≡ Some at → from + 1 ≤ at) → (if b then Some from else position_from p (from + 1) ts) ≡ Some at → from ≤ at
    go true later e = let same : from ≡ at = cc in omega (arith, same)
    go false later e = let past = later e in omega (arith, past)

apart_here : (b : Bool) → (false || not b) ≡ true → b ≡ false
apart_here false h = refl
apart_here true h = absurd cc

-- the first table with the tree is the first with the name
found_by_tree : (name : List ℕ) (tree : ℕ) (table : Table) (from k at : ℕ) (ts : List Table) → table.tree ≡ tree → at ≡ from + k → position_from (λ t. same_name t.name name) from ts ≡ Some at → slice_get ts k ≡ Some table
    → list_all (is_alone name tree) ts ≡ true → find (λ t. t.tree == tree) ts ≡ Some table
found_by_tree name tree table from k at [] has count named there alone = absurd cc
found_by_tree name tree table from k at (t ∷ ts) has count named there alone =
    go (same_name t.name name) refl k count named there (λ k count e there. found_by_tree name tree table (from + 1) k at ts has count e there (and_parts _ _ alone).1)
  where
    go : (b : Bool) → same_name t.name name ≡ b → (k : ℕ) → at ≡ from + k → (if b then Some from else position_from (λ t. same_name t.name name) (from + 1) ts) ≡ Some at → slice_get (t ∷ ts) k ≡ Some table
        → ((k : ℕ) → at ≡ (from + 1) + k → position_from (λ t. same_name t.name name) (from + 1) ts ≡ Some at → slice_get ts k ≡ Some table → find (λ t. t.tree == tree) ts ≡ Some table)
        → (if t.tree == tree then Some t else find (λ t. t.tree == tree) ts) ≡ Some table
    go true is k count e there later =
        let here : from ≡ at = cc in
        let none : k ≡ 0 = omega (arith, here, count) in
        let first : slice_get (t ∷ ts) 0 ≡ Some table = subst (λ n. slice_get (t ∷ ts) n ≡ Some table) none there in
        let same : t ≡ table = cc in
        let low : (t.tree == tree) ≡ true = let z : t.tree ≡ tree = ap (λ (x : Table). x.tree) same ∙ has in grind (arith, nat_tests) in
        rw (low, same)
    go false is zero count e there later = absurd (let past = position_past (λ t. same_name t.name name) (from + 1) ts at e in omega (arith, past, count))
    go false is (suc k) count e there later =
        let other : (t.tree == tree) ≡ false = apart_here (t.tree == tree) (ap (λ b. b || not (t.tree == tree)) (sym is) ∙ (and_parts _ _ alone).0) in
        rw other (later k (omega (arith, count)) e there)

module _ (first : ℕ) (name : List ℕ) (form : ℕ → Table) (named_so : (tree : ℕ) → (form tree).tree ≡ tree) (schema : Schema) (h : HasTable first name form schema) where
  pub holds : Holds schema name h.at (form h.tree)
  holds = record {
    named = h.named;
    there = h.there;
    by_tree = subst (λ n. find (λ t. t.tree == n) schema.tables ≡ Some (form h.tree)) (sym (named_so h.tree)) (found_by_tree name h.tree (form h.tree) 0 h.at h.at schema.tables (named_so h.tree) (omega arith) h.named h.there h.alone);
    low = subst (λ n. nat_le (2 ^ 31) n ≡ false) (sym (named_so h.tree)) h.low;
  }

  pub tree_is : tree_named schema name ≡ Some h.tree
  tree_is = rw (h.named, h.there, named_so)

  pub no_index : IsNoIndex schema h.tree
  no_index = apart schema h.tree h.unindexed

-- ---- what an edit of another table leaves

-- the table that a name finds
abbrev pub table_of_name : Schema → List ℕ → Option Table
table_of_name schema name = option_and_then (slice_get schema.tables) (table_named schema name)

pub has_at : {A : Type 0} (xs : List A) (at : ℕ) (x : A) → slice_get xs at ≡ Some x → Has xs x
has_at [] at x is = absurd cc
has_at (y ∷ xs) zero x is = inl (let same : y ≡ x = cc in sym same)
has_at (y ∷ xs) (suc at) x is = inr (has_at xs at x is)

-- it has the name
found_name : (p : Table → Bool) (from k at : ℕ) (ts : List Table) (t : Table) → at ≡ from + k → position_from p from ts ≡ Some at → slice_get ts k ≡ Some t → p t ≡ true
found_name p from k at [] t count named there = absurd cc
found_name p from k at (x ∷ ts) t count named there = go (p x) refl k count named there (λ k count e there. found_name p (from + 1) k at ts t count e there)
  where
    go : (b : Bool) → p x ≡ b → (k : ℕ) → at ≡ from + k → (if b then Some from else position_from p (from + 1) ts) ≡ Some at → slice_get (x ∷ ts) k ≡ Some t
        → ((k : ℕ) → at ≡ (from + 1) + k → position_from p (from + 1) ts ≡ Some at → slice_get ts k ≡ Some t → p t ≡ true) → p t ≡ true
    go true is k count e there later =
        let here : from ≡ at = cc in
        let none : k ≡ 0 = omega (arith, here, count) in
        let first : slice_get (x ∷ ts) 0 ≡ Some t = subst (λ n. slice_get (x ∷ ts) n ≡ Some t) none there in
        let same : x ≡ t = cc in
        subst (λ (y : Table). p y ≡ true) same is
    go false is zero count e there later = absurd (let past = position_past p (from + 1) ts at e in omega (arith, past, count))
    go false is (suc k) count e there later = later k (omega (arith, count)) e there

pub named_there : (schema : Schema) (name : List ℕ) (t : Table) → table_of_name schema name ≡ Some t → Has schema.tables t × (same_name t.name name ≡ true)
named_there schema name t is = go (table_named schema name) refl is
  where
    go : (o : Option ℕ) → table_named schema name ≡ o → option_and_then (slice_get schema.tables) o ≡ Some t → Has schema.tables t × (same_name t.name name ≡ true)
    go None found e = absurd cc
    go (Some at) found e = (has_at schema.tables at t e, found_name (λ t. same_name t.name name) 0 at at schema.tables t (omega arith) found e)

-- the rows of the table of this name, where it has another tree
pub named_stays : (name : List ℕ) (old new : Database) (tree : ℕ) (after : List Row) → Edits old.schema tree after old new → ((t : Table) → Has old.schema.tables t → same_name t.name name ≡ true → t.tree ≢ tree)
    → rows_named new name ≡ rows_named old name
named_stays name old new tree after e other =
    ap (λ s. rows_in new.trees (tree_named s name)) e.schema_is ∙ go (table_of_name old.schema name) refl
  where
    go : (o : Option Table) → table_of_name old.schema name ≡ o → rows_in new.trees (option_map (λ t. t.tree) (table_of_name old.schema name)) ≡ rows_in old.trees (option_map (λ t. t.tree) (table_of_name old.schema name))
    go None is = rw is refl
    go (Some t) is =
        let it = named_there old.schema name t is in
        let same : new.trees t.tree ≡ old.trees t.tree = all_has (λ (t : Table). t.tree ≢ tree → new.trees t.tree ≡ old.trees t.tree) old.schema.tables t e.tables it.0 (other t it.0 it.1) in
        ap (λ o. rows_in new.trees (option_map (λ (t : Table). t.tree) o)) is ∙ same ∙ sym (ap (λ o. rows_in old.trees (option_map (λ (t : Table). t.tree) o)) is)
