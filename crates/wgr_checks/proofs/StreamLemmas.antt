-- What rows that are read one after the other tell of all rows of a table.
use Rattle.std.proofs.Common.{◌≡◌, ◌+◌, ◌<◌, ◌<ℤ◌, ◌^◌, ℕ, ℤ, pos, negsuc, suc, false, List, [], ◌∷◌, ◌++◌, map, length, get_or, Option, Some, None, Err, IfSome, IsTrue, Less, inl, refl, sym, ap, ap₂, subst, ◌∙◌, Bool, SFits, w64, arith, length-append}
use Rattle.std.specs.List.{AllByRecursion, IsDistinct}
use Rattle.std.specs.List.Sorted.{IsSorted}
use Rattle.std.specs.Ordering.{MatchOrdering, int_cmp, int_eq, is_eq}
use Rattle.std.specs.Cmp.{int_ranks}
use Rattle.std.proofs.lemmas.Cmp.{int_cmp_total}
use Rattle.std.proofs.lemmas.Int.{ints}
use Rattle.std.proofs.lemmas.List.{map-append}
use Rattle.sqlite.specs.Order.{Row}
use Rattle.sqlite.specs.declared.error.Error.{Error}
use Rattle.sqlite.specs.Effect.{Database}
use Rattle.sqlite.specs.Given.{HasGiven}
use Rattle.sqlite.specs.Held.{Held, state}
use Rattle.sqlite.specs.State.{State, FailsToQuery, Shown, IsUnchanged}
use Rattle.sqlite.specs.Store.{Ghosts}
use Rattle.sqlite.proofs.Callers.{begins_shown, given_begin}
use Rattle.sqlite_trees.proofs.ListLemmas.{all-map}
use Rattle.wgr_sql.proofs.QueryLemmas.{fails_same, query_open, shown_open}
use Rattle.wgr_columns.specs.LaidOut.{IsLaidOut}
use Rattle.wgr_checks.proofs.SortedLemmas.{differing_rise}
use Rattle.wgr_columns.specs.Fields.{IsIntegerAt}
use Rattle.wgr_columns.specs.LaidOut.{Laid}
use Rattle.wgr_checks.proofs.TokenLemmas.{int_tells}
use Rattle.wgr_checks.specs.declared.table.Table.{Table}
use Rattle.wgr_checks.specs.OwnRows.{AreOwnRows}
use Rattle.wgr_checks.specs.TableRows.{IsRowOf, text_of, tree_of}
use Rattle.wgr_checks.specs.Walked.{EndsAtRow, IsStill, IsWalked, from_on, still_to_come}
use Rattle.wgr_checks.proofs.RowLemmas.{Rowid}
use Rattle.wgr_checks.proofs.MemberQueries.{listed, plain, query_ends}
use Rattle.wgr_checks.proofs.TableLemmas.{table_there, table_back, table_sorted}

-- ---- one more

module _ {X : Type 0} where
  all_push : (P : X → Type 0) (xs : List X) (y : X) → AllByRecursion P xs → P y → AllByRecursion P (xs ++ y ∷ [])
  all_push P [] y all last = (last, tt)
  all_push P (x ∷ xs) y all last = (all.0, all_push P xs y all.1 last)

  apart_push : (clash : X → X → Bool) (xs : List X) (y : X) → IsDistinct clash xs → AllByRecursion (λ x. clash x y ≡ false) xs → IsDistinct clash (xs ++ y ∷ [])
  unfolding IsDistinct
  apart_push clash [] y apart all = (tt, tt)
  apart_push clash (x ∷ xs) y apart all = (all_push (λ z. clash x z ≡ false) xs y apart.0 all.0, apart_push clash xs y apart.1 all.1)

  amid : (P : X → Type 0) (xs : List X) (y : X) (zs : List X) → AllByRecursion P ((xs ++ y ∷ []) ++ zs) → P y
  amid P [] y zs all = all.0
  amid P (x ∷ xs) y zs all = amid P xs y zs all.1

  regroup : (xs : List X) (a b : X) (zs : List X) → ((xs ++ a ∷ []) ++ b ∷ []) ++ zs ≡ xs ++ a ∷ b ∷ zs
  regroup [] a b zs = refl
  regroup (x ∷ xs) a b zs = ap (λ l. x ∷ l) (regroup xs a b zs)

  place_here : (xs : List X) (a : X) (zs : List X) (d : X) → get_or (xs ++ a ∷ zs) (length xs) d ≡ a
  place_here [] a zs d = refl
  place_here (x ∷ xs) a zs d = place_here xs a zs d

  place_next : (xs : List X) (a b : X) (zs : List X) (d : X) → get_or (xs ++ a ∷ b ∷ zs) (suc (length xs)) d ≡ b
  place_next [] a b zs d = refl
  place_next (x ∷ xs) a b zs d = place_next xs a b zs d

chained : (last : Option ℤ) (z w : ℤ) → IfSome last (λ y. int_cmp y z ≡ Less) → int_cmp z w ≡ Less → IfSome last (λ y. int_cmp y w ≡ Less)
chained None z w before less = tt
chained (Some y) z w before less = int_cmp_total.trans y z w before less

between : (front : List ℤ) (a b : ℤ) (tail : List ℤ) → IsSorted int_cmp (front ++ a ∷ b ∷ tail) → IsDistinct int_eq (front ++ a ∷ b ∷ tail) → int_cmp a b ≡ Less
between front a b tail up apart =
    let keys = front ++ a ∷ b ∷ tail in
    let at = length front in
    let one : at + 1 ≡ suc at = omega arith in
    let high : at + 1 < length keys = let e = length-append front (a ∷ b ∷ tail) in omega (arith, e) in
    let less = differing_rise int_cmp_total int_eq int_tells keys up apart at a high in
    ap₂ int_cmp (sym (place_here front a (b ∷ tail) a)) (sym (place_next front a b tail a) ∙ ap (λ n. get_or keys n a) (sym one)) ∙ less

-- ---- it ends

fewer_from : (y z : ℤ) → SFits w64 z → y <ℤ z → from_on z < from_on y
fewer_from (pos a) (pos b) fits less = omega (arith, ints, less, fits.sfits)
fewer_from (pos a) (negsuc b) fits less = absurd less.lt
fewer_from (negsuc a) (pos b) fits less = omega arith
fewer_from (negsuc a) (negsuc b) fits less = omega (arith, ints, less)

all_from_on : (z : ℤ) → SFits w64 z → from_on z < 2 ^ 64 + 1
all_from_on (pos n) fits = omega arith
all_from_on (negsuc n) fits = omega (arith, fits.sfits)

-- rowids of 64 bits that rise come to an end
pub fewer_to_come : (last : Option ℤ) (z : ℤ) → SFits w64 z → IfSome last (λ y. int_cmp y z ≡ Less) → still_to_come (Some z) < still_to_come last
fewer_to_come None z fits after = all_from_on z fits
fewer_to_come (Some y) z fits after = fewer_from y z fits (subst (λ o. MatchOrdering o (y <ℤ z) (y ≡ z) (z <ℤ y)) after (int_ranks y z))

-- ---- a walk

module _ (P : Row → Type 0) where
  pub walked_none : IsWalked P [] None
  unfolding IsDistinct
  walked_none = record { own = record { each = tt; own_rowids = record { each = tt; rowids = tt } }; ends = tt; unused = λ z after. tt }

  module _ (rows : List Row) (last : Option ℤ) (row : Row) (h : IsWalked P rows last) where
    pub walked_next : P row → IsIntegerAt row 0 → (z : ℤ) → z ≡ Rowid row → IfSome last (λ y. int_cmp y z ≡ Less) → IsWalked P (rows ++ row ∷ []) (Some z)
    walked_next good whole z is after = record {
      own = record {
        each = all_push P rows row h.own.each good;
        own_rowids = record {
          each = all_push (λ r. IsIntegerAt r 0) rows row h.own.own_rowids.each whole;
          rowids =
              let new = all-map (λ y. int_eq y z ≡ false) Rowid rows (h.unused z after) in
              subst (IsDistinct int_eq) (ap (λ y. map Rowid rows ++ y ∷ []) is ∙ sym (map-append Rowid rows (row ∷ []))) (apart_push int_eq (map Rowid rows) z h.own.own_rowids.rowids new);
        };
      };
      ends = (rows, row, refl, sym is);
      unused = λ w below. all_push (λ r. int_eq (Rowid r) w ≡ false) rows row (h.unused w (chained last z w after below)) (ap (λ y. int_eq y w) (sym is) ∙ int_tells z w ∙ ap is_eq below);
    }

    module _ (tail : List Row) (own : AreOwnRows P ((rows ++ row ∷ []) ++ tail)) (up : IsSorted int_cmp (map Rowid ((rows ++ row ∷ []) ++ tail))) where
      rises : (before : Option ℤ) → IfSome before (EndsAtRow rows) → IfSome before (λ y. int_cmp y (Rowid row) ≡ Less)
      rises None none = tt
      rises (Some y) e =
          let front = e.0 in
          let r = e.1 in
          let keys : map Rowid ((rows ++ row ∷ []) ++ tail) ≡ map Rowid front ++ Rowid r ∷ Rowid row ∷ map Rowid tail =
          ap (λ l. map Rowid ((l ++ row ∷ []) ++ tail)) e.2 ∙ ap (map Rowid) (regroup front r row tail) ∙ map-append Rowid front (r ∷ row ∷ tail) in
          subst (λ v. int_cmp v (Rowid row) ≡ Less) e.3 (between (map Rowid front) (Rowid r) (Rowid row) (map Rowid tail) (subst (IsSorted int_cmp) keys up) (subst (IsDistinct int_eq) keys own.own_rowids.rowids))

      -- of rows that are as they should be, in their order, each passes
      pub passes : P row × IsIntegerAt row 0 × IfSome last (λ y. int_cmp y (Rowid row) ≡ Less)
      passes = (amid P rows row tail own.each, amid (λ r. IsIntegerAt r 0) rows row tail own.own_rowids.each, rises last h.ends)

-- ---- a table

pub still_then : (a b c : State) → IsStill a b → IsUnchanged b c → IsStill a c
still_then a b c still same live = let s = still same.0.was_open in (s.0, same.0.now_is ∙ s.1, same.0.committed_is ∙ s.2)

-- a query that doesn't begin
pub failed_kept : (t : Table) (old new : State) (e : Error) → FailsToQuery (text_of t) [] old new e → Laid old → (IsTrue old.is_open → old.now ≡ old.committed) → IsTrue new.is_open → IsTrue old.is_open × (new.now ≡ old.now)
failed_kept t old new e fails laid settled live =
    let was = query_open (text_of t) [] old new (λ (rows : List Row). rows) (Err e) tt (inl fails) live in
    (was, fails_same (text_of t) [] old new (plain t old.now.schema (laid was)) settled e fails live)

module _ (t : Table) (networks : List ℕ) where
  abbrev IsRow : Row → Type 0
  IsRow = IsRowOf t networks

  -- all rows were shown, and walked over
  pub whole : (old mid new : State) → Laid old → IsStill old mid → (rows : List Row) (last : Option ℤ) → IsWalked IsRow rows last → Shown (text_of t) [] mid new rows → AreOwnRows IsRow (old.now.trees (tree_of t))
  whole old mid new laid still rows last walked shown =
      let s = still (shown_open (text_of t) [] mid new rows shown) in
      let here : IsLaidOut mid.now.schema = subst (λ (d : Database). IsLaidOut d.schema) (sym s.1) (laid s.0) in
      let l = listed t mid new here rows shown in
      subst (λ (d : Database). AreOwnRows IsRow (d.trees (tree_of t))) s.1 (table_there t networks (mid.now.trees (tree_of t)) rows l walked.own)

  module _ {S : Type 0} (g : Ghosts S) (h : Held S) (front : List Row) (given : HasGiven g (text_of t) [] h front) where
    pub is_open : IsTrue (state g h).is_open
    unfolding HasGiven
    is_open = given.0.is_open

    pub unchanged : IsUnchanged (state g h) (state g h)
    unchanged = (record { was_open = is_open; is_open = is_open; now_is = refl; committed_is = refl; mode = refl }, record { changes = refl; last_rowid = refl }, refl)

    -- rows that were given go on to all rows of the table
    pub goes_on : IsLaidOut (state g h).now.schema → AreOwnRows IsRow ((state g h).now.trees (tree_of t)) → (tail : List Row) × AreOwnRows IsRow (front ++ tail) × IsSorted int_cmp (map Rowid (front ++ tail))
    goes_on laid good =
        let s = state g h in
        let all = begins_shown (text_of t) [] s s front (given_begin g (text_of t) [] h front given) unchanged (λ c db it source. query_ends t s.now.schema laid c it.is db _) in
        let l = listed t s s laid (front ++ all.0) all.1 in
        let own = table_back t networks (s.now.trees (tree_of t)) (front ++ all.0) l good in
        (all.0, own, table_sorted t networks (s.now.trees (tree_of t)) (front ++ all.0) l own)

  -- a row that was given after others passes, if the rows of the table are as they should be
  pub must_pass : {S : Type 0} (g : Ghosts S) (old : State) (h : Held S) → Laid old → IsStill old (state g h) → (rows : List Row) (last : Option ℤ) (row : Row) → IsWalked IsRow rows last → HasGiven g (text_of t) [] h (rows ++ row ∷ [])
      → AreOwnRows IsRow (old.now.trees (tree_of t)) → IsRow row × IsIntegerAt row 0 × IfSome last (λ y. int_cmp y (Rowid row) ≡ Less)
  must_pass g old h laid still rows last row walked given good =
      let s = still (is_open g h (rows ++ row ∷ []) given) in
      let here : IsLaidOut (state g h).now.schema = subst (λ (d : Database). IsLaidOut d.schema) (sym s.1) (laid s.0) in
      let on = goes_on g h (rows ++ row ∷ []) given here (subst (λ (d : Database). AreOwnRows IsRow (d.trees (tree_of t))) (sym s.1) good) in
      passes IsRow rows last row walked on.0 on.1 on.2
