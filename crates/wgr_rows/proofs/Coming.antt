-- What rows that are read one after the other tell of those that are to come.
use Rattle.std.proofs.Common.{◌≡◌, ℕ, suc, ◌+◌, ◌-◌, ◌<◌, ◌≤◌, ◌^◌, Ordering, Less, Equal, Greater, List, [], ◌∷◌, ◌++◌, map, drop, length, Option, Some, None, IsTrue, true, nat_le, refl, sym, ap, subst, ◌∙◌, arith, inl, inr, Bool, eqb-true}
use Rattle.std.specs.List.{AllByRecursion, filter}
use Rattle.std.specs.List.Sorted.{IsStrictlySortedBy}
use Rattle.std.specs.Ordering.{nat_cmp, ordering_then, MatchOrdering}
use Rattle.std.specs.Cmp.{nat_cmp_is, ranks}
use Rattle.std.specs.Prelude.{if◌then◌else◌}
use Rattle.sqlite.specs.Order.{Row}
use Rattle.sqlite.specs.Effect.{Database}
use Rattle.sqlite.specs.Given.{HasGiven}
use Rattle.sqlite.specs.Held.{Held, state}
use Rattle.sqlite.specs.State.{State, Shown, IsUnchanged, Survives}
use Rattle.sqlite.specs.Store.{Ghosts}
use Rattle.sqlite.proofs.Callers.{begins_shown, given_begin}
use Rattle.wgr_text.specs.declared.addr.Family.{Family}
use Rattle.wgr_text.specs.declared.addr.Family.TheVariants.{V4, V6}
use Rattle.wgr_text.specs.declared.prefix.Span.{Span}
use Rattle.wgr_text.specs.Prefix.{AddrValue, PrefixValue, IsAddr, IsPrefix, rank, first_rank, width}
use Rattle.wgr_pool.specs.Spans.{RisesFrom, reached_after}
use Rattle.wgr_model.specs.Rows.{AllowedRow, AreKeyed, Tables, family_number, prefix_cmp, prefix_key}
use Rattle.std.specs.List.Sorted.{IsPermutation}
use Rattle.std.proofs.lemmas.List.Sorted.{IsPermutation-sym}
use Rattle.std.proofs.lemmas.Bool.Decides.{nat_tests}
use Rattle.std.proofs.lemmas.Nat.{pow_pos}
use Rattle.wgr_text.proofs.Spans.{fits_word, prefix_ends}
use Rattle.wgr_pool.proofs.Bools.{and_true as both}
use Rattle.wgr_model.specs.Laws.{Has}
use Rattle.wgr_model.proofs.OrderLemmas.{from_filter}
use Rattle.wgr_model.proofs.SameLemmas.{has_permutation}
use Rattle.wgr_columns.specs.Decode.{IsRegister, allowed_in, tables_of}
use Rattle.wgr_rows.specs.HeldRows.{HeldSpan, brief, hold_params, holds_in, holds_text, is_hold, is_passed_over, last_number, staying, rows_to_come}
use Rattle.wgr_rows.specs.declared.progress.Progress.{Progress}
use Rattle.wgr_rows.specs.declared.progress.Progress.TheVariants.{Running}
use Rattle.wgr_rows.specs.Telling.{ShowsGoodRows, IsToldTo, begin_of}
use Rattle.wgr_rows.specs.Rising.{from_lower}
use Rattle.wgr_rows.proofs.Meaning.{query_ends}
use Rattle.wgr_rows.proofs.HoldLemmas.{held, held_read, holds_are, holds_sorted, holds_listed}

module _ {X Y : Type 0} (f : X → Y) where
  drop_there : (front : List X) (x : X) (tail : List X) → drop (length front) (map f ((front ++ x ∷ []) ++ tail)) ≡ f x ∷ drop (suc (length front)) (map f ((front ++ x ∷ []) ++ tail))
  drop_there [] x tail = refl
  drop_there (y ∷ front) x tail = drop_there front x tail

  drop_all : (front : List X) → drop (length front) (map f front) ≡ []
  drop_all [] = refl
  drop_all (y ∷ front) = drop_all front

-- ---- spans in order

pub one_family : (f g : Family) → family_number f ≡ family_number g → f ≡ g
one_family V4 V4 e = refl
one_family V6 V6 e = refl
one_family V4 V6 e = absurd (omega (arith, e))
one_family V6 V4 e = absurd (omega (arith, e))

-- of two keys of one family, the one below has no higher number
no_higher : (f g m n k l : ℕ) → f ≡ g → prefix_cmp (f, m, k) (g, n, l) ≡ Less → m ≤ n
no_higher f g m n k l e h = by (nat_cmp m n) (ranks m n) (sym (ap (λ o. ordering_then o (ordering_then (nat_cmp m n) (nat_cmp k l))) (sym (nat_cmp_is f g Equal e))) ∙ h)
  where
    by : (o : Ordering) → MatchOrdering o (m < n) (m ≡ n) (n < m) → ordering_then o (nat_cmp k l) ≡ Less → m ≤ n
    by Less less h = omega (arith, less)
    by Equal same h = omega (arith, same)
    by Greater more h = absurd (let e : Greater ≡ Less = h in cc)

later : (family : Family) (a : AllowedRow) (rows : List AllowedRow) → a.prefix.address.family ≡ family → AllByRecursion (λ b. b.prefix.address.family ≡ family) rows
    → AllByRecursion (λ y. prefix_cmp (prefix_key a.prefix) y ≡ Less) (map (λ b. prefix_key b.prefix) rows) → AllByRecursion (λ b. rank a.prefix.address ≤ rank b.prefix.address) rows
later family a [] is same up = tt
later family a (b ∷ bs) is same up =
    let alike = is ∙ sym same.0 in
    let low = no_higher (family_number a.prefix.address.family) (family_number b.prefix.address.family) a.prefix.address.number b.prefix.address.number a.prefix.length b.prefix.length (ap family_number alike) up.0 in
    let begin = ap first_rank alike in
    (omega (arith, low, begin), later family a bs is same.1 up.1)

abbrev pub spans : List HeldSpan → List Span
spans holds = map (λ x. x.0) holds

rises_from : (shows_peers : Bool) (network : ℕ) (family : Family) (floor : ℕ) (rows : List AllowedRow) → AllByRecursion (λ a. a.prefix.address.family ≡ family) rows → AllByRecursion (λ a. floor ≤ rank a.prefix.address) rows
    → IsStrictlySortedBy prefix_cmp (map (λ a. prefix_key a.prefix) rows) → RisesFrom floor (spans (map (brief shows_peers network) rows))
unfolding IsStrictlySortedBy
rises_from shows_peers network family floor [] same from up = tt
rises_from shows_peers network family floor (a ∷ rows) same from up = (from.0, rises_from shows_peers network family (rank a.prefix.address) rows same.1 (later family a rows same.0 same.1 up.0) up.1)

all_from : {A : Type 0} (P : A → Type 0) (xs : List A) → ((a : A) → Has xs a → P a) → AllByRecursion P xs
all_from P [] h = tt
all_from P (x ∷ xs) h = (h x (inl refl), all_from P xs (λ a k. h a (inr k)))

-- ---- a pool

pub le_of : (m n : ℕ) → nat_le m n ≡ true → m ≤ n
le_of m n e = grind (arith, nat_tests, e)

pub number_low : (a : AddrValue) → IsAddr a → a.number < 2 ^ 128
number_low a fits = fits_word a.number a.family fits

pub pool_high : (p : PrefixValue) → IsPrefix p → IsAddr p.address → last_number p < 2 ^ 128
pool_high p is fits =
    let ends = prefix_ends p is fits in
    let some = pow_pos (width p.address.family - p.length) in
    fits_word (last_number p) p.address.family (omega (arith, ends, some))

-- ---- a query that runs

module _ {S : Type 0} (g : Ghosts S) (h : Held S) (shows_peers : Bool) (register : IsRegister (state g h).now) (keyed : AreKeyed (tables_of (state g h).now)) (network : ℕ) (pool : PrefixValue) (start : ℕ) (low : start < 2 ^ 128) (high : last_number pool < 2 ^ 128) where
  abbrev text : List ℕ
  text = holds_text shows_peers

  abbrev params : Row
  params = hold_params network pool start

  abbrev read : Row → HeldSpan
  read row = brief shows_peers network (allowed_in row)

  abbrev holds : List HeldSpan
  holds = map (brief shows_peers network) (holds_in (tables_of (state g h).now) network pool start)

  holds_read : (new : State) (rows : List Row) → Shown text params (state g h) new rows → holds ≡ map read rows
  holds_read new rows shown =
      ap (map (brief shows_peers network)) (holds_are shows_peers (state g h) new register network pool start low high rows shown keyed) ∙ held_read shows_peers (state g h) new register network pool start low high rows shown

  unchanged : IsTrue (state g h).is_open → IsUnchanged (state g h) (state g h)
  unchanged live = (record { was_open = live; is_open = live; now_is = refl; committed_is = refl; mode = refl }, record { changes = refl; last_rowid = refl }, refl)

  -- rows that were given go on to all of them
  pub goes_on : (front : List Row) → HasGiven g text params h front → (tail : List Row) × Shown text params (state g h) (state g h) (front ++ tail)
  unfolding HasGiven
  goes_on front given =
      let s = state g h in
      begins_shown text params s s front (given_begin g text params h front given) (unchanged given.0.is_open) (λ c db it source. query_ends s.now.schema register.others register.schema_is shows_peers c it.is db _)

  pub row_given : (front : List Row) (row : Row) → HasGiven g text params h (front ++ row ∷ []) → drop (length front) holds ≡ read row ∷ drop (suc (length front)) holds
  row_given front row given =
      let on = goes_on (front ++ row ∷ []) given in
      let are = holds_read (state g h) ((front ++ row ∷ []) ++ on.0) on.1 in
      subst (λ l. drop (length front) l ≡ read row ∷ drop (suc (length front)) l) (sym are) (drop_there read front row on.0)

  pub none_left : (new : State) (front : List Row) → Shown text params (state g h) new front → drop (length front) holds ≡ []
  none_left new front shown = ap (drop (length front)) (holds_read new front shown) ∙ drop_all read front

  -- they rise from the pool's first address on
  pub begins : pool.address.number ≤ start → HasGiven g text params h [] → RisesFrom (rank pool.address) (spans holds)
  begins from given =
      let on = goes_on [] given in
      let s = state g h in
      let rows = held shows_peers s s register network pool start low high on.0 on.1 in
      let are = holds_are shows_peers s s register network pool start low high on.0 on.1 keyed in
      let up = holds_sorted shows_peers s s register network pool start low high on.0 on.1 keyed in
      let q = is_hold network pool start in
      let listed = holds_listed shows_peers s s register network pool start low high on.0 on.1 in
      let held_by : (a : AllowedRow) → Has rows a → q a ≡ true = (λ a k. (from_filter q (tables_of s.now).allowed a (has_permutation _ _ a (IsPermutation-sym _ _ listed) k)).1) in
      let family : (a : AllowedRow) → q a ≡ true → a.prefix.address.family ≡ pool.address.family = (λ a h. one_family a.prefix.address.family pool.address.family (eqb-true _ _ (both _ _ (both _ _ h).1).0)) in
      let above : (a : AllowedRow) → q a ≡ true → rank pool.address ≤ rank a.prefix.address = (λ a h.
      let begin = ap first_rank (family a h) in
      let number = le_of start a.prefix.address.number (both _ _ (both _ _ (both _ _ h).1).1).0 in
      omega (arith, from, number, begin)) in
      subst (λ l. RisesFrom (rank pool.address) (spans (map (brief shows_peers network) l))) (sym are)
      (rises_from shows_peers network pool.address.family (rank pool.address) rows (all_from _ _ (λ a k. family a (held_by a k))) (all_from _ _ (λ a k. above a (held_by a k))) up)

-- ---- one row more

pub good_back : (a b : State) → Survives a b (λ _. ⊥) → IsUnchanged a b → ShowsGoodRows b → ShowsGoodRows a
good_back a b survives same good = (omega (arith, survives.clean, good.0), λ live. subst (λ (d : Database). IsRegister d × AreKeyed (tables_of d)) same.0.now_is (good.1 same.0.is_open))

module _ {S : Type 0} (g : Ghosts S) (old new : Held S) (same : IsUnchanged (state g old) (state g new)) (good : ShowsGoodRows (state g new)) (shows_peers : Bool) (network : ℕ) (pool : PrefixValue) (start : ℕ) (is : IsPrefix pool) (fits : IsAddr pool.address) (low : start < 2 ^ 128) (taken : ℕ) (first : Option Span) (last : Option AddrValue) (told : IsToldTo g old shows_peers network pool start taken first last) where
  abbrev holds_of : Database → List HeldSpan
  holds_of d = map (brief shows_peers network) (holds_in (tables_of d) network pool start)

  abbrev had : List HeldSpan
  had = drop taken (holds_of (state g old).now)

  -- what is left after one row more
  abbrev left : List HeldSpan
  left = drop (taken + 1) (holds_of (state g new).now)

  abbrev HaveGiven : Row → Type 0
  HaveGiven row = HasGiven g (holds_text shows_peers) (hold_params network pool start) new (told.given ++ row ∷ [])

  pub parts : (row : Row) → HaveGiven row → had ≡ brief shows_peers network (allowed_in row) ∷ left
  parts row given =
      let r = good.1 same.0.is_open in
      let it = row_given g new shows_peers r.0 r.1 network pool start low (pool_high pool is fits) told.given row given in
      let first = brief shows_peers network (allowed_in row) in
      let one : suc taken ≡ taken + 1 = omega arith in
      subst (λ (d : Database). drop taken (holds_of d) ≡ first ∷ left) same.0.now_is
      (subst (λ n. drop taken (holds_of (state g new).now) ≡ first ∷ drop n (holds_of (state g new).now)) one
      (subst (λ n. drop n (holds_of (state g new).now) ≡ first ∷ drop (suc n) (holds_of (state g new).now)) told.count it))

  pub first_is : (row : Row) (hold : HeldSpan) → HaveGiven row → hold ≡ brief shows_peers network (allowed_in row) → had ≡ hold ∷ left
  first_is row hold given is = parts row given ∙ ap (λ x. x ∷ left) (sym is)

  pub told_next : (row : Row) (hold : HeldSpan) → HaveGiven row → hold ≡ brief shows_peers network (allowed_in row) → IsToldTo g new shows_peers network pool start (taken + 1) first (Some hold.0.lo)
  told_next row hold given is = record {
    given = told.given ++ row ∷ [];
    runs = given;
    count = longer told.given row ∙ ap (λ n. n + 1) told.count;
    rises = subst (λ (x : HeldSpan). RisesFrom (rank x.0.lo) (spans left)) (sym is) (subst (λ l. RisesFrom (reached_after last) (spans l)) (parts row given) told.rises).1;
    after = let it = subst (λ l. RisesFrom (begin_of first) (spans l)) (parts row given) told.after in from_lower (begin_of first) _ (spans left) it.0 it.1;
  }
    where
      longer : (xs : List Row) (x : Row) → length (xs ++ x ∷ []) ≡ length xs + 1
      longer [] x = refl
      longer (y ∷ xs) x = let e = longer xs x in omega (arith, e)

  pub last_was : Shown (holds_text shows_peers) (hold_params network pool start) (state g old) (state g new) told.given → had ≡ []
  last_was shown =
      let r = subst (λ (d : Database). IsRegister d × AreKeyed (tables_of d)) same.0.now_is (good.1 same.0.is_open) in
      let it = none_left g old shows_peers r.0 r.1 network pool start low (pool_high pool is fits) (state g new) told.given shown in
      subst (λ n. drop n (holds_of (state g old).now) ≡ []) told.count it

-- what comes first is given
pub first_given : {S : Type 0} (g : Ghosts S) (h : Held S) (shows_peers : Bool) (network : ℕ) (pool : PrefixValue) (start taken : ℕ) (first : Option Span) (last : Option AddrValue) (s : Span) → first ≡ Some s → IsToldTo g h shows_peers network pool start taken first last
    → IsToldTo g h shows_peers network pool start taken None (Some s.lo)
first_given g h shows_peers network pool start taken first last s is told =
    let up = subst (λ (f : Option Span). RisesFrom (begin_of f) (spans (rows_to_come shows_peers Running (tables_of (state g h).now) network pool start taken))) is told.after in
    record { given = told.given; runs = told.runs; count = told.count; rises = up; after = from_lower 0 (rank s.lo) _ (omega arith) up }

-- what is to come of a reading that runs
pub come_as : (shows_peers : Bool) (at : Progress) (t : Tables) (network : ℕ) (pool : PrefixValue) (start taken : ℕ) (ys : List HeldSpan) → at ≡ Running → rows_to_come shows_peers Running t network pool start taken ≡ ys → rows_to_come shows_peers at t network pool start taken ≡ ys
come_as shows_peers at t network pool start taken ys is come = subst (λ (a : Progress). rows_to_come shows_peers a t network pool start taken ≡ ys) (sym is) come

-- one that leads to an expired peer adds nothing
pub passed_over : (expired : ℕ → Bool) (xs ys : List HeldSpan) (h : HeldSpan) → xs ≡ h ∷ ys → is_passed_over expired h.1 ≡ true → staying expired xs ≡ staying expired ys
passed_over expired xs ys h is gone = ap (staying expired) is ∙ ap (λ b. if b then staying expired ys else h.0 ∷ staying expired ys) gone

-- ---- the start

pub is_open : {S : Type 0} (g : Ghosts S) (h : Held S) (query : List ℕ) (values : Row) (front : List Row) → HasGiven g query values h front → IsTrue (state g h).is_open
unfolding HasGiven
is_open g h query values front given = given.0.is_open

-- a query that has given nothing yet has all to give
pub told_first : {S : Type 0} (g : Ghosts S) (h : Held S) (shows_peers : Bool) (network : ℕ) (pool : PrefixValue) (start : ℕ) → IsPrefix pool → IsAddr pool.address → start < 2 ^ 128 → pool.address.number ≤ start → (first : Option Span) → begin_of first ≤ rank pool.address
    → HasGiven g (holds_text shows_peers) (hold_params network pool start) h [] → ShowsGoodRows (state g h) → IsToldTo g h shows_peers network pool start 0 first None
told_first g h shows_peers network pool start is fits low from first early given good =
    let r = good.1 (is_open g h (holds_text shows_peers) (hold_params network pool start) [] given) in
    let up = begins g h shows_peers r.0 r.1 network pool start low (pool_high pool is fits) from given in
    record { given = []; runs = given; count = refl; rises = from_lower 0 (rank pool.address) _ (omega arith) up; after = from_lower (begin_of first) (rank pool.address) _ early up }

-- the holding rows are those of the table, in their order
pub holds_moved : {S : Type 0} (g : Ghosts S) (h : Held S) (shows_peers : Bool) (network : ℕ) (pool : PrefixValue) (start : ℕ) → IsPrefix pool → IsAddr pool.address → start < 2 ^ 128 → HasGiven g (holds_text shows_peers) (hold_params network pool start) h [] → ShowsGoodRows (state g h)
    → IsPermutation (filter (is_hold network pool start) (tables_of (state g h).now).allowed) (holds_in (tables_of (state g h).now) network pool start)
holds_moved g h shows_peers network pool start is fits low given good =
    let r = good.1 (is_open g h (holds_text shows_peers) (hold_params network pool start) [] given) in
    let high = pool_high pool is fits in
    let s = state g h in
    let on = goes_on g h shows_peers r.0 r.1 network pool start low high [] given in
    subst (IsPermutation (filter (is_hold network pool start) (tables_of s.now).allowed)) (sym (holds_are shows_peers s s r.0 network pool start low high on.0 on.1 r.1)) (holds_listed shows_peers s s r.0 network pool start low high on.0 on.1)
