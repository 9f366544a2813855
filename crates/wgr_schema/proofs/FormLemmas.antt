-- Lists that are compared item by item.
use Rattle.std.proofs.Common.{◌≡◌, ℕ, ◌+◌, ◌<◌, ◌≤◌, List, [], ◌∷◌, ◌++◌, map, take, length, slice_index_or, refl, sym, ap, ap₂, ◌∙◌, arith}
use Rattle.std.proofs.lemmas.List.{get_or-map, take_more, take_all, map-append}
use Rattle.sqlite.specs.Table.{Table}
use Rattle.sqlite_value.specs.Keys.{plain}
use Rattle.wgr_schema.specs.Forms.{IsTableHead, IsBare, table_as, column_as}
use Rattle.wgr_schema.specs.declared.form.TableForm.{TableForm}

pub grown : {X Y : Type 0} (f : Y → X) (xs : List X) (ys : List Y) (at : ℕ) (x : X) (d : Y) → at < length xs → at < length ys → take at xs ≡ map f (take at ys) → x ≡ slice_index_or xs at x
    → x ≡ f (slice_index_or ys at d) → take (at + 1) xs ≡ map f (take (at + 1) ys)
grown f xs ys at x d low below so_far is same =
    take_more xs at x low ∙ ap₂ (λ l y. l ++ y ∷ []) so_far (sym is ∙ same) ∙ sym (map-append f (take at ys) (slice_index_or ys at d ∷ [])) ∙ sym (ap (map f) (take_more ys at d below))

pub whole : {X Y : Type 0} (f : Y → X) (xs : List X) (ys : List Y) (at : ℕ) → length xs ≡ length ys → length ys ≤ at → take at xs ≡ map f (take at ys) → xs ≡ map f ys
whole f xs ys at same past h = sym (take_all at xs (omega (arith, same, past))) ∙ h ∙ ap (map f) (take_all at ys past)

pub grown_at : {X Y : Type 0} (f : Y → X) (xs : List X) (ys : List Y) (at : ℕ) (e : X) (d : Y) → at < length xs → at < length ys → take at xs ≡ map f (take at ys)
    → slice_index_or xs at e ≡ f (slice_index_or ys at d) → take (at + 1) xs ≡ map f (take (at + 1) ys)
grown_at f xs ys at e d low below so_far same =
    take_more xs at e low ∙ ap₂ (λ l y. l ++ y ∷ []) so_far same ∙ sym (map-append f (take at ys) (slice_index_or ys at d ∷ [])) ∙ sym (ap (map f) (take_more ys at d below))

map-both : {X Y Z : Type 0} (f : X → Y) (g : Y → Z) (xs : List X) → map g (map f xs) ≡ map (λ x. g (f x)) xs
map-both f g [] = refl
map-both f g (x ∷ xs) = ap (λ l. g (f x) ∷ l) (map-both f g xs)

-- lists that are alike are so at each place
pub alike_at : {X Y : Type 0} (f : Y → X) (xs : List X) (ys : List Y) (at : ℕ) (e : X) (d : Y) → at < length ys → xs ≡ map f ys → slice_index_or xs at e ≡ f (slice_index_or ys at d)
alike_at f xs ys at e d below same = ap (λ l. slice_index_or l at e) same ∙ get_or-map f ys at d e below

-- a table is its parts
pub table_is : (t : Table) (f : TableForm) → IsTableHead t f → IsBare t → t.stamps ≡ record { places = []; terms = []; formats = [] } → t.columns ≡ map column_as f.columns.now → t.uniques ≡ map (λ p. p.now) f.uniques.now
    → t.orders ≡ map (λ _. plain) f.uniques.now → t ≡ table_as f
table_is t f h b stamps columns uniques orders = λ k. record {
  name = h.name k;
  tree = h.tree k;
  columns = columns k;
  key = h.key k;
  primary = h.primary k;
  uniques = uniques k;
  orders = (orders ∙ sym (map-both {Y = List ℕ} (λ p. p.now) (λ _. plain) f.uniques.now)) k;
  checks = b.checks k;
  references = b.references k;
  computed = b.computed k;
  stamps = stamps k;
  is_counted = b.uncounted k;
}

-- and its parts are those of the form
pub head_of : (t : Table) (f : TableForm) → t ≡ table_as f → IsTableHead t f
head_of t f e = record { name = ap (λ (x : Table). x.name) e; tree = ap (λ (x : Table). x.tree) e; key = ap (λ (x : Table). x.key) e; primary = ap (λ (x : Table). x.primary) e }

pub bare_of : (t : Table) (f : TableForm) → t ≡ table_as f → IsBare t
bare_of t f e = record { checks = ap (λ (x : Table). x.checks) e; references = ap (λ (x : Table). x.references) e; computed = ap (λ (x : Table). x.computed) e; uncounted = ap (λ (x : Table). x.is_counted) e }

pub orders_of : (t : Table) (f : TableForm) → t ≡ table_as f → t.orders ≡ map (λ _. plain) f.uniques.now
orders_of t f e = ap (λ (x : Table). x.orders) e ∙ map-both {Y = List ℕ} (λ p. p.now) (λ _. plain) f.uniques.now

-- a list of seven is its items
pub seven_are : {X : Type 0} (xs : List X) (a b c d e f g : X) → 7 ≤ length xs → length xs < 8 → a ≡ slice_index_or xs 0 a → b ≡ slice_index_or xs 1 b → c ≡ slice_index_or xs 2 c → d ≡ slice_index_or xs 3 d → e ≡ slice_index_or xs 4 e → f ≡ slice_index_or xs 5 f → g ≡ slice_index_or xs 6 g → xs ≡ a ∷ b ∷ c ∷ d ∷ e ∷ f ∷ g ∷ []
seven_are (x0 ∷ x1 ∷ x2 ∷ x3 ∷ x4 ∷ x5 ∷ x6 ∷ []) a b c d e f g low high h0 h1 h2 h3 h4 h5 h6 = λ z. (sym h0) z ∷ (sym h1) z ∷ (sym h2) z ∷ (sym h3) z ∷ (sym h4) z ∷ (sym h5) z ∷ (sym h6) z ∷ []
seven_are [] a b c d e f g low high h0 h1 h2 h3 h4 h5 h6 = absurd (omega (arith, low))
seven_are (x0 ∷ []) a b c d e f g low high h0 h1 h2 h3 h4 h5 h6 = absurd (omega (arith, low))
seven_are (x0 ∷ x1 ∷ []) a b c d e f g low high h0 h1 h2 h3 h4 h5 h6 = absurd (omega (arith, low))
seven_are (x0 ∷ x1 ∷ x2 ∷ []) a b c d e f g low high h0 h1 h2 h3 h4 h5 h6 = absurd (omega (arith, low))
seven_are (x0 ∷ x1 ∷ x2 ∷ x3 ∷ []) a b c d e f g low high h0 h1 h2 h3 h4 h5 h6 = absurd (omega (arith, low))
seven_are (x0 ∷ x1 ∷ x2 ∷ x3 ∷ x4 ∷ []) a b c d e f g low high h0 h1 h2 h3 h4 h5 h6 = absurd (omega (arith, low))
seven_are (x0 ∷ x1 ∷ x2 ∷ x3 ∷ x4 ∷ x5 ∷ []) a b c d e f g low high h0 h1 h2 h3 h4 h5 h6 = absurd (omega (arith, low))
seven_are (x0 ∷ x1 ∷ x2 ∷ x3 ∷ x4 ∷ x5 ∷ x6 ∷ x7 ∷ xs) a b c d e f g low high h0 h1 h2 h3 h4 h5 h6 = absurd (omega (arith, high))
