-- What a query for one row tells where it shows none.
use Rattle.std.proofs.Common.{◌≡◌, ℕ, pos, List, [], ◌∷◌, length, refl, ap, ◌∙◌, arith}
use Rattle.std.proofs.lemmas.List.Sorted.{length_permutation}
use Rattle.std.proofs.Math.ListN.{length-map}
use Rattle.sqlite.specs.declared.types.Value.TheVariants.{Int}
use Rattle.sqlite.specs.Order.{Row}
use Rattle.sqlite.specs.Term.{Term, lit}
use Rattle.sqlite.specs.Tree.{Trees}
use Rattle.sqlite.specs.Query.{Query}
use Rattle.sqlite_sql.specs.Query.{page}
use Rattle.sqlite_sql.specs.Program.{IsProgramAnswer}
use Rattle.wgr_sql.specs.Effects.{plain_query, passing}
use Rattle.wgr_sql.proofs.Answers.{answers}

-- SELECT project FROM tree WHERE terms LIMIT 1
abbrev pub first_of : ℕ → List Term → List Term → Query
first_of tree terms project = record (plain_query tree terms project []) { limit = lit (Int (pos 1)) }

none_shown : (tree : ℕ) (terms project : List Term) (params : Row) (xs : List Row) → [] ≡ page (first_of tree terms project) params xs → [] ≡ page (plain_query tree terms project []) params xs
none_shown tree terms project params [] is = refl
none_shown tree terms project params (x ∷ xs) is = absurd (let long = ap length is in omega (arith, long))

no_elements : {X : Type 0} (xs : List X) → length xs ≡ 0 → xs ≡ []
no_elements [] long = refl
no_elements (x ∷ xs) long = absurd (omega (arith, long))

-- where it shows no row, none passes
pub none_passes : (tree : ℕ) (terms project : List Term) (db : Trees) (params : Row) → IsProgramAnswer [] (first_of tree terms project) db params [] → passing terms params (db tree) ≡ []
none_passes tree terms project db params h =
    let l = answers tree terms project [] db params [] (λ lost.
    let a = h lost in
    record { staged = a.staged; grouped = a.grouped; kept = a.kept; distinct = a.distinct; ordered = a.ordered; same = a.same; sorted = a.sorted; shown = none_shown tree terms project params _ a.shown }) in
    let none : 0 ≡ length l.chosen = ap length l.shown ∙ length-map l.chosen _ in
    let same : length l.chosen ≡ length (passing terms params (db tree)) = length_permutation _ _ l.same in
    no_elements _ (omega (arith, none, same))
