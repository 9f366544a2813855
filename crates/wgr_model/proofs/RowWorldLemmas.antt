-- The law of two worlds over rows.
use Rattle.std.proofs.Common.{◌≡◌, List, [], ◌∷◌, Some, None, Option, refl, sym, ap, ap₂, ◌∙◌}
use Rattle.wgr_model.specs.RowLaws.{RowsOfTwoWorlds, answers_to, rows_view}
use Rattle.wgr_model.specs.Runs.{acknowledged}
use Rattle.wgr_model.specs.Steps.{Answer, Event}
use Rattle.wgr_model.specs.Tenants.{Agree, own_events, tenant_run, answers_given}
use Rattle.wgr_model.proofs.RowRunLemmas.{rows_isolated}
use Rattle.wgr_model.proofs.WorldLemmas.{two_worlds}

-- the answers that were given are those that the tenant alone has
given_is_all : (alone : List (Option Answer)) (es : List (Event × Answer)) → Agree alone es → answers_to alone es ≡ answers_given alone
given_is_all [] [] agree = refl
given_is_all [] (e ∷ es) agree = elim agree [ ]
given_is_all (a ∷ rest) [] agree = elim agree [ ]
given_is_all (None ∷ rest) (e ∷ es) agree = given_is_all rest es agree.1
given_is_all (Some a ∷ rest) (e ∷ es) agree = ap₂ (λ x xs. x ∷ xs) (sym agree.0) (given_is_all rest es agree.1)

pub rows_of_two_worlds : RowsOfTwoWorlds
rows_of_two_worlds me t u x y es fs it proper run ix proper_too run_too same own =
    let one = rows_isolated t u es it proper run in
    let two = rows_isolated x y fs ix proper_too run_too in
    let left = acknowledged es in
    let right = acknowledged fs in
    let v = rows_view t me in
    let w = rows_view x me in
    let worlds = two_worlds me v left right (own ∙ ap (λ z. own_events me z right) (sym same)) in (
      given_is_all (tenant_run me v left).0 left (one.answers me) ∙ worlds.0 ∙ ap (λ z. answers_given (tenant_run me z right).0) same ∙ sym (given_is_all (tenant_run me w right).0 right (two.answers me)),
      sym (one.views me) ∙ worlds.1 ∙ ap (λ z. (tenant_run me z right).1) same ∙ two.views me,
    )
