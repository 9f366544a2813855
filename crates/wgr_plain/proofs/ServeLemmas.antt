-- A run grows at its end.
use Rattle.std.proofs.Common.{◌≡◌, ℕ, ◌+◌, ◌<◌, List, [], ◌∷◌, ◌++◌, length, slice_index_or, take, Option, refl, sym, ap, subst, ◌∙◌, arith}
use Rattle.std.specs.Option.{option_map}
use Rattle.std.proofs.lemmas.List.{take_more, length-take-le}
use Rattle.wgr_plain.specs.declared.answer.Answer as answer
use Rattle.wgr_plain.specs.declared.run.Event as event
use Rattle.wgr_plain.specs.Calls.{AreAnswered, answer_of, model_event}
use Rattle.wgr_model.specs.Register.{Register}
use Rattle.wgr_model.specs.Runs.{IsRun, IsServed, Served}
use Rattle.wgr_model.specs.Steps.{Answer, Event}
use Rattle.wgr_model.proofs.RunLemmas.{same_itself}

-- each event with its answer, as far as there are answers
abbrev pub served : List event.Event → List (Option answer.Answer) → List Served
served [] answers = []
served (e ∷ es) [] = []
served (e ∷ es) (a ∷ answers) = (model_event e, option_map answer_of a) ∷ served es answers

-- where there is one for each, that is the whole list
pub served_whole : (es : List event.Event) (answers : List (Option answer.Answer)) → length answers ≡ length es → AreAnswered es answers (served es answers)
served_whole [] [] h = record { asked = refl; reported = refl }
served_whole [] (a ∷ answers) h = absurd (omega (arith, h))
served_whole (e ∷ es) [] h = absurd (omega (arith, h))
served_whole (e ∷ es) (a ∷ answers) h =
    let rest = served_whole es answers (omega (arith, h)) in
    record { asked = ap (λ xs. model_event e ∷ xs) rest.asked; reported = ap (λ xs. option_map answer_of a ∷ xs) rest.reported }

-- a run to this very register
abbrev pub IsExactRun : Register → List Served → Register → Type 0
IsExactRun r [] s = r ≡ s
IsExactRun r (e ∷ es) s = (next : Register) × IsServed r e.0 e.1 next × IsExactRun next es s

pub exact_is_run : (es : List Served) (r s : Register) → IsExactRun r es s → IsRun r es s
exact_is_run [] r s e = subst (λ (x : Register). IsRun r [] x) e (same_itself r)
exact_is_run (e ∷ es) r s (next, step, rest) = (next, step, exact_is_run es next s rest)

pub run_more : (es : List Served) (r s t : Register) (e : Event) (a : Option Answer) → IsExactRun r es s → IsServed s e a t → IsExactRun r (es ++ (e, a) ∷ []) t
run_more [] r s t e a run step = (t, subst (λ (x : Register). IsServed x e a t) (sym run) step, refl)
run_more (x ∷ es) r s t e a (next, first, run) step = (next, first, run_more es next s t e a run step)

served_push : (es : List event.Event) (answers : List (Option answer.Answer)) (e : event.Event) (a : Option answer.Answer) → length es ≡ length answers → served (es ++ e ∷ []) (answers ++ a ∷ []) ≡ served es answers ++ (model_event e, option_map answer_of a) ∷ []
served_push [] [] e a h = refl
served_push [] (b ∷ answers) e a h = absurd (omega (arith, h))
served_push (x ∷ es) [] e a h = absurd (omega (arith, h))
served_push (x ∷ es) (b ∷ answers) e a h = ap (λ ps. (model_event x, option_map answer_of b) ∷ ps) (served_push es answers e a (omega (arith, h)))

-- one more event with its answer
pub served_more : (es : List event.Event) (answers : List (Option answer.Answer)) (i : ℕ) (e : event.Event) (a : Option answer.Answer) → i < length es → e ≡ slice_index_or es i e → length answers ≡ i
    → served (take (i + 1) es) (answers ++ a ∷ []) ≡ served (take i es) answers ++ (model_event e, option_map answer_of a) ∷ []
served_more es answers i e a lt at long =
    ap (λ xs. served xs (answers ++ a ∷ [])) (take_more es i e lt)
    ∙ ap (λ x. served (take i es ++ x ∷ []) (answers ++ a ∷ [])) (sym at)
    ∙ served_push (take i es) answers e a (length-take-le i es (omega (arith, lt)) ∙ sym long)
