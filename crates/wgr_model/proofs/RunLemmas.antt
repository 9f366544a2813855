-- Whole runs.
use Rattle.std.proofs.Common.{◌++◌, Option, ◌≡◌, true, List, [], ◌∷◌, Some, None, sym, ap, subst, ◌∙◌, arith}
use Rattle.std.specs.List.{IsDistinct}
use Rattle.std.proofs.lemmas.List.Sorted.{IsPermutation-refl, IsPermutation-trans}
use Rattle.wgr_model.specs.Consistent.{IsConsistent}
use Rattle.wgr_model.specs.Laws.{RunsAreIsolated, StepLaw}
use Rattle.wgr_model.specs.Register.{Bytes, IsSame, Register, View, empty_register, tenant_view}
use Rattle.wgr_model.specs.Runs.{AreProper, IsRun, Served, acknowledged}
use Rattle.wgr_model.specs.Steps.{Answer, Event, IsProper, IsStep, IsUnused, is_done, outcome}
use Rattle.wgr_model.specs.Tenants.{Agree, FitsAnswer, tenant_after, tenant_answer, tenant_run}
use Rattle.wgr_model.proofs.AnswerLemmas.{step_fits}
use Rattle.wgr_model.proofs.HolderLemmas.{one_holder}
use Rattle.wgr_model.proofs.KeptLemmas.{step_stays}
use Rattle.wgr_model.proofs.SameLemmas.{same_consistent, same_view}
use Rattle.wgr_model.proofs.SeenLemmas.{step_sees}

pub same_itself : (r : Register) → IsSame r r
same_itself r = record { tenants = IsPermutation-refl r.tenants; tokens = IsPermutation-refl r.tokens; readers = IsPermutation-refl r.readers; networks = IsPermutation-refl r.networks }

pub same_trans : (r s t : Register) → IsSame r s → IsSame s t → IsSame r t
same_trans r s t a b = record {
  tenants = IsPermutation-trans r.tenants s.tenants t.tenants a.tenants b.tenants;
  tokens = IsPermutation-trans r.tokens s.tokens t.tokens a.tokens b.tokens;
  readers = IsPermutation-trans r.readers s.readers t.readers a.readers b.readers;
  networks = IsPermutation-trans r.networks s.networks t.networks a.networks b.networks;
}

-- a register without entries is consistent
pub empty_consistent : IsConsistent empty_register
unfolding IsDistinct
empty_consistent = record {
  names = tt;
  ids = tt;
  digests = tt;
  readers = tt;
  slots = tt;
  network_ids = tt;
  endpoints = tt;
  pools = tt;
  token_tenants = tt;
  reader_tokens = tt;
  network_tenants = tt;
  tenants = tt;
  tokens = tt;
  networks = tt;
  few_tenants = omega arith;
  few_tokens = omega arith;
  few_networks = omega arith;
}

-- one step, whatever the order of entries
pub step_law : (r s : Register) (e : Event) (answer : Answer) → IsConsistent r → IsProper e → IsStep r e answer s → StepLaw r e answer s
step_law r s e answer good proper step =
    let o = outcome r e step.new in
    let unused : is_done o.0 ≡ true → IsUnused r e step.new = λ done. step.unused (ap is_done step.answered ∙ done) in
    let after : IsConsistent o.1 = step_stays r good e step.new unused proper in
    record {
      consistent = same_consistent o.1 s step.rows after;
      answered = λ me. subst (λ a. FitsAnswer (tenant_answer (tenant_view r me) e) a) (sym step.answered) (step_fits me r good step.new e);
      view = λ me. ap (λ a. tenant_after me (tenant_view r me) e (is_done a)) step.answered ∙ sym (step_sees me r good e step.new unused) ∙ same_view o.1 s step.rows after me;
    }

-- what each tenant alone has along a list
pub record Alone (me : Bytes) (v : View) (es : List (Event × Answer)) (last : View) : Type 0 where
  pub answers : Agree (tenant_run me v es).0 es
  pub view : (tenant_run me v es).1 ≡ last

pub run_law : (es : List Served) (r s : Register) → IsConsistent r → AreProper es → IsRun r es s → IsConsistent s × ((me : Bytes) → Alone me (tenant_view r me) (acknowledged es) (tenant_view s me))
run_law [] r s good proper run = (same_consistent r s run good, λ me. record { answers = tt; view = same_view r s run good me })
run_law ((event, None) ∷ es) r s good proper (next, quiet, run) =
    let rest = run_law es next s (same_consistent r next quiet good) proper.1 run in
    (rest.0, λ me. subst (λ v. Alone me v (acknowledged es) (tenant_view s me)) (sym (same_view r next quiet good me)) (rest.1 me))
run_law ((event, Some answer) ∷ es) r s good proper (next, step, run) =
    let law = step_law r next event answer good proper.0 step in
    let rest = run_law es next s law.consistent proper.1 run in (
      rest.0,
      λ me.
          let more : Alone me (tenant_after me (tenant_view r me) event (is_done answer)) (acknowledged es) (tenant_view s me) = subst (λ v. Alone me v (acknowledged es) (tenant_view s me)) (sym (law.view me)) (rest.1 me) in
          record { answers = (law.answered me, more.answers); view = more.view },
    )

pub runs_isolated : RunsAreIsolated
runs_isolated r s es good proper run =
    let law = run_law es r s good proper run in
    record { answers = λ me. (law.1 me).answers; views = λ me. (law.1 me).view; consistent = law.0; holders = one_holder s law.0 }

-- one more event
pub proper_more : (es : List Served) (e : Event) (a : Option Answer) → AreProper es → IsProper e → AreProper (es ++ (e, a) ∷ [])
proper_more [] e a so_far proper = (proper, tt)
proper_more (x ∷ es) e a so_far proper = (so_far.0, proper_more es e a so_far.1 proper)
