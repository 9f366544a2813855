-- A run that goes on after a stop.
use Rattle.std.proofs.Common.{◌≡◌, [], ◌∷◌, ◌++◌, List, Some, sym, subst, inl, inr}
use Rattle.wgr_model.specs.RowLaws.{IsRowRun}
use Rattle.wgr_model.specs.Rows.{Tables}
use Rattle.wgr_model.specs.Runs.{AreProper, Served}
use Rattle.wgr_model.proofs.RowRunLemmas.{rows_isolated}
use Rattle.wgr_model.specs.Stops.{RunsGoOn}

run_then : (t u w : Tables) (es fs : List Served) → IsRowRun t es u → IsRowRun u fs w → IsRowRun t (es ++ fs) w
run_then t u w [] fs here later = subst (λ (x : Tables). IsRowRun x fs w) (sym here) later
run_then t u w (e ∷ es) fs (next, served, run) later = (next, served, run_then next u w es fs run later)

proper_then : (es fs : List Served) → AreProper es → AreProper fs → AreProper (es ++ fs)
proper_then [] fs here later = later
proper_then (e ∷ es) fs here later = (here.0, proper_then es fs here.1 later)

pub runs_go_on : RunsGoOn
runs_go_on t u v w es fs late good proper run (inl same) later on =
    let all = run_then t u w es fs run (subst (λ (x : Tables). IsRowRun x fs w) same on) in
    let are = proper_then es fs proper later in
    ([], tt, are, all, rows_isolated t w (es ++ fs) good are all)
runs_go_on t u v w es fs late good proper run (inr (event, here, fit, answer, step)) later on =
    let mid : List Served = (event, Some answer) ∷ [] in
    let all = run_then t u w es ((event, Some answer) ∷ fs) run (v, step, on) in
    let are = proper_then es ((event, Some answer) ∷ fs) proper (fit, later) in
    (mid, here, are, all, rows_isolated t w (es ++ ((event, Some answer) ∷ fs)) good are all)
