-- Routes that are put one after the other.
use Rattle.std.proofs.Common.{◌≡◌, ℕ, zero, suc, ◌+◌, ◌<◌, ◌≤◌, [], ◌∷◌, ◌++◌, length, get_or, take, nat_eq, true, refl, sym, ap, ◌∙◌, arith}
use Rattle.std.proofs.lemmas.Bool.Decides.{nat_tests}
use Rattle.std.proofs.lemmas.List.{get_or_default, take_all}
use Rattle.wgr_text.specs.Prefix.{PrefixValue}
use Rattle.wgr_peers.specs.Routes.{Routes, AreOrdered, assign_route}
use Rattle.wgr_core.specs.Change.{assign_routes}
use Rattle.wgr_peers.proofs.CollectLemmas.{take_next}
use Rattle.wgr_peers.proofs.SlotLemmas.{assign_next}

pub assign_routes_push : (routes more : Routes) (r : PrefixValue × ℕ) → assign_routes routes (more ++ r ∷ []) ≡ assign_route (assign_routes routes more) r.0 r.1
assign_routes_push routes [] r = refl
assign_routes_push routes (s ∷ more) r = assign_routes_push (assign_route routes s.0 s.1) more r

-- ---- routes where there was none

-- those that are in order, put one after the other, are all that there are
first_ones : (routes : Routes) (d : PrefixValue × ℕ) → AreOrdered routes → (i : ℕ) → i ≤ length routes → assign_routes [] (take i routes) ≡ take i routes
first_ones routes d ordered zero l = refl
first_ones routes d ordered (suc i) l =
    let within : i < length routes = omega (arith, l) in
    let route = get_or routes i d in
    let is : route ≡ get_or routes i route = get_or_default routes i d route within in
    let one : i + 1 ≡ suc i = omega arith in
    let all_so_far : take (i + 1) routes ≡ take (suc i) routes = ap (λ (k : ℕ). take k routes) one in
    ap (assign_routes []) (sym all_so_far ∙ take_next routes i route within is)
    ∙ assign_routes_push [] (take i routes) route
    ∙ ap (λ (rs : Routes). assign_route rs route.0 route.1) (first_ones routes d ordered i (omega (arith, within)))
    ∙ assign_next routes i route ordered within is
    ∙ all_so_far

all_of : (routes : Routes) → AreOrdered routes → assign_routes [] routes ≡ routes
all_of [] ordered = refl
all_of (r ∷ more) ordered =
    let routes = r ∷ more in
    let all = take_all (length routes) routes (omega arith) in
    sym (ap (assign_routes []) all) ∙ first_ones routes r ordered (length routes) (omega arith) ∙ all

pub assign_none : (start routes : Routes) → nat_eq (length start) 0 ≡ true → AreOrdered routes → assign_routes start routes ≡ routes
assign_none [] routes none ordered = all_of routes ordered
assign_none (r ∷ more) routes none ordered = absurd (grind (arith, nat_tests, none))
