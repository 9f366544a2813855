-- The place of a network in a list.
use Rattle.std.proofs.Common.{◌≡◌, ℕ, suc, ◌<◌, true, ◌&&◌, List, [], ◌∷◌, ◌++◌, length, slice_index_or, slice_set, take, drop, drop-cons, Some, None, Option, is_some, nat_eq, sym, ap, ◌∙◌, arith}
use Rattle.std.specs.Prelude.{MatchOption}
use Rattle.std.proofs.lemmas.List.{get_or_default, set_split}
use Rattle.std.proofs.lemmas.Bool.Decides.{nat_tests}
use Rattle.wgr_core.specs.Network.{NetworkValue}
use Rattle.wgr_orders.specs.Places.{IsNetworkPlace}
use Rattle.wgr_model.specs.Register.{Bytes, NetworkEntry, is_same}
use Rattle.wgr_model.specs.Steps.{network_at, with_network}

abbrev with_value : NetworkEntry → NetworkValue → NetworkEntry
with_value h n = record h { network = n }

at_head : (h : NetworkEntry) (hs : List NetworkEntry) (id : ℕ) (name : Bytes) → (nat_eq h.tenant id && is_same name h.name) ≡ true → network_at (h ∷ hs) id name ≡ Some h.network
at_head h hs id name test = grind (arith, nat_tests, test)

put_head : (h : NetworkEntry) (hs : List NetworkEntry) (id : ℕ) (name : Bytes) (n : NetworkValue) → (nat_eq h.tenant id && is_same name h.name) ≡ true → with_network (h ∷ hs) id name n ≡ with_value h n ∷ hs
put_head h hs id name n test = grind (arith, nat_tests, test)

-- the first network that is the tenant's of the name stands at its place
pub place_is : (hs : List NetworkEntry) (i id : ℕ) (name : Bytes) (h : NetworkEntry) → i < length hs → h ≡ slice_index_or hs i h → (nat_eq h.tenant id && is_same name h.name) ≡ true
    → network_at hs id name ≡ network_at (drop i hs) id name → ((n : NetworkValue) → with_network hs id name n ≡ take i hs ++ with_network (drop i hs) id name n) → IsNetworkPlace hs id name i
place_is hs i id name h lt at test found put =
    let cut : drop i hs ≡ h ∷ drop (suc i) hs = drop-cons hs i h lt ∙ ap (λ x. x ∷ drop (suc i) hs) (sym at) in
    let here : (d : NetworkEntry) → h ≡ slice_index_or hs i d = λ d. at ∙ get_or_default hs i h d lt in
    record {
      within = lt;
      found = λ d. found ∙ ap (λ xs. network_at xs id name) cut ∙ at_head h (drop (suc i) hs) id name test ∙ ap {A = NetworkEntry} (λ x. Some x.network) (here d);
      put = λ d n.
          put n
          ∙ ap (λ xs. take i hs ++ with_network xs id name n) cut
          ∙ ap (λ xs. take i hs ++ xs) (put_head h (drop (suc i) hs) id name n test)
          ∙ sym (set_split hs i (with_value h n) lt)
          ∙ ap {A = NetworkEntry} (λ x. slice_set hs i (with_value x n)) (here d);
    }

-- whether there is a place tells whether there is the network
pub place_tells : (hs : List NetworkEntry) (id : ℕ) (name : Bytes) (place : Option ℕ) → MatchOption place (network_at hs id name ≡ None) (λ i. IsNetworkPlace hs id name i) → is_some place ≡ is_some (network_at hs id name)
place_tells hs id name None e = sym (ap is_some e)
place_tells [] id name (Some i) e = let none : i < 0 = e.within in absurd (omega (arith, none))
place_tells (h ∷ hs) id name (Some i) e = sym (ap is_some (e.found h))
