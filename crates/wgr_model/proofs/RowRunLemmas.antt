-- Runs over the rows.
use Rattle.std.proofs.Common.{IsPermutation, map, true≢false, false, Some, None, ◌≡◌, List, [], ◌∷◌, sym, ap, subst, ◌∙◌, inl, inr}
use Rattle.std.specs.List.{IsDistinct}
use Rattle.std.specs.List.{flat_map}
use Rattle.std.proofs.lemmas.List.Sorted.{IsPermutation-trans, IsPermutation-map, IsPermutation-sym, IsPermutation-refl}
use Rattle.wgr_peers.specs.declared.peer.Peer.{Peer}
use Rattle.wgr_model.specs.Laws.{Has}
use Rattle.wgr_model.specs.Register.{NetworkEntry, IsSame, Register, empty_register}
use Rattle.wgr_model.specs.RowLaws.{AreConsistent, HasOneRow, IsRowRun, IsRowStep, NoRowsAreConsistent, OrderIsUnseen, RowsAreIsolated, RowsStayConsistent, no_rows}
use Rattle.wgr_model.specs.Rows.{AllowedRow, AreRowsOf, HaveSame, Tables, address_row, allowed_rows, network_row, peer_rows, register_of, route_row, third_version}
use Rattle.wgr_model.specs.Runs.{AreProper, IsRun, Served}
use Rattle.wgr_model.specs.Steps.{Answer, Event, IsProper, IsStep}
use Rattle.wgr_model.proofs.CollectLemmas.{from_append, from_flat, from_map, has_flat}
use Rattle.wgr_model.proofs.GatherLemmas.{gathered}
use Rattle.wgr_model.proofs.HolderLemmas.{one_holder}
use Rattle.wgr_model.proofs.RunLemmas.{empty_consistent, run_law, same_itself, same_trans, step_law}
use Rattle.wgr_model.proofs.SameLemmas.{has_permutation, same_consistent, same_view}

-- the rows of the entries of a register are those of the same entries in another order
flat_same : {A : Type 0} (rows_in : NetworkEntry → List A) (hs ks : List NetworkEntry) (rows : List A) → IsPermutation hs ks → HaveSame (flat_map rows_in hs) rows → HaveSame (flat_map rows_in ks) rows
flat_same rows_in hs ks rows same was a = (
  (λ h. let f = from_flat rows_in ks a h in (was a).0 (has_flat rows_in hs f.0 a (has_permutation ks hs f.0 (IsPermutation-sym hs ks same) f.1) f.2)),
  (λ h. let f = from_flat rows_in hs a ((was a).1 h) in has_flat rows_in ks f.0 a (has_permutation hs ks f.0 same f.1) f.2),
)

pub same_rows : (r s : Register) (t : Tables) → IsSame r s → AreRowsOf r t → AreRowsOf s t
same_rows r s t same rows = record {
  meta = rows.meta;
  tenants = IsPermutation-trans s.tenants r.tenants t.tenants (IsPermutation-sym r.tenants s.tenants same.tenants) rows.tenants;
  tokens = IsPermutation-trans s.tokens r.tokens t.tokens (IsPermutation-sym r.tokens s.tokens same.tokens) rows.tokens;
  networks = IsPermutation-trans (map network_row s.networks) (map network_row r.networks) t.networks (IsPermutation-sym (map network_row r.networks) (map network_row s.networks) (IsPermutation-map network_row r.networks s.networks same.networks)) rows.networks;
  seconds = rows.seconds;
  readers = IsPermutation-trans s.readers r.readers t.readers (IsPermutation-sym r.readers s.readers same.readers) rows.readers;
  peers = flat_same peer_rows r.networks s.networks t.peers same.networks rows.peers;
  allowed = flat_same allowed_rows r.networks s.networks t.allowed same.networks rows.allowed;
  keyed = rows.keyed;
}

pub rows_consistent : RowsStayConsistent
rows_consistent r t rows is =
    let same = gathered r t rows is in
    record { consistent = same_consistent r (register_of t) same is; rows = same_rows r (register_of t) t same rows }

pub row_step : (t u : Tables) (e : Event) (answer : Answer) → AreConsistent t → IsProper e → IsRowStep t e answer u → AreConsistent u × IsStep (register_of t) e answer (register_of u)
row_step t u e answer is proper s =
    let law = step_law (register_of t) s.after e answer is.consistent proper s.step in (
      rows_consistent s.after u s.rows law.consistent,
      record { new = s.step.new; unused = s.step.unused; answered = s.step.answered; rows = same_trans _ s.after (register_of u) s.step.rows (gathered s.after u s.rows law.consistent) },
    )

pub row_run : (es : List Served) (t u : Tables) → AreConsistent t → AreProper es → IsRowRun t es u → AreConsistent u × IsRun (register_of t) es (register_of u)
row_run [] t u is proper run = (subst AreConsistent run is, subst (λ x. IsSame (register_of t) (register_of x)) run (same_itself (register_of t)))
row_run ((event, None) ∷ es) t u is proper (next, quiet, run) =
    let rest = row_run es next u (subst AreConsistent quiet is) proper.1 run in
    (rest.0, (register_of next, subst (λ x. IsSame (register_of t) (register_of x)) quiet (same_itself (register_of t)), rest.1))
row_run ((event, Some answer) ∷ es) t u is proper (next, step, run) =
    let law = row_step t next event answer is proper.0 step in
    let rest = row_run es next u law.0 proper.1 run in
    (rest.0, (register_of next, law.1, rest.1))

-- ---- address rows

-- an address row is that of a peer
from_address : (r : Register) (t : Tables) (a : AllowedRow) → AreRowsOf r t → Has t.allowed a → a.is_route ≡ false → (h : NetworkEntry) × (p : Peer) × Has r.networks h × Has h.network.peers p × (address_row h.id p ≡ a)
from_address r t a rows there is =
    let f = from_flat allowed_rows r.networks a ((rows.allowed a).1 there) in
    elim (from_append (map (address_row f.0.id) f.0.network.peers) (map (route_row f.0.id) f.0.network.routes) a f.2) [
      | inl x ↦ let p = from_map (address_row f.0.id) f.0.network.peers a x in (f.0, p.0, f.1, p.1, p.2)
      | inr x ↦ let p = from_map (route_row f.0.id) f.0.network.routes a x in absurd (true≢false (ap (λ z. z.is_route) p.2 ∙ is))
    ]

pub one_row : (t : Tables) → AreConsistent t → HasOneRow t
one_row t is a b at bt ar br same =
    let x = from_address (register_of t) t a is.rows at ar in
    let y = from_address (register_of t) t b is.rows bt br in
    let one = one_holder (register_of t) is.consistent x.0 y.0 x.1 y.1 x.2 y.2 x.3 y.3 (ap (λ z. z.prefix.address) x.4 ∙ same ∙ ap (λ z. z.prefix.address) (sym y.4)) in
    sym x.4 ∙ (λ i. address_row (one.0 i).id (one.1 i)) ∙ y.4

pub rows_isolated : RowsAreIsolated
rows_isolated t u es is proper run =
    let both = row_run es t u is proper run in
    let law = run_law es (register_of t) (register_of u) is.consistent proper both.1 in
    record { answers = λ me. (law.1 me).answers; views = λ me. (law.1 me).view; consistent = both.0; holders = one_row u both.0 }

-- ---- the order of rows

pub order_unseen : OrderIsUnseen
order_unseen r t u me one two is =
    sym (same_view r (register_of t) (gathered r t one is) is me) ∙ same_view r (register_of u) (gathered r u two is) is me

pub no_rows_consistent : NoRowsAreConsistent
unfolding IsDistinct
no_rows_consistent = rows_consistent empty_register no_rows (record {
  meta = λ i. third_version;
  tenants = IsPermutation-refl [];
  tokens = IsPermutation-refl [];
  networks = IsPermutation-refl [];
  seconds = λ i. [];
  readers = IsPermutation-refl [];
  peers = λ a. ((λ h. h), (λ h. h));
  allowed = λ a. ((λ h. h), (λ h. h));
  keyed = record { peer_keys = tt; allowed_keys = tt; address_keys = tt };
}) empty_consistent
