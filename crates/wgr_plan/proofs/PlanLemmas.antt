-- One line of a plan.
use Rattle.std.proofs.Common.{◌≡◌, ℕ, ◌+◌, false, List, [], ◌∷◌, ◌++◌, Option, Some, None, sym, ap, ◌∙◌, subst, append_assoc, append-nil}
use Rattle.std.specs.Prelude.{Result, Ok, Err}
use Rattle.wgr_text.specs.declared.key.Key.{Key}
use Rattle.wgr_text.specs.Prefix.{AddrValue}
use Rattle.wgr_peers.specs.declared.peer.Peer.{Peer}
use Rattle.wgr_core.specs.declared.refusal.CommandRefusal.{CommandRefusal}
use Rattle.wgr_core.specs.declared.refusal.Refusal.{Refusal}
use Rattle.wgr_core.specs.declared.reply.Reply.{Reply}
use Rattle.wgr_core.specs.declared.reply.Reply.TheVariants as reply
use Rattle.wgr_core.specs.declared.reply.PeerView.{PeerView}
use Rattle.wgr_core.specs.declared.fault.ActFault.TheVariants.{Refused}
use Rattle.wgr_core.specs.Network.{NetworkValue, live_at}
use Rattle.wgr_core.specs.Outcome.{Outcome, unless, at_place, joined, kept_if, peer_view, outcome_of}
use Rattle.wgr_core.specs.Refusals.{join_refusal, place}
use Rattle.wgr_core.specs.Change.{Meets}
use Rattle.wgr_plan.specs.declared.row_fault.RowFault.{RowFault}
use Rattle.wgr_plan.specs.Plan.{Plan, Plans, ends, no_key, refused, joined as joined_first, no_more, refused_at, printed_first, joining, RefusesLine, spells_no_key, network_refuses, JoinsLine, row_text}

pub refused_is : (n : NetworkValue) (why : CommandRefusal) (o : Outcome) → Meets n (Err (Refused why)) o → o ≡ Err why
refused_is n why (Err is) same = ap Err (sym same)
refused_is n why (Ok done) same = absurd same

-- a peer that joins is replied, and takes the next number
pub record Joins (n : NetworkValue) (done : Reply × NetworkValue) : Type 0 where
  pub view : PeerView
  pub replied : done.0 ≡ reply.Peer view
  pub next : done.1.next ≡ n.next + 1

joins_by : (n : NetworkValue) (why : Option Refusal) (at : Result AddrValue Refusal) (make : AddrValue → Peer) (done : Reply × NetworkValue)
    → kept_if false n (unless why (at_place at (λ a. joined (live_at n 0) (make a)))) ≡ Ok done → Joins n done
joins_by n (Some why) at make done is = cc
joins_by n None (Err why) make done is = cc
joins_by n None (Ok a) make done is =
    let same : (reply.Peer (peer_view (live_at n 0).routes (make a)), record (live_at n 0) { next = n.next + 1; peers = (live_at n 0).peers ++ make a ∷ [] }) ≡ done = cc in
    record { view = peer_view (live_at n 0).routes (make a); replied = sym (ap (λ (d : Reply × NetworkValue). d.0) same); next = sym (ap (λ (d : Reply × NetworkValue). d.1.next) same) }

pub joins : (n : NetworkValue) (key : Key) (done : Reply × NetworkValue) → outcome_of n 0 (joining key) ≡ Ok done → Joins n done
joins n key done is =
    joins_by n (join_refusal (live_at n 0) 0 key 0) (place (live_at n 0) n.pool None) (λ a. record { number = n.next; key = key; label = []; address = a; second = None; until = 0; keepalive = 0; status = None }) done is

-- ---- the plan so far

-- the lines before `rest` have led to the network `n` and printed these bytes
abbrev pub PlannedTo : NetworkValue → List (List ℕ) → NetworkValue → List (List ℕ) → List ℕ → Type 0
PlannedTo first lines n rest printed = (p : Plan) → Plans n n.next rest p → Plans first 1 lines (printed_first printed p)

pub planned_start : (first : NetworkValue) (lines : List (List ℕ)) → first.next ≡ 1 → PlannedTo first lines first lines []
planned_start first lines one p plan = subst (λ line. Plans first line lines p) one plan

pub planned_join : (first : NetworkValue) (lines : List (List ℕ)) (n : NetworkValue) (text : List ℕ) (rest : List (List ℕ)) (printed : List ℕ) (m : NetworkValue) (printed' : List ℕ)
    → PlannedTo first lines n (text ∷ rest) printed → JoinsLine n text printed m printed' → PlannedTo first lines m rest printed'
planned_join first lines n text rest printed m printed' so_far j p plan =
    let next : m.next ≡ n.next + 1 = (joins n j.key (reply.Peer j.view, m) j.outcome).next in
    let here = joined_first n n.next text rest j.key j.view m p j.spelled j.outcome (subst (λ line. Plans m line rest p) next plan) in
    let all = so_far (printed_first (row_text j.view.peer) p) here in
    subst (λ bytes. Plans first 1 lines (record { printed = bytes; refused = p.refused })) (sym (append_assoc printed (row_text j.view.peer) p.printed) ∙ ap (λ bytes. bytes ++ p.printed) (sym j.row)) all

pub planned_end : (first : NetworkValue) (lines : List (List ℕ)) (n : NetworkValue) (printed : List ℕ) → PlannedTo first lines n [] printed → Plans first 1 lines (record { printed = printed; refused = None })
planned_end first lines n printed so_far = subst (λ bytes. Plans first 1 lines (record { printed = bytes; refused = None })) (append-nil printed) (so_far no_more (ends n n.next))

pub planned_refused : (first : NetworkValue) (lines : List (List ℕ)) (n : NetworkValue) (text : List ℕ) (rest : List (List ℕ)) (printed : List ℕ) (why : RowFault)
    → PlannedTo first lines n (text ∷ rest) printed → RefusesLine n text why → Plans first 1 lines (record { printed = printed; refused = Some (n.next, why) })
planned_refused first lines n text rest printed why so_far refuses =
    subst (λ bytes. Plans first 1 lines (record { printed = bytes; refused = Some (n.next, why) })) (append-nil printed) (so_far (refused_at n.next why) (here n text why refuses))
  where
    here : (n : NetworkValue) (text : List ℕ) (why : RowFault) → RefusesLine n text why → Plans n n.next (text ∷ rest) (refused_at n.next why)
    here _ _ _ (spells_no_key n text none) = no_key n n.next text rest none
    here _ _ _ (network_refuses n text key why spelled outcome) = refused n n.next text rest key why spelled outcome
