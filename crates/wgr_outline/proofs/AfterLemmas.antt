-- What an answer leaves below the floor.
use Rattle.std.proofs.Common.{◌≡◌, ℕ, ◌+◌, false, List, Option, Some, None, Result, Ok, Err, refl, sym, ap, subst}
use Rattle.wgr_text.specs.declared.key.Key.{Key}
use Rattle.wgr_text.specs.Prefix.{AddrValue}
use Rattle.wgr_peers.specs.declared.peer.Peer.{Peer}
use Rattle.wgr_core.specs.declared.change.Change.{Change}
use Rattle.wgr_core.specs.declared.command.Command.TheVariants as command
use Rattle.wgr_core.specs.declared.refusal.Refusal.{Refusal}
use Rattle.wgr_core.specs.declared.reply.Reply.{Reply}
use Rattle.wgr_core.specs.declared.reply.Reply.TheVariants as reply
use Rattle.wgr_core.specs.declared.reply.PeerView.{PeerView}
use Rattle.wgr_core.specs.Change.{Meets, applied_if}
use Rattle.wgr_core.specs.Network.{IsNetwork, NetworkValue, live_at, lowest_free}
use Rattle.wgr_core.specs.Outcome.{Outcome, at_place, joined, kept_if, outcome_of, unless, peer_view}
use Rattle.wgr_core.specs.Refusals.{join_refusal, or_full, place}
use Rattle.wgr_core.proofs.LiveLemmas.{live_is_network}
use Rattle.wgr_outline.specs.Outline.{IsFloor}
use Rattle.wgr_outline.proofs.FloorLemmas.{joined_floor, lowest_is_floor}

module _ (n : NetworkValue) (now : ℕ) (key : Key) (label : List ℕ) (until keepalive : ℕ) (change : Option Change) where
  abbrev m : NetworkValue
  m = live_at n now

  abbrev new : AddrValue → Peer
  new a = record { number = m.next; key = key; label = label; address = a; second = None; until = until; keepalive = keepalive; status = None }

  abbrev at : Option Refusal → Result AddrValue Refusal → Outcome
  at why place = kept_if false n (unless why (at_place place (λ a. joined m (new a))))

  -- a peer joins at any address
  pub added_floor : (wanted : Option AddrValue) (given : Reply) (floor : ℕ) → IsFloor m floor → Meets n (Ok (given, change)) (outcome_of n now (command.Add key label wanted until keepalive)) → IsFloor (applied_if change n) floor
  added_floor wanted given floor is meets = go (join_refusal m now key until) (place m m.pool wanted) meets
    where
      go : (why : Option Refusal) (place : Result AddrValue Refusal) → Meets n (Ok (given, change)) (at why place) → IsFloor (applied_if change n) floor
      go (Some why) place meets = elim meets [ ]
      go None (Err why) meets = elim meets [ ]
      go None (Ok a) meets = subst (λ (x : NetworkValue). IsFloor x floor) (sym meets.1) (joined_floor m (m.next + 1) (new a) floor is)

  -- and, where none is named, at the lowest that was free
  pub lowest_added : IsNetwork n → (view : PeerView) → Meets n (Ok (reply.Peer view, change)) (outcome_of n now (command.Add key label None until keepalive)) → IsFloor (applied_if change n) view.peer.address.number
  lowest_added is view meets = go (join_refusal m now key until) (lowest_free m m.pool) refl meets
    where
      go : (why : Option Refusal) (lowest : Option AddrValue) → lowest_free m m.pool ≡ lowest → Meets n (Ok (reply.Peer view, change)) (at why (or_full lowest)) → IsFloor (applied_if change n) view.peer.address.number
      go (Some why) lowest found meets = elim meets [ ]
      go None None found meets = elim meets [ ]
      go None (Some a) found meets =
          let shown : view ≡ peer_view m.routes (new a) = cc in
          let same : view.peer.address ≡ a = ap (λ (v : PeerView). v.peer.address) shown in
          subst (λ (x : NetworkValue). IsFloor x view.peer.address.number) (sym meets.1)
          (joined_floor m (m.next + 1) (new a) view.peer.address.number (subst (λ (x : AddrValue). IsFloor m x.number) (sym same) (lowest_is_floor m (live_is_network n now is) a found)))
