-- An outcome by its cases: what holds of it where the command is accepted.
use Rattle.std.proofs.Common.{◌≡◌, ℕ, Bool, true, false, Option, Some, None, refl}
use Rattle.std.specs.Prelude.{Result, Ok, Err, IfOk}
use Rattle.wgr_text.specs.Prefix.{AddrValue}
use Rattle.wgr_peers.specs.declared.peer.Peer.{Peer}
use Rattle.wgr_core.specs.declared.refusal.Refusal.{Refusal}
use Rattle.wgr_core.specs.declared.reply.Reply.{Reply}
use Rattle.wgr_core.specs.declared.reply.Reply.TheVariants as reply
use Rattle.wgr_peers.specs.Peers.{peer_of}
use Rattle.wgr_core.specs.Network.{NetworkValue}
use Rattle.wgr_core.specs.Outcome.{Outcome, unless, at_place, if_stands, if_routed, or_nobodys, kept_if}

module _ (P : Reply × NetworkValue → Type 0) where
  pub unless_if : (refusal : Option Refusal) (next : Outcome) → (refusal ≡ None → IfOk next P) → IfOk (unless refusal next) P
  unless_if (Some why) next holds = tt
  unless_if None next holds = holds refl

  pub place_if : (at : Result AddrValue Refusal) (next : AddrValue → Outcome) → ((a : AddrValue) → at ≡ Ok a → IfOk (next a) P) → IfOk (at_place at next) P
  place_if (Err why) next holds = tt
  place_if (Ok a) next holds = holds a refl

  pub stands_if : (found : Option Peer) (next : Peer → Outcome) → ((p : Peer) → found ≡ Some p → IfOk (next p) P) → IfOk (if_stands found next) P
  stands_if None next holds = tt
  stands_if (Some p) next holds = holds p refl

  pub routed_if : (n : NetworkValue) (led : Option ℕ) (next : Peer → Outcome) → ((number : ℕ) (p : Peer) → peer_of n.peers number ≡ Some p → IfOk (next p) P) → IfOk (if_routed n led next) P
  routed_if n None next holds = tt
  routed_if n (Some number) next holds = stands_if (peer_of n.peers number) next (holds number)

  pub owner_if : (n : NetworkValue) (owner : Option ℕ) → ((number : ℕ) → owner ≡ Some number → P (reply.Owner number, n)) → IfOk (or_nobodys n owner) P
  owner_if n None holds = tt
  owner_if n (Some number) holds = holds number refl

  -- a reading's reply with the network as it is, and all of a change
  pub kept_if_reading : (n : NetworkValue) (reading : Bool) (o : Outcome) → (reading ≡ true → IfOk o (λ done. P (done.0, n))) → (reading ≡ false → IfOk o P) → IfOk (kept_if reading n o) P
  kept_if_reading n reading (Err why) reads changes = tt
  kept_if_reading n true (Ok done) reads changes = reads refl
  kept_if_reading n false (Ok done) reads changes = changes refl
