-- What an adoption leaves of numbers, keys, leases and settings.
use Rattle.std.proofs.Common.{◌≡◌, ℕ, ◌≤◌, true, false, List, [], Option, Some, None, is_some, refl, ap, arith}
use Rattle.std.specs.Prelude.{IfOk}
use Rattle.std.specs.List.{All}
use Rattle.std.proofs.lemmas.List.Elements.{All-push}
use Rattle.std.proofs.lemmas.Result.{IfOk-weaker}
use Rattle.wgr_text.specs.declared.key.Key.{Key}
use Rattle.wgr_text.specs.Prefix.{PrefixValue}
use Rattle.wgr_peers.specs.declared.peer.Peer.{Peer}
use Rattle.wgr_core.specs.declared.reply.Reply.{Reply}
use Rattle.wgr_core.specs.declared.reply.Reply.TheVariants as reply
use Rattle.wgr_core.specs.declared.seen_peer.SeenPeer.{SeenPeer}
use Rattle.wgr_peers.specs.Peers.{is_live, peer_of}
use Rattle.wgr_core.specs.Network.{NetworkValue, IsNetwork, IsMember}
use Rattle.wgr_core.specs.Adoption.{Adoption, adoption_of, peer_of_line}
use Rattle.wgr_core.specs.Outcome.{adopt}
use Rattle.wgr_laws.specs.Laws.{HasSettingsOf}
use Rattle.wgr_peers.proofs.PeerLemmas.{peer_is}
use Rattle.wgr_laws.proofs.NextSteps.{AllLive, IsLater, IsNext, joined_next, later_on, later_self, replaced_next}
use Rattle.wgr_core.proofs.AdoptSteps.{AreSteps, adopt_if, adoption_keeps, peopled}

-- nothing is asked of a line, nor of its prefixes
abbrev pub AnyLine : SeenPeer → Type 0
AnyLine line = Unit {0}

abbrev pub AnyPrefix : PrefixValue → Type 0
AnyPrefix p = Unit {0}

-- ---- numbers, keys and leases

record IsSoFar (n : NetworkValue) (now : ℕ) (s : Adoption) : Type 0 where
  later : IsLater n s.network
  live : AllLive now s.network.peers
  added : All (λ number. is_some (peer_of n.peers number) ≡ false) s.added

-- nobody has the next number, nor a later one
pub next_is_new : (n : NetworkValue) (i : ℕ) → IsNetwork n → n.next ≤ i → is_some (peer_of n.peers i) ≡ false
next_is_new n i is from = by_peer (peer_of n.peers i) refl
  where
    by_peer : (o : Option Peer) → peer_of n.peers i ≡ o → is_some (peer_of n.peers i) ≡ false
    by_peer None none = ap is_some none
    by_peer (Some p) found = let member = peer_is (IsMember n) n.peers i p is.members found in absurd (omega (arith, member.0.numbered.1, member.1, from))

later_of : (n : NetworkValue) (now : ℕ) (done : Reply × NetworkValue) → IsNext n now done → IsLater n done.1
later_of n now done next = record { next = next.next; absent = next.absent; keys = next.keys }

next_steps : (n : NetworkValue) (now : ℕ) → IsNetwork n → AreSteps AnyLine AnyPrefix (IsSoFar n now)
next_steps n now is = record {
  prefixes = λ line any k d h. tt;
  joins = λ s line a people so any may.
      let next = joined_next s.network now (peer_of_line s.network line a) so.live refl refl in
      record {
        later = later_on n s.network _ is so.later (later_of s.network now _ next);
        live = next.live;
        added = All-push (λ number. is_some (peer_of n.peers number) ≡ false) s.added s.network.next so.added (next_is_new n s.network.next is so.later.next);
      };
  notes = λ s line p people so any keyed.
      let next = replaced_next s.network now p (record p { status = Some line.status }) so.live keyed.stands refl (peer_is (λ p. is_live now p ≡ true) s.network.peers p.number p so.live keyed.stands).0 in
      record { later = later_on n s.network _ is so.later (later_of s.network now _ next); live = next.live; added = so.added };
  leads = λ s p number so any may. record {
    later = record { next = so.later.next; absent = so.later.absent; keys = so.later.keys };
    live = so.live;
    added = so.added;
  };
}

pub adopt_next : (n : NetworkValue) (now : ℕ) (server : Option Key) (lines : List SeenPeer) → IsNetwork n → AllLive now n.peers → IfOk (adopt n server lines) (IsNext n now)
adopt_next n now server lines is live =
    let start : IsSoFar n now (record { network = n; added = []; known = 0 }) = record { later = later_self n; live = live; added = λ k d h. absurd (omega (arith, h)) } in
    adopt_if (IsNext n now) n server lines (IfOk-weaker (adoption_of n lines) (IsSoFar n now) (λ s. IsNext n now (reply.Adopted s.added s.known, s.network))
    (λ s so. record { next = so.later.next; absent = so.later.absent; keys = so.later.keys; live = so.live; shows = so.added })
    (adoption_keeps AnyLine AnyPrefix (IsSoFar n now) (next_steps n now is) n lines (peopled n is) start (λ k d h. tt)))

-- ---- settings

setting_steps : (n : NetworkValue) → AreSteps AnyLine AnyPrefix (λ s. HasSettingsOf n s.network)
setting_steps n = record {
  prefixes = λ line any k d h. tt;
  joins = λ s line a people has any may. record { pool = has.pool; host = has.host; port = has.port; server = has.server; capacity = has.capacity };
  notes = λ s line p people has any keyed. record { pool = has.pool; host = has.host; port = has.port; server = has.server; capacity = has.capacity };
  leads = λ s p number has any may. record { pool = has.pool; host = has.host; port = has.port; server = has.server; capacity = has.capacity };
}

pub adopt_settings : (n : NetworkValue) (server : Option Key) (lines : List SeenPeer) → IsNetwork n → IfOk (adopt n server lines) (λ done. HasSettingsOf n done.1)
adopt_settings n server lines is =
    adopt_if (λ done. HasSettingsOf n done.1) n server lines
    (adoption_keeps AnyLine AnyPrefix (λ s. HasSettingsOf n s.network) (setting_steps n) n lines (peopled n is) (record { pool = refl; host = refl; port = refl; server = refl; capacity = refl }) (λ k d h. tt))
