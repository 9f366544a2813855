-- Peers that have one address.
use Rattle.std.proofs.Common.{◌≡◌, Bool, true, false, ◌||◌, List, [], ◌∷◌, None, sym, ap, ◌∙◌, subst, refl}
use Rattle.std.specs.List.{All, list_any}
use Rattle.std.specs.Prelude.{option_to_list}
use Rattle.std.proofs.lemmas.Cmp.{nat_list_eq_equiv}
use Rattle.std.proofs.lemmas.List.Elements.{All-head, All-tail, All-weaker}
use Rattle.wgr_text.specs.Prefix.{AddrValue}
use Rattle.wgr_peers.specs.declared.peer.Peer.{Peer}
use Rattle.wgr_pool.specs.PrefixTests.{same_address}
use Rattle.wgr_peers.specs.Peers.{is_at, is_first, is_own, is_there, same_key, IsApart}
use Rattle.wgr_peers.proofs.PeerLemmas.{apart_turn}
use Rattle.wgr_core.specs.Network.{NetworkValue, AreAlone, IsMember, IsNetwork}

pub members_alone : (n : NetworkValue) → IsNetwork n → AreAlone n.peers
members_alone n is = All-weaker (IsMember n) (λ p. p.second ≡ None) (λ p m. m.alone) n.peers is.members

or_none : (b : Bool) → (b || false) ≡ b
or_none true = refl
or_none false = refl

pub at_alone : (p : Peer) (a : AddrValue) → p.second ≡ None → is_at p a ≡ same_address p.address a
at_alone p a none = ap (λ s. same_address p.address a || is_there s a) none ∙ or_none (same_address p.address a)

pub own_alone : (peers : List Peer) (a : AddrValue) → AreAlone peers → is_own peers a ≡ list_any (λ p. is_first p a) peers
own_alone [] a alone = refl
own_alone (p ∷ peers) a alone =
    ap (λ b. b || is_own peers a) (at_alone p a (All-head (λ p. p.second ≡ None) p peers alone))
    ∙ ap (λ b. is_first p a || b) (own_alone peers a (All-tail (λ p. p.second ≡ None) p peers alone))

-- a peer is apart from those that have neither its key nor its address
pub apart_alone : (q p : Peer) → p.second ≡ None → same_key q.key p.key ≡ false → is_at q p.address ≡ false → IsApart q p
apart_alone q p none keys free =
    apart_turn p q (nat_list_eq_equiv.symm p.key.0 q.key.0 ∙ keys, ap (λ s. list_any (is_at q) (p.address ∷ option_to_list s)) none ∙ or_none (is_at q p.address) ∙ free)
