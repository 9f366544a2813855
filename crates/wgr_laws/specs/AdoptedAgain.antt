-- The lines of an interface that are adopted once more.
use Rattle.std.specs.Prelude.{ℕ, ◌≡◌, true, List, [], length, Option, Ok, IfOk, All}
use Rattle.wgr_text.specs.declared.key.Key.{Key}
use Rattle.wgr_peers.specs.Peers.{is_live}
use Rattle.wgr_core.specs.declared.reply.Reply.TheVariants as reply
use Rattle.wgr_core.specs.declared.seen_peer.SeenPeer.{SeenPeer}
use Rattle.wgr_core.specs.Network.{NetworkValue, IsNetwork}
use Rattle.wgr_laws.specs.AdoptionLaws.{adopt_at}

-- where lines are adopted, adopting them again is accepted too and leaves the network as it is: it
-- adds nobody, and the key of each line is already held
abbrev pub AdoptionRepeats : Type 0
AdoptionRepeats = (n : NetworkValue) (now : ℕ) (server : Option Key) (lines : List SeenPeer) → IsNetwork n
    → IfOk (adopt_at n now server lines) (λ done. adopt_at done.1 now server lines ≡ Ok (reply.Adopted [] (length lines), done.1))

-- so it is later, until a lease ends
abbrev pub AdoptionRepeatsLater : Type 0
AdoptionRepeatsLater = (n : NetworkValue) (now later : ℕ) (server : Option Key) (lines : List SeenPeer) → IsNetwork n
    → IfOk (adopt_at n now server lines) (λ done. All (λ p. is_live later p ≡ true) done.1.peers → adopt_at done.1 later server lines ≡ Ok (reply.Adopted [] (length lines), done.1))
