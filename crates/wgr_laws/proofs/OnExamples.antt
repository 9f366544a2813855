-- Which peers and which routes a command changes.
use Rattle.std.proofs.Common.{◌≡◌, ℕ, Bool, true, false, List, [], ◌∷◌, Option, refl}
use Rattle.std.specs.Prelude.{nat_eq}
use Rattle.wgr_text.specs.declared.key.Key.{Key}
use Rattle.wgr_text.specs.Prefix.{AddrValue, PrefixValue}
use Rattle.wgr_pool.specs.PrefixTests.{same_prefix}
use Rattle.wgr_core.specs.declared.command.Command.TheVariants as command
use Rattle.wgr_core.specs.declared.seen_peer.SeenPeer.{SeenPeer}
use Rattle.wgr_laws.specs.Laws.{is_on, is_on_route}

-- a command on one peer isn't on another
another_peer : (number other until : ℕ) (wanted : Option AddrValue) → nat_eq number other ≡ false
    → (is_on (command.Move number wanted) other ≡ false) × (is_on (command.Revoke number) other ≡ false) × (is_on (command.Renew number until) other ≡ false)
another_peer number other until wanted apart = (apart, apart, apart)

-- a route changes no peer
no_peer : (number other : ℕ) (prefix : PrefixValue) → (is_on (command.Route number prefix) other ≡ false) × (is_on (command.Unroute prefix) other ≡ false)
no_peer number other prefix = (refl, refl)

-- a command on one prefix isn't on another
another_route : (number : ℕ) (prefix other : PrefixValue) → same_prefix prefix other ≡ false → (is_on_route (command.Route number prefix) other ≡ false) × (is_on_route (command.Unroute prefix) other ≡ false)
another_route number prefix other apart = (apart, apart)

-- nor is an adoption on a prefix that none of its lines has
no_lines : (server : Option Key) (other : PrefixValue) → is_on_route (command.Adopt server []) other ≡ false
no_lines server other = refl

unnamed_route : (server : Option Key) (line : SeenPeer) (prefix other : PrefixValue) → line.allowed ≡ prefix ∷ [] → same_prefix prefix other ≡ false → is_on_route (command.Adopt server (line ∷ [])) other ≡ false
unnamed_route server line prefix other is apart = rw (is, apart) refl
