-- The command that adopts a dump: it has the public key of the interface, and of each peer's line all
-- that a network keeps.
use Rattle.std.specs.Prelude.{ℕ, ◌≡◌, List, map}
use Rattle.wgr_core.specs.declared.command.Command.{Command}
use Rattle.wgr_core.specs.declared.command.Command.TheVariants.{Adopt}
use Rattle.wgr_core.specs.declared.seen_peer.SeenPeer.{SeenPeer}
use Rattle.wgr_dump.specs.Dump.{LineValue, DumpValue, IsDump}
use Rattle.wgr_dump.specs.Laws.{DifferInSecrets}

abbrev pub seen_peer : LineValue → SeenPeer
seen_peer line = record {
  key = line.key;
  allowed = line.allowed;
  status = record { handshake = line.handshake.value; received = line.received.value; sent = line.sent.value };
  keepalive = line.keepalive;
}

abbrev pub adoption_asked : DumpValue → Command
adoption_asked dump = Adopt dump.interface.public_key (map seen_peer dump.lines)

-- two dumps that differ in private and preshared keys alone are adopted by the same command
abbrev pub AdoptionsHaveNoSecrets : Type 0
AdoptionsHaveNoSecrets = (text other : List ℕ) (d e : DumpValue) → DifferInSecrets text other → IsDump text d.interface d.lines → IsDump other e.interface e.lines → adoption_asked d ≡ adoption_asked e
