-- The settings of a network.
use Rattle.std.specs.Prelude.{◌≡◌}
use Rattle.wgr_core.specs.Network.{NetworkValue}
use Rattle.wgr_columns.specs.declared.network_row.NetworkSettings.{NetworkSettings}

-- these are the network's settings, and its next number
pub record AreSettingsOf (n : NetworkValue) (settings : NetworkSettings) : Type 0 where
  pub pool : settings.pool ≡ n.pool
  pub host : settings.host ≡ n.host
  pub port : settings.port ≡ n.port
  pub server : settings.server ≡ n.server
  pub capacity : settings.capacity ≡ n.capacity
  pub next : settings.next ≡ n.next
