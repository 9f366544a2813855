-- What the row of a network says of the network.
use Rattle.std.proofs.Common.{◌≡◌, ap, arith, ◌∙◌}
use Rattle.wgr_model.specs.Laws.{Has}
use Rattle.wgr_model.specs.RowLaws.{AreConsistent}
use Rattle.wgr_model.specs.Rows.{NetworkRow, Tables, network_entry_of}
use Rattle.wgr_columns.specs.Stored.{AreSettings}
use Rattle.wgr_columns.specs.Settings.{row_settings}
use Rattle.wgr_columns.specs.declared.network_row.NetworkSettings.{NetworkSettings}
use Rattle.wgr_rows.specs.Settings.{AreSettingsOf}
use Rattle.wgr_model.proofs.RuleLemmas.{network_entry}

pub head_of : (t : Tables) (v w : NetworkRow) (head : NetworkSettings) → v ≡ w → head ≡ row_settings v → AreSettingsOf (network_entry_of t w).network head
head_of t v w head same is =
    let so : head ≡ row_settings w = is ∙ ap row_settings same in
    record {
      pool = ap (λ (s : NetworkSettings). s.pool) so;
      host = ap (λ (s : NetworkSettings). s.host) so;
      port = ap (λ (s : NetworkSettings). s.port) so;
      server = ap (λ (s : NetworkSettings). s.server) so;
      capacity = ap (λ (s : NetworkSettings). s.capacity) so;
      next = ap (λ (s : NetworkSettings). s.next) so;
    }

pub settings : (t : Tables) → AreConsistent t → (w : NetworkRow) → Has t.networks w → AreSettings w
settings t is w here =
    let held = network_entry t is w here in
    record {
      pool = held.rules.pool;
      host = held.host;
      port = held.rules.port;
      server = held.forms.0;
      capacity = held.rules.capacity;
      next = omega (arith, held.rules.next.1);
    }
