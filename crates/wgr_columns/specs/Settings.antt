-- The settings in a network's row.
use Rattle.wgr_model.specs.Rows.{NetworkRow}
use Rattle.wgr_columns.specs.declared.network_row.NetworkSettings.{NetworkSettings}

abbrev pub row_settings : NetworkRow → NetworkSettings
row_settings w = record { pool = w.pool; host = w.host; port = w.port; server = w.server; capacity = w.capacity; next = w.next }
