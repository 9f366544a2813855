-- What the statements that make the tables define.
use Rattle.std.proofs.Common.{◌≡◌, Ok, refl}
use Rattle.sqlite.specs.Compile.{table_defined_by}
use Rattle.sqlite_tied.specs.Compute.{everything}
use Rattle.wgr_columns.specs.Layout.{meta_table_at, tenant_table_at, token_table_at, network_table_at, peer_table_at, allowed_table_at}
use Rattle.wgr_columns.specs.Texts.{meta_text, tenant_text, token_text, network_text, peer_text, allowed_text}

pub defined : (table_defined_by meta_text ≡ Ok (meta_table_at 0)) × (table_defined_by tenant_text ≡ Ok (tenant_table_at 0)) × (table_defined_by token_text ≡ Ok (token_table_at 0))
    × (table_defined_by network_text ≡ Ok (network_table_at 0)) × (table_defined_by peer_text ≡ Ok (peer_table_at 0)) × (table_defined_by allowed_text ≡ Ok (allowed_table_at 0))
unfolding everything
defined = (refl, refl, refl, refl, refl, refl)
