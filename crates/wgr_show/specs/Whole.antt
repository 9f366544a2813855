-- No number in a listing is a float.
use Rattle.std.proofs.Common.{◌≡◌, List, [], ◌∷◌, false, filter, refl}
use Rattle.serde_json.specs.Written.{has_float}
use Rattle.wgr_json.specs.Whole.{array_whole}
use Rattle.wgr_orders.specs.declared.census.Granted.{Granted}
use Rattle.wgr_show.specs.Json.{counted_data, only_reads, register_data, tenant_data, tenant_with, token_data}
use Rattle.wgr_show.specs.Shown.{ShownTenant}

with_whole : (s : ShownTenant) (readers : List Granted) → has_float (tenant_with s readers) ≡ false
with_whole s [] = rw (array_whole token_data (λ t. refl) s.tokens, array_whole counted_data (λ n. refl) s.networks) refl
with_whole s (reader ∷ readers) =
    rw (array_whole token_data (λ t. refl) s.tokens, array_whole token_data (λ t. refl) readers, array_whole counted_data (λ n. refl) s.networks) refl

pub tenant_whole : (s : ShownTenant) → has_float (tenant_data s) ≡ false
tenant_whole s = with_whole s (filter (λ t. only_reads t.right) s.tokens)

pub register_whole : (shown : List ShownTenant) → has_float (register_data shown) ≡ false
register_whole shown = rw (array_whole tenant_data tenant_whole shown) refl
