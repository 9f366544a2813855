-- The words of an operator's order.
use Rattle.std.specs.Prelude.{List, ℕ, Option, option_map}
use Rattle.wgr_words.specs.declared.words.NetworkWords.{NetworkWords}
use Rattle.wgr_words.specs.declared.words.OrderWords.{OrderWords}
use Rattle.wgr_words.specs.declared.words.OrderWords.TheVariants as order

-- the settings that `network-add` gives a new network
pub record NetworkAsked : Type 0 where
  pub tenant : List ℕ
  pub name : List ℕ
  pub pool : List ℕ
  pub host : List ℕ
  pub port : List ℕ
  pub key : List ℕ
  pub capacity : List ℕ

-- an order on a register
pub data OrderAsked : Type 0 where
  TenantAdd : (name : List ℕ) → OrderAsked
  TokenGrant : (tenant : List ℕ) (right : Option (List ℕ)) → OrderAsked
  TokenEnd : OrderAsked
  DigestEnd : (digest : List ℕ) → OrderAsked
  NetworkAdd : (network : NetworkAsked) → OrderAsked
  NetworkEnd : (tenant name : List ℕ) → OrderAsked

-- ---- the same, in the program's types

abbrev pub network_asked : NetworkWords → NetworkAsked
network_asked w = record { tenant = w.tenant.now; name = w.name.now; pool = w.pool.now; host = w.host.now; port = w.port.now; key = w.key.now; capacity = w.capacity.now }

abbrev pub order_asked : OrderWords → OrderAsked
order_asked (order.TenantAdd name) = TenantAdd name.now
order_asked (order.TokenGrant tenant right) = TokenGrant tenant.now (option_map (λ word. word.now) right)
order_asked order.TokenEnd = TokenEnd
order_asked (order.DigestEnd digest) = DigestEnd digest.now
order_asked (order.NetworkAdd network) = NetworkAdd (network_asked network)
order_asked (order.NetworkEnd tenant name) = NetworkEnd tenant.now name.now
