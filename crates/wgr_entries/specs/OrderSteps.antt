-- What the statements of an order on a token or a network do to the rows.
use Rattle.std.specs.Prelude.{◌≡◌, ℕ, not, nat_eq, List, ◌∷◌}
use Rattle.std.specs.List.{filter}
use Rattle.std.specs.List.Sorted.{IsPermutation}
use Rattle.wgr_model.specs.Register.{Bytes, Token, is_same}
use Rattle.wgr_model.specs.Rows.{NetworkRow, Tables, network_row}
use Rattle.wgr_model.specs.Steps.{Settings, new_network}
use Rattle.wgr_sql.specs.Steps.{Then}

-- a token's own row is added; the row of the token of this digest is deleted
abbrev pub TokenRowComes : Token → Tables → Tables → Type 0
TokenRowComes token t u = (tokens : List Token) × IsPermutation (token ∷ t.tokens) tokens × (u ≡ record t { tokens = tokens })

abbrev pub TokenRowGoes : Bytes → Tables → Tables → Type 0
TokenRowGoes digest t u = u ≡ record t { tokens = filter (λ x. not (is_same digest x.digest)) t.tokens }

-- the row of a new network
abbrev pub new_row : ℕ → ℕ → Bytes → Settings → NetworkRow
new_row id tenant name settings = network_row (record { id = id; tenant = tenant; name = name; network = new_network settings })

-- a network's allowed prefixes are deleted; its peers are deleted; its own row is deleted
abbrev pub NetworkAllowedGoes : ℕ → Tables → Tables → Type 0
NetworkAllowedGoes id t u = u ≡ record t { allowed = filter (λ a. not (nat_eq a.network id)) t.allowed }

abbrev pub NetworkPeersGo : ℕ → Tables → Tables → Type 0
NetworkPeersGo id t u = u ≡ record t { peers = filter (λ p. not (nat_eq p.network id)) t.peers }

abbrev pub NetworkRowGoes : ℕ → Tables → Tables → Type 0
NetworkRowGoes id t u = u ≡ record t { networks = filter (λ w. not (nat_eq w.id id)) t.networks }

abbrev pub NetworkGoes : ℕ → Tables → Tables → Type 0
NetworkGoes id = Then (NetworkAllowedGoes id) (Then (NetworkPeersGo id) (NetworkRowGoes id))
