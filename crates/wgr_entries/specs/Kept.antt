-- Rows as the register writes them.
use Rattle.std.specs.Prelude.{◌≡◌, ◌<◌, List, [], ◌∷◌, pos}
use Rattle.sqlite_value.specs.Order.{Row}
use Rattle.sqlite_rules.specs.Lists.{Has}
use Rattle.sqlite.specs.declared.types.Value.TheVariants.{Null, Int, Blob}
use Rattle.wgr_model.specs.Consistent.{IsDigest}
use Rattle.wgr_model.specs.Register.{Token}

-- each of these rows stores a value like this
abbrev pub AreOf : {T : Type 0} → (T → Type 0) → (T → Row) → List Row → Type 0
AreOf {T} keeps stored rows = (r : Row) → Has rows r → (x : T) × keeps x × (r ≡ stored x)

-- the row of a token, except its rowid
abbrev pub stored_token : Token → Row
stored_token x = Null ∷ Blob x.digest ∷ Int (pos x.tenant) ∷ []

-- with a SHA-256, and a tenant's id below 2 ^ 32
pub record IsKeptToken (x : Token) : Type 0 where
  pub digest : IsDigest x.digest
  pub tenant : x.tenant < 4294967296
