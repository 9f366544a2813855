-- Rows of tokens that only read.
use Rattle.std.specs.Prelude.{◌≡◌, List, [], ◌∷◌, map, true}
use Rattle.std.specs.List.{AllByRecursion, IsDistinct, list_any}
use Rattle.sqlite_value.specs.Order.{Row, column}
use Rattle.sqlite.specs.declared.types.Value.TheVariants.{Null}
use Rattle.wgr_model.specs.Register.{Bytes, is_same}
use Rattle.wgr_columns.specs.declared.columns.TheConstants.{ROWID}
use Rattle.wgr_columns.specs.declared.columns.reader.TheConstants as reader
use Rattle.wgr_columns.specs.declared.columns.token.TheConstants as token
use Rattle.wgr_columns.specs.Decode.{bytes_at}
use Rattle.wgr_columns.specs.Fields.{IsDigestAt}
use Rattle.wgr_checks.specs.TokenRows.{HaveOwnRowids}

-- each of the digests is one of these
abbrev pub AreOfThese : List Bytes → List Bytes → Type 0
AreOfThese all digests = AllByRecursion (λ digest. list_any (is_same digest) all ≡ true) digests

-- the rows have digests, no two of which are equal, and each of which is that of a token
pub record HaveTokenDigests (tokens rows : List Row) : Type 0 where
  pub each : AllByRecursion (λ r. IsDigestAt r reader.DIGEST) rows
  pub digests : IsDistinct is_same (map (λ r. bytes_at r reader.DIGEST) rows)
  pub among : AreOfThese (map (λ r. bytes_at r token.DIGEST) tokens) (map (λ r. bytes_at r reader.DIGEST) rows)

-- the rows are those of tokens that only read, where these are the rows of all tokens
pub record AreGoodReaders (tokens rows : List Row) : Type 0 where
  pub own_rowids : HaveOwnRowids rows
  pub of_tokens : HaveTokenDigests tokens rows

-- ---- what queries return

abbrev pub reader_rowid_values : Row → Row
reader_rowid_values row = column row ROWID ∷ Null ∷ []

abbrev pub reader_digest_values : Row → Row
reader_digest_values row = Null ∷ column row reader.DIGEST ∷ []
