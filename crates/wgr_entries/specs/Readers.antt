-- Tokens that only read: the rows of `reader`.
use Rattle.std.specs.Prelude.{◌≡◌, ◌∷◌, [], not, map, List, codes}
use Rattle.std.specs.List.{filter}
use Rattle.std.specs.List.Sorted.{IsPermutation, IsSorted}
use Rattle.std.specs.Ordering.{nat_cmp}
use Rattle.std.specs.Cmp.Lexicographic.{slice_cmp}
use Rattle.sqlite_value.specs.Order.{Row}
use Rattle.sqlite.specs.declared.types.Value.TheVariants.{Null, Blob}
use Rattle.wgr_model.specs.Register.{Bytes, is_same}
use Rattle.wgr_model.specs.Rows.{Tables}
use Rattle.wgr_columns.specs.Decode.{reader_in}
use Rattle.wgr_tables.specs.Stops.{IsStatementRefused}

-- one token more that only reads; none of this digest
abbrev pub ReaderComes : Bytes → Tables → Tables → Type 0
ReaderComes digest t u = (readers : List Bytes) × IsPermutation (digest ∷ t.readers) readers × (u ≡ record t { readers = readers })

abbrev pub ReaderGoes : Bytes → Tables → Tables → Type 0
ReaderGoes digest t u = u ≡ record t { readers = filter (λ d. not (is_same digest d)) t.readers }

-- the rows are those of the tokens of this digest; of all, in the order of digests
abbrev pub ShowReader : Bytes → Tables → List Row → Type 0
ShowReader digest t rows = IsPermutation (filter (is_same digest) t.readers) (map reader_in rows)

pub record AreReadersOf (t : Tables) (digests : List Bytes) : Type 0 where
  pub same : IsPermutation t.readers digests
  pub sorted : IsSorted (slice_cmp nat_cmp) digests

-- the row of such a token, except its rowid
abbrev pub stored_reader : Bytes → Row
stored_reader digest = Null ∷ Blob digest ∷ []

-- when a statement fails: the database refuses it
abbrev pub ReaderStaysOut : Bytes → Tables → Type 0
ReaderStaysOut digest = IsStatementRefused (codes "INSERT INTO reader (digest) VALUES (?1)") (Blob digest ∷ [])

abbrev pub ReaderStays : Bytes → Tables → Type 0
ReaderStays digest = IsStatementRefused (codes "DELETE FROM reader WHERE digest = ?1") (Blob digest ∷ [])
