-- What the listed rows of a table tell of all of its rows.
use Rattle.std.proofs.Common.{◌≡◌, ℕ, List, map, refl}
use Rattle.std.specs.List.Sorted.{IsSorted}
use Rattle.std.specs.Ordering.{int_cmp}
use Rattle.sqlite.specs.Order.{Row}
use Rattle.sqlite_value.specs.Order.{column}
use Rattle.wgr_checks.specs.TenantRows.{ListsSorted}
use Rattle.wgr_checks.specs.declared.table.Table.{Table}
use Rattle.wgr_checks.specs.declared.table.Table.TheVariants.{Peers, Allowed}
use Rattle.wgr_checks.specs.OwnRows.{AreOwnRows}
use Rattle.wgr_checks.specs.TableRows.{IsRowOf, values_of}
use Rattle.wgr_checks.proofs.RowLemmas.{Rowid, own_there, own_back, own_sorted}

-- what is shown of a row tells whether it is as it should be
told : (t : Table) (networks : List ℕ) (r : Row) → IsRowOf t networks (values_of t r) → IsRowOf t networks r
told Peers networks r h = (record { id = h.0.id; network = h.0.network; until = h.0.until; keepalive = h.0.keepalive; status = h.0.status }, h.1)
told Allowed networks r h = (record { network = h.0.network; family = h.0.family; lo = h.0.lo; length = h.0.length; hi = h.0.hi; peer = h.0.peer; kind = h.0.kind }, h.1)

tells : (t : Table) (networks : List ℕ) (r : Row) → IsRowOf t networks r → IsRowOf t networks (values_of t r)
tells Peers networks r h = (record { id = h.0.id; network = h.0.network; until = h.0.until; keepalive = h.0.keepalive; status = h.0.status }, h.1)
tells Allowed networks r h = (record { network = h.0.network; family = h.0.family; lo = h.0.lo; length = h.0.length; hi = h.0.hi; peer = h.0.peer; kind = h.0.kind }, h.1)

shows_rowid : (t : Table) (r : Row) → column (values_of t r) 0 ≡ column r 0
shows_rowid Peers r = refl
shows_rowid Allowed r = refl

module _ (t : Table) (networks : List ℕ) (table rows : List Row) (l : ListsSorted (values_of t) 0 table rows) where
  pub table_there : AreOwnRows (IsRowOf t networks) rows → AreOwnRows (IsRowOf t networks) table
  table_there own = own_there (values_of t) (IsRowOf t networks) (told t networks) (tells t networks) (shows_rowid t) table rows l own

  pub table_back : AreOwnRows (IsRowOf t networks) table → AreOwnRows (IsRowOf t networks) rows
  table_back own = own_back (values_of t) (IsRowOf t networks) (told t networks) (tells t networks) (shows_rowid t) table rows l own

  pub table_sorted : AreOwnRows (IsRowOf t networks) rows → IsSorted int_cmp (map Rowid rows)
  table_sorted own = own_sorted (values_of t) (IsRowOf t networks) (told t networks) (tells t networks) (shows_rowid t) table rows l own
