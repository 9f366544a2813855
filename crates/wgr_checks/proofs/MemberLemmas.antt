-- Rows with rowids of their own, and rows that are written as the register writes them.
use Rattle.std.proofs.Common.{◌≡◌, ℕ, List, map, true, nat_eq}
use Rattle.std.specs.List.{AllByRecursion, list_any}
use Rattle.sqlite.specs.Order.{Row}
use Rattle.sqlite_trees.proofs.ListLemmas.{all-map, all_from_map}
use Rattle.sqlite_rules.proofs.ListLemmas.{all_has, all_from}
use Rattle.wgr_columns.specs.Decode.{IsNumberAt, number_at}
use Rattle.wgr_checks.specs.Sorted.{AreAmong}
use Rattle.wgr_checks.specs.OwnRows.{AreOwnRows}
use Rattle.wgr_checks.specs.PeerRows.{AreWrittenPeers, IsPeerRow, IsPeerRowOf}
use Rattle.wgr_checks.specs.AllowedRows.{AreWrittenAllowed, IsAllowedRow, IsAllowedRowOf}
use Rattle.wgr_checks.proofs.RowLemmas.{ids_apart, own_ids}

module _ (networks : List ℕ) where
  abbrev IsOne : ℕ → Type 0
  IsOne n = list_any (λ id. nat_eq n id) networks ≡ true

  -- rows of some form (P), whose networks stand at a place
  module _ (P : Row → Type 0) (at : ℕ) (rows : List Row) where
    forms : AllByRecursion (λ r. P r × IsOne (number_at r at)) rows → AllByRecursion P rows
    forms all = all_from P rows (λ r here. (all_has (λ x. P x × IsOne (number_at x at)) rows r all here).0)

    among : AllByRecursion (λ r. P r × IsOne (number_at r at)) rows → AreAmong (map (λ r. number_at r at) rows) networks
    among all = all-map IsOne (λ r. number_at r at) rows (all_from (λ r. IsOne (number_at r at)) rows (λ r here. (all_has (λ x. P x × IsOne (number_at x at)) rows r all here).1))

    both : AllByRecursion P rows → AreAmong (map (λ r. number_at r at) rows) networks → AllByRecursion (λ r. P r × IsOne (number_at r at)) rows
    both all one = all_from (λ r. P r × IsOne (number_at r at)) rows (λ r here. (all_has P rows r all here, all_has (λ x. IsOne (number_at x at)) rows r (all_from_map IsOne (λ r. number_at r at) rows one) here))

  natural : (rows : List Row) → AllByRecursion IsPeerRow rows → AllByRecursion (λ r. IsNumberAt r 0) rows
  natural rows all = all_from (λ r. IsNumberAt r 0) rows (λ r here. (all_has IsPeerRow rows r all here).id)

  pub written_peers : (rows : List Row) → AreOwnRows (IsPeerRowOf networks) rows → AreWrittenPeers networks rows
  written_peers rows own =
      let each = forms IsPeerRow 2 rows own.each in
      record { each = each; ids = ids_apart rows (natural rows each) own.own_rowids; among = among IsPeerRow 2 rows own.each }

  pub own_peers : (rows : List Row) → AreWrittenPeers networks rows → AreOwnRows (IsPeerRowOf networks) rows
  own_peers rows good = record { each = both IsPeerRow 2 rows good.each good.among; own_rowids = own_ids rows (natural rows good.each) good.ids }

  pub written_allowed : (rows : List Row) → AreOwnRows (IsAllowedRowOf networks) rows → AreWrittenAllowed networks rows
  written_allowed rows own = record { own_rowids = own.own_rowids; each = forms IsAllowedRow 1 rows own.each; among = among IsAllowedRow 1 rows own.each }

  pub own_allowed : (rows : List Row) → AreWrittenAllowed networks rows → AreOwnRows (IsAllowedRowOf networks) rows
  own_allowed rows good = record { each = both IsAllowedRow 1 rows good.each good.among; own_rowids = good.own_rowids }
