use Rattle.std.proofs.Common.{◌≡◌, rules}
use Rattle.std.proofs.lemmas.Fn.{always_returns_same}
use Rattle.wgr_model.specs.Rows.{AllowedRow}
use Rattle.wgr_columns.specs.Decode.{allowed_in, number_at}
use Rattle.wgr_tables.proofs.SortedRows.{sorted_rise}
use Rattle.wgr_tables.proofs.load.sort_by_peer.Goals as goal

pub returns-clause-sorted : goal.returns-clause-sorted
returns-clause-sorted c = sorted_rise (λ (a : AllowedRow). a.peer) allowed_in _ (c.sort_unstable_by_key.ensures.sorted (λ r. number_at r 6) (always_returns_same _ (λ a r. r ≡ number_at a.0.now 6) _ (λ a r q k. search rules)))
