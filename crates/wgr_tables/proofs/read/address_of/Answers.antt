use Rattle.std.proofs.Common.{rules, ◌≡◌, false, ap}
use Rattle.sqlite.specs.Order.{Row}
use Rattle.sqlite_value.specs.Order.{column}
use Rattle.wgr_text.specs.Prefix.{AddrValue, IsAddr}
use Rattle.wgr_pool.specs.PrefixTests.{full}
use Rattle.wgr_model.specs.Rows.{allowed_row}
use Rattle.wgr_columns.specs.Fields.{IsAddressAt, IsPeerIdAt}
use Rattle.wgr_columns.specs.Stored.{stored_allowed}
use Rattle.wgr_columns.proofs.FieldLemmas.{address_there}
use Rattle.wgr_tables.proofs.read.address_of.Goals as goal

pub returns-in_err-address-clause-only : goal.returns-in_err-address-clause-only
returns-in_err-address-clause-only c =
    let there : (a : AddrValue) → IsAddr a → c.args.row.now ≡ stored_allowed (allowed_row c.args.network false (full a) c.args.number) → IsAddressAt c.args.row.now 2 3 = (λ a fits is.
    let at = λ (p : _). ap (λ (x : Row). column x p) is in
    address_there c.args.row.now 2 3 a fits (at 2, at 3)) in
    search (rules, there)

pub returns-in_err-peer_number_at-clause-only : goal.returns-in_err-peer_number_at-clause-only
returns-in_err-peer_number_at-clause-only c =
    let there : (a : AddrValue) → IsAddr a → c.args.row.now ≡ stored_allowed (allowed_row c.args.network false (full a) c.args.number) → IsPeerIdAt c.args.row.now 6 c.args.network = (λ a fits is.
    (c.args.number, search rules, ap (λ (x : Row). column x 6) is)) in
    search (rules, there)
