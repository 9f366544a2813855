use Rattle.std.proofs.Common.{rules, ◌≡◌, true, nat_eq}
use Rattle.std.specs.List.{list_any}
use Rattle.wgr_columns.specs.Decode.{IsNumberAt, number_at}
use Rattle.wgr_columns.specs.Fields.{IsWordAt}
use Rattle.wgr_checks.proofs.AmongLemmas.{among_low}
use Rattle.wgr_checks.proofs.owners.is_among_at.Goals as goal

pub returns-in-None : goal.returns-in-None
returns-in-None c up =
    let never : IsNumberAt c.args.row.now c.args.at × (list_any (λ id. nat_eq (number_at c.args.row.now c.args.at) id) c.args.numbers.now ≡ true) → IsWordAt c.args.row.now c.args.at = (λ h.
    (h.0, among_low (number_at c.args.row.now c.args.at) c.args.numbers.now c.type_inv.numbers h.1)) in
    search (rules, never)
