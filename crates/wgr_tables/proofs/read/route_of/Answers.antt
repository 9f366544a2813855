use Rattle.std.proofs.Common.{rules, ◌≡◌, ℕ, subst, ap, ◌∙◌, arith}
use Rattle.sqlite.specs.Order.{Row}
use Rattle.sqlite_value.specs.Order.{bytes, column}
use Rattle.wgr_text.specs.Prefix.{PrefixValue, IsEndsOf}
use Rattle.wgr_model.specs.Rows.{last_of, route_row}
use Rattle.wgr_columns.specs.Decode.{bytes_at, bytes_of, number_of, prefix_at}
use Rattle.wgr_columns.specs.Fields.{IsPeerIdAt, IsPrefixAt, IsSpelledAt}
use Rattle.wgr_columns.specs.Stored.{IsKeptRoute, stored_allowed}
use Rattle.wgr_columns.proofs.ByteLemmas.{number_back}
use Rattle.wgr_columns.proofs.FieldLemmas.{fits_128, prefix_shown, prefix_there, spelled_there}
use Rattle.wgr_tables.proofs.read.route_of.Goals as goal

pub returns-in_err-prefix-clause-only : goal.returns-in_err-prefix-clause-only
returns-in_err-prefix-clause-only c =
    let there : (r : PrefixValue × ℕ) → IsKeptRoute r → c.args.row.now ≡ stored_allowed (route_row c.args.network r) → IsPrefixAt c.args.row.now 2 = (λ r kept is.
    let at = λ (p : _). ap (λ (x : Row). column x p) is in
    prefix_there c.args.row.now 2 r.0 kept.prefix.0 kept.prefix.1 ((at 2, at 3), at 4)) in
    search (rules, there)

pub returns-in_err-address_number_at-clause-only : goal.returns-in_err-address_number_at-clause-only
returns-in_err-address_number_at-clause-only c =
    let there : (r : PrefixValue × ℕ) → IsKeptRoute r → c.args.row.now ≡ stored_allowed (route_row c.args.network r) → IsSpelledAt c.args.row.now 5 = (λ r kept is. spelled_there c.args.row.now 5 (last_of r.0).number (ap (λ (x : Row). column x 5) is)) in
    search (rules, there)

pub returns-in_err-peer_number_at-clause-only : goal.returns-in_err-peer_number_at-clause-only
returns-in_err-peer_number_at-clause-only c =
    let there : (r : PrefixValue × ℕ) → IsKeptRoute r → c.args.row.now ≡ stored_allowed (route_row c.args.network r) → IsPeerIdAt c.args.row.now 6 c.args.network = (λ r kept is. (r.1, kept.peer, ap (λ (x : Row). column x 6) is)) in
    search (rules, there)

pub returns-then-branch-number-clause-only : goal.returns-then-branch-number-clause-only
returns-then-branch-number-clause-only c r kept is =
    let lo = c.span.result.lo in
    let hi = c.span.result.hi in
    let at = λ (p : _). ap (λ (x : Row). column x p) is in
    let read : c.in_ok-prefix.prefix ≡ prefix_at c.args.row.now 2 = search rules in
    let shown : c.in_ok-prefix.prefix ≡ r.0 = read ∙ prefix_shown c.args.row.now 2 r.0 kept.prefix.0 ((at 2, at 3), at 4) in
    let ends : IsEndsOf r.0 lo hi = subst (λ (p : PrefixValue). IsEndsOf p lo hi) shown c.span.ensures.ends in
    let last : (last_of r.0).number ≡ hi.number = omega (arith, ends.last) in
    let value : number_of (bytes_at c.args.row.now 5) ≡ hi.number = ap (λ v. number_of (bytes v)) (at 5) ∙ ap (λ n. number_of (bytes_of n)) last ∙ number_back hi.number (fits_128 hi.family hi.number c.number.ensures.fits) in
    search (rules, value)
