use Rattle.std.proofs.Common.{rules, ◌≡◌, sym, subst}
use Rattle.wgr_columns.specs.Decode.{bytes_at}
use Rattle.wgr_peers.specs.Host.{IsHostText}
use Rattle.wgr_sql.proofs.ResultLemmas.{if_ok, if_none}
use Rattle.wgr_columns.proofs.text.host_at.Goals as goal

pub returns-clause-none : goal.returns-clause-none
returns-clause-none c =
    let text : c.in-Ok-Text.text.now ≡ bytes_at c.args.row.now c.args.at = search rules in
    if_ok c.host_of.result _ _ (λ found. if_none found _ _ (λ none is. none (subst (λ t. IsHostText t t) (sym text) is.1))) c.host_of.ensures.none
