use Rattle.std.proofs.Common.{rules, ◌≡◌, subst}
use Rattle.wgr_peers.specs.Host.{IsHostText}
use Rattle.wgr_columns.proofs.HostLemmas.{kept_once}
use Rattle.wgr_columns.proofs.text.host_of.Goals as goal

pub returns-then-ne-clause-none : goal.returns-then-ne-clause-none
returns-then-ne-clause-none c is =
    let kept : IsHostText c.args.text.now c.in-Some.host = search rules in
    let same : c.in-Some.host ≡ c.args.text.now = kept_once c.args.text.now c.in-Some.host c.args.text.now kept is in
    search rules

pub returns-clause-some : goal.returns-clause-some
returns-clause-some c =
    let kept : IsHostText c.args.text.now c.in-Some.host = search rules in
    let same : c.in-Some.host ≡ c.args.text.now = search rules in
    (subst (IsHostText c.args.text.now) same kept, same)
