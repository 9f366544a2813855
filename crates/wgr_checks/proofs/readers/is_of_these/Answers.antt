use Rattle.std.proofs.Common.{sym, ◌∙◌}
use Rattle.wgr_checks.proofs.ReaderLemmas.{found_is}
use Rattle.wgr_checks.proofs.readers.is_of_these.Goals as goal

pub returns : goal.returns
returns c up =
    let is = c.is_ok.ensures.value ∙ found_is c.args.all.now c.args.digest.now c.binary_search.result up c.binary_search.ensures.bound c.binary_search.ensures.position in
    ((λ told. sym is ∙ told), (λ any. is ∙ any))
