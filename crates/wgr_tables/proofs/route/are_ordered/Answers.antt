use Rattle.std.proofs.Common.{rules}
use Rattle.std.proofs.lemmas.List.Sorted.{answers_always}
use Rattle.wgr_pool.specs.PrefixTests.{is_before}
use Rattle.wgr_core.proofs.PartsLemmas.{ordered_iff}
use Rattle.wgr_tables.proofs.route.are_ordered.Goals as goal

pub returns : goal.returns
returns c =
    (ordered_iff c.args.routes.now c.is_sorted_by.result
    (c.is_sorted_by.ensures.cases (λ one other. is_before one.0 other.0) (answers_always _ _ _ (λ f a r g called. search rules)))).0
