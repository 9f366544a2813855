use Rattle.std.proofs.Common.{ℕ, rules, subst}
use Rattle.std.proofs.lemmas.List.Sorted.{answers_always}
use Rattle.wgr_text.specs.Prefix.{PrefixValue}
use Rattle.wgr_pool.specs.PrefixTests.{is_before}
use Rattle.wgr_peers.specs.Routes.{AreOrdered}
use Rattle.wgr_core.proofs.Arranged.{none_falls, prefixes_sort}
use Rattle.wgr_core.proofs.arrange.sort_routes.Goals as goal

pub returns-then-not-are_ordered-clause-sorted : goal.returns-then-not-are_ordered-clause-sorted
returns-then-not-are_ordered-clause-sorted c =
    c.sort_unstable_by.ensures.sorted (λ (r : PrefixValue × ℕ) (s : PrefixValue × ℕ). is_before r.0 s.0) prefixes_sort (answers_always _ _ _ (λ f a r g called. search rules))

pub returns-else-not-are_ordered-clause-sorted : goal.returns-else-not-are_ordered-clause-sorted
returns-else-not-are_ordered-clause-sorted c = none_falls c.args.routes.now.items (subst AreOrdered c.deref.ensures.value (c.are_ordered.ensures.0 c.if-not-are_ordered.false))
