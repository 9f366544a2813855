use Rattle.std.proofs.Common.{map, subst, is_lt, rules, Bor}
use Rattle.std.specs.List.Sorted.{IsPermutation}
use Rattle.std.proofs.lemmas.List.Sorted.{IsPermutation-map, answers_always, ranks_by}
use Rattle.wgr_show.specs.Owned.{owned_cmp}
use Rattle.wgr_show.proofs.Listing.{owned_total}
use Rattle.wgr_show.proofs.owned.sorted.Goals as goal

pub returns-clause-same : goal.returns-clause-same
returns-clause-same g c =
    subst (λ xs. IsPermutation xs (map (λ r. r.now) c.sort_unstable_by.new.self.items)) c.in_ok-sorted.ensures (IsPermutation-map (λ r. r.now) _ _ c.sort_unstable_by.ensures.permutation)

pub returns-clause-sorted : goal.returns-clause-sorted
returns-clause-sorted g c =
    let below = λ (a : Bor g.row.T.Denot) (b : Bor g.row.T.Denot). is_lt (owned_cmp g.T.Owned.owner_of g.T.Owned.label_of a.now b.now) in
    c.sort_unstable_by.ensures.sorted below (ranks_by (owned_total g.T.Owned.owner_of g.T.Owned.label_of) (λ (a : Bor g.row.T.Denot). a.now)) (answers_always _ _ _ (λ f a r h called. search rules))
