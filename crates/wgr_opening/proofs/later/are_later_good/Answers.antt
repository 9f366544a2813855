use Rattle.std.proofs.Common.{codes, sym, subst, ◌∙◌, true≢false}
use Rattle.sqlite.specs.Held.{state}
use Rattle.wgr_sql.specs.Named.{rows_named}
use Rattle.wgr_sql.proofs.ResultLemmas.{if_ok}
use Rattle.wgr_schema.proofs.GrownLemmas.{nothing_named}
use Rattle.wgr_opening.specs.Good.{IsReadyIn}
use Rattle.wgr_opening.proofs.GoodLemmas.{later_good, no_seconds, none_reads, own_digests}
use Rattle.wgr_opening.proofs.later.are_later_good.Goals as goal

pub returns-in-One-clause-good : goal.returns-in-One-clause-good
returns-in-One-clause-good g c clean ready told live own =
    let old = state g.S.Store c.args.conn.now in
    let is = subst (λ v. IsReadyIn v old) c.in-One.is ready in
    record { seconds = nothing_named old.now (codes "second") (is live).1.0; readers = none_reads (old.now.trees 3) (rows_named old.now (codes "reader")) (nothing_named old.now (codes "reader") (is live).1.1) }

pub returns-in-Two-clause-good : goal.returns-in-Two-clause-good
returns-in-Two-clause-good g c clean ready =
    let old = state g.S.Store c.args.conn.now in
    let is = subst (λ v. IsReadyIn v old) c.in-Two.is ready in
    if_ok c.has_no_seconds.result _ _ (λ none h told live own. record { seconds = h.1.0 told; readers = none_reads (old.now.trees 3) (rows_named old.now (codes "reader")) (nothing_named old.now (codes "reader") (is live).1) }) (c.has_no_seconds.ensures.answer clean (λ live. (is live).0.2))

pub returns-in-Two-clause-bad : goal.returns-in-Two-clause-bad
returns-in-Two-clause-bad g c clean ready =
    let old = state g.S.Store c.args.conn.now in
    let is = subst (λ v. IsReadyIn v old) c.in-Two.is ready in
    if_ok c.has_no_seconds.result _ _ (λ none h used. (h.0, λ sound. true≢false (sym (h.1.1 (no_seconds old.now sound)) ∙ used))) (c.has_no_seconds.ensures.answer clean (λ live. (is live).0.2))

pub returns-in-Three-clause-bad : goal.returns-in-Three-clause-bad
returns-in-Three-clause-bad g c clean ready =
    let old = state g.S.Store c.args.conn.now in
    let is = subst (λ v. IsReadyIn v old) c.in-Three.is ready in
    if_ok c.are_both_good.result _ _ (λ good h bad. (h.0, λ sound. true≢false (sym ((h.1 (own_digests old.now sound)).1 (later_good old.now sound (is h.0).0)) ∙ bad))) (c.are_both_good.ensures.answer clean is)
