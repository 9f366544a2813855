use Rattle.std.proofs.Common.{◌∙◌, ℕ, [], Bor, List, get_or, refl}
use Rattle.std.proofs.lemmas.List.{take_more}
use Rattle.wgr_service.proofs.BatchLemmas.{cut_within, on_err, one_more}
use Rattle.wgr_service.proofs.ConnectionLemmas.{appends_none}
use Rattle.wgr_service.proofs.parts.write_parts.Goals as goal

abbrev nothing : Bor (List ℕ)
nothing = record { ref_ptr = (0, 0); now = [] }

pub loop-part-init : goal.loop-part-init
loop-part-init g c = record { sound = refl; written = appends_none (g.W.Write.contents c.args.out.now) }

pub loop-part-preserved : goal.loop-part-preserved
loop-part-preserved g c =
    let at = c.loop-part.part-index in
    let parts = c.args.parts.now in
    record {
      sound = c.in_ok-write_all.ensures.sound ∙ c.loop-part.invariant.sound;
      written = one_more (λ part. part.now) parts at (get_or parts at nothing) (take_more parts at nothing c.loop-part-test.true) (g.W.Write.contents c.args.out.now) (g.W.Write.contents c.loop-part.out) (g.W.Write.contents c.write_all.new.out) c.loop-part.invariant.written c.in_ok-write_all.ensures.ok;
    }

pub returns-in_err-write_all-clause-cut : goal.returns-in_err-write_all-clause-cut
returns-in_err-write_all-clause-cut g c =
    let at = c.loop-part.part-index in
    let parts = c.args.parts.now in
    on_err _ (cut_within (λ part. part.now) parts at (get_or parts at nothing) (take_more parts at nothing c.loop-part-test.true) (g.W.Write.contents c.args.out.now) (g.W.Write.contents c.loop-part.out) (g.W.Write.contents c.write_all.new.out) c.in_err-write_all.field-0.0.sent c.loop-part.invariant.written c.in_err-write_all.ensures.sent)
