use Rattle.std.proofs.Common.{◌≡◌, ◌∙◌, [], ◌∷◌, ◌++◌, Bor, List, Option, ap, arith, max, nat_cmp, option_map, refl, subst, sym, ℕ}
use Rattle.std.specs.Ordering.{ord_max}
use Rattle.std.proofs.lemmas.Grind.{common_steps}
use Rattle.wgr_model.specs.Register.{Bytes}
use Rattle.wgr_service.specs.Lines.{end_status}
use Rattle.wgr_service.specs.Texts.{HasCarriedOut, IsCutAtLast, greatest, lines_in}
use Rattle.wgr_service.specs.declared.lines.LineEnd.{LineEnd}
use Rattle.wgr_service.proofs.BatchLemmas.{on_err}
use Rattle.wgr_service.proofs.ConnectionLemmas.{appends_none}
use Rattle.wgr_service.proofs.TextLemmas.{all_taken, carried_out, end_clean, end_written, ended_more, greatest_more, none_ended, some_bytes, taken_more}
use Rattle.wgr_service.proofs.texts.carry_out_text.Goals as goal

pub loop-rest-init : goal.loop-rest-init
loop-rest-init g c = record {
  clean = λ clean. clean;
  sound = refl;
  so_far = ([], [], none_ended g.S.Store c.args.office.now, refl, appends_none (g.W.Write.contents c.args.out.now), refl);
}

-- the line that was taken
abbrev line_of : Option (Bor (List ℕ)) → Option (List ℕ)
line_of line = option_map (λ (l : Bor (List ℕ)). l.now) line

-- the status with that of one line more
status_is : (status ended both : ℕ) (ends : List LineEnd) (end : LineEnd) → both ≡ ord_max nat_cmp status ended → status ≡ greatest ends → ended ≡ end_status end → both ≡ greatest (ends ++ end ∷ [])
status_is status ended both ends end is so_far one =
    let both_are : both ≡ max status ended = grind (arith, common_steps) in
    both_are ∙ ap (λ (n : ℕ). max n ended) so_far ∙ ap (λ (n : ℕ). max (greatest ends) n) one ∙ sym (greatest_more ends end)

pub loop-rest-preserved : goal.loop-rest-preserved
loop-rest-preserved g c =
    let (taken, ends, so_far, lines, written, status) = c.loop-rest.invariant.so_far in
    let (end, at, wrote, one) = c.in_ok-ended.ensures.carried in
    let line = line_of c.split_line.result.0 in
    let next = c.split_line.ensures.lines (some_bytes c.loop-rest.rest.now c.loop-rest-test.ensures) in
    record {
      clean = λ clean. c.loop-rest.invariant.clean (end_clean g.S.Store c.loop-rest.office c.carry_out_next.new.office line end at clean);
      sound = c.in_ok-ended.ensures.sound ∙ c.loop-rest.invariant.sound;
      so_far = (
        taken ++ line ∷ [],
        ends ++ end ∷ [],
        ended_more g.S.Store c.args.office.now c.loop-rest.office c.carry_out_next.new.office taken ends so_far line end at,
        taken_more c.args.text.now c.loop-rest.rest.now c.split_line.result.1.now taken line lines next,
        end_written (g.W.Write.contents c.args.out.now) (g.W.Write.contents c.loop-rest.out) (g.W.Write.contents c.carry_out_next.new.out) ends end written wrote,
        status_is c.loop-rest.status c.in_ok-ended.ended c.max-status.result ends end c.max-status.ensures status one,
      );
    }

pub returns-in_err-ended-clause-cut : goal.returns-in_err-ended-clause-cut
returns-in_err-ended-clause-cut g c =
    let (taken, ends, so_far, lines, written, status) = c.loop-rest.invariant.so_far in
    let (end, at, cut) = c.in_err-ended.ensures.cut in
    let line = line_of c.split_line.result.0 in
    let next = c.split_line.ensures.lines (some_bytes c.loop-rest.rest.now c.loop-rest-test.ensures) in
    let told : (taken : List (Option Bytes)) × (rest : List (Option Bytes)) × (ends : List LineEnd) × (lines_in c.args.text.now ≡ taken ++ rest) × HasCarriedOut g.S.Store c.args.office.now c.carry_out_next.new.office taken ends
    × IsCutAtLast (g.W.Write.contents c.args.out.now) (g.W.Write.contents c.carry_out_next.new.out) ends = (
      taken ++ line ∷ [],
      lines_in c.split_line.result.1.now,
      ends ++ end ∷ [],
      taken_more c.args.text.now c.loop-rest.rest.now c.split_line.result.1.now taken line lines next,
      carried_out g.S.Store c.args.office.now c.carry_out_next.new.office (taken ++ line ∷ []) (ends ++ end ∷ []) c.rows_are_isolated.ensures (ended_more g.S.Store c.args.office.now c.loop-rest.office c.carry_out_next.new.office taken ends so_far line end at),
      (ends, end, g.W.Write.contents c.loop-rest.out, refl, written, cut),
    ) in
    on_err c.from_residual.result told

pub returns-clause-carried : goal.returns-clause-carried
returns-clause-carried g c =
    let (taken, ends, so_far, lines, written, status) = c.loop-rest.invariant.so_far in
    let all = all_taken c.args.text.now c.loop-rest.rest.now taken lines c.loop-rest-test.ensures in (
      ends,
      subst (λ (ls : List (Option (List ℕ))). HasCarriedOut g.S.Store c.args.office.now c.loop-rest.office ls ends) (sym all)
          (carried_out g.S.Store c.args.office.now c.loop-rest.office taken ends c.rows_are_isolated.ensures so_far),
      written,
      status,
    )
