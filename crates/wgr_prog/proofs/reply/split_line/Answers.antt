use Rattle.std.proofs.Common.{◌≡◌, ◌∙◌, ◌+◌, ◌-◌, ℕ, ap, arith, add-one, drop, length, length-drop, option_map, sym, take}
use Rattle.std.proofs.lemmas.List.{take_all}
use Rattle.wgr_words.proofs.LineLemmas.{before_newline_is}
use Rattle.wgr_prog.proofs.ReplyLemmas.{behind_newline_is}
use Rattle.wgr_prog.proofs.reply.split_line.Goals as goal

pub returns-in-Some-clause-line : goal.returns-in-Some-clause-line
returns-in-Some-clause-line c = ap (option_map (λ (end : ℕ). take end c.args.all.now)) (sym c.in-Some.is ∙ c.newline.ensures) ∙ before_newline_is c.args.all.now

pub returns-in-Some-clause-rest : goal.returns-in-Some-clause-rest
returns-in-Some-clause-rest c =
    let all = c.args.all.now in
    let end = c.in-Some.end in
    let rest : take (length all - (end + 1)) (drop (end + 1) all) ≡ drop (end + 1) all = take_all (length all - (end + 1)) (drop (end + 1) all) (omega (arith, length-drop (end + 1) all)) in
    rw (rest, add-one) (sym (behind_newline_is all end (sym (sym c.in-Some.is ∙ c.newline.ensures))))

pub returns-in-None-clause-line : goal.returns-in-None-clause-line
returns-in-None-clause-line c = ap (option_map (λ (end : ℕ). take end c.args.all.now)) (sym c.in-None.is ∙ c.newline.ensures) ∙ before_newline_is c.args.all.now
