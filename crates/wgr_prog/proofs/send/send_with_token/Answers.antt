use Rattle.std.proofs.Common.{ℕ, ◌≡◌, true, List, Bor, ◌++◌, [], ◌∷◌, map, subst, ap, ◌∙◌}
use Rattle.wgr_words.specs.Line.{is_line}
use Rattle.wgr_words.specs.Order.{input_of}
use Rattle.wgr_words.specs.Sent.{option_words}
use Rattle.wgr_words.specs.Words.{without_newline}
use Rattle.wgr_prog.specs.Sending.{SendsLine}
use Rattle.wgr_prog.proofs.SendLemmas.{with_token}
use Rattle.wgr_prog.proofs.send.send_with_token.Goals as goal

pub returns : goal.returns
returns g c =
    let words = map (λ (word : Bor (List ℕ)). word.now) c.args.words.now in
    let before = g.N.Network.log c.args.network.now in
    let after = g.N.Network.log c.send_token.new.network in
    let input = input_of g.R.Read.remaining g.R.Read.failed in
    with_token c.args.path.now words c.args.is_json before after (input c.args.input.now) (input c.read_to_end.new.input) c.in-Ok.typed.items c.send_token.result
    (record { taken = c.in-Ok.ensures.bytes; ended = c.in-Ok.ensures.end; sound = c.in-Ok.ensures.sound })
    (subst (λ token. is_line (token ∷ []) ≡ true) (c.in-Some.ensures.some.0 ∙ ap without_newline c.deref.ensures.value) c.in-Some.ensures.some.1)
    (subst (λ token. SendsLine c.args.path.now (words ++ token ∷ option_words c.args.is_json) before after c.send_token.result) (c.in-Some.ensures.some.0 ∙ ap without_newline c.deref.ensures.value) c.send_token.ensures)
