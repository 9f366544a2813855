use Rattle.std.proofs.Common.{ℕ, List, ◌∷◌, Bor, option_map}
use Rattle.wgr_words.specs.declared.field.WordField.TheVariants as of
use Rattle.wgr_prog.specs.Answering.{choice_fields, serve_fields}
use Rattle.wgr_words.specs.Order.{IsFaultIn}
use Rattle.wgr_words.specs.Words.{SpellsEndpoint}
use Rattle.wgr_words.proofs.OrderLemmas.{here, passed}
use Rattle.wgr_prog.proofs.request_words.read_serving.Goals as goal

pub returns-in_err-endpoint-clause-err : goal.returns-in_err-endpoint-clause-err
returns-in_err-endpoint-clause-err c =
    let place = c.args.place.now in
    let count = c.args.count.now in
    let now = option_map (λ (text : Bor (List ℕ)). text.now) c.args.now in
    passed c.from_residual.result _ (IsFaultIn (serve_fields place count now)) c.from_residual.ensures.1 (
    here (SpellsEndpoint place) of.HostPort place ((of.Count, count) ∷ choice_fields now) _ (λ is. is) c.in_err-endpoint.ensures)
