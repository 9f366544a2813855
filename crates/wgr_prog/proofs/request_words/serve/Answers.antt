use Rattle.std.proofs.Common.{List, Bor, ℕ, option_map}
use Rattle.wgr_prog.specs.Answering.{output_of}
use Rattle.wgr_prog.proofs.AnsweringLemmas.{ends_serve}
use Rattle.wgr_prog.proofs.request_words.serve.Goals as goal

pub returns-in-Ok : goal.returns-in-Ok
returns-in-Ok g c =
    let output = output_of g.W.Write.contents g.W.Write.failed in
    let errors = output_of g.E.Write.contents g.E.Write.failed in
    let now = option_map (λ (text : Bor (List ℕ)). text.now) c.args.now in
    let orders = option_map (λ (text : Bor (List ℕ)). text.now) c.args.orders in
    ends_serve _ _ _ c.args.place.now c.args.count.now now orders c.in-Ok.serving c.in-Ok.ensures.ok (g.N.Network.log c.args.network.now) (g.N.Network.log c.serve_all.new.network) (output c.args.out.now) (output c.serve_all.new.out) (errors c.args.err.now) (errors c.serve_all.new.err) c.serve_all.result.0 c.serve_all.ensures
