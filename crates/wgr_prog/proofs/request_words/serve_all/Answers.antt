use Rattle.wgr_prog.specs.Answering.{output_of}
use Rattle.wgr_prog.proofs.AnsweringLemmas.{serves_all}
use Rattle.wgr_prog.proofs.request_words.serve_all.Goals as goal

pub returns : goal.returns
returns g c =
    let output = output_of g.W.Write.contents g.W.Write.failed in
    let errors = output_of g.E.Write.contents g.E.Write.failed in
    serves_all _ _ c.close_office.result c.in-Ok.office c.listen-served.new.office c.args.serving.now (g.N.Network.log c.args.network.now) (g.N.Network.log c.listen-served.new.network) (output c.args.out.now) (output c.listen-served.new.out) (errors c.args.err.now) (errors c.listen-served.new.err)
    c.in-Ok.ensures.open c.close_office.ensures c.listen-served.result c.listen-served.ensures
