use Rattle.std.proofs.Common.{refl, ap}
use Rattle.std.proofs.lemmas.Result.{IfOk-weaker}
use Rattle.wgr_prog.specs.Answering.{output_of}
use Rattle.wgr_prog.proofs.request_words.run_serve.Goals as goal

pub returns : goal.returns
returns g c input failed =
    let errors = output_of g.E.Write.contents g.E.Write.failed in
    record {
      answer = c.serve-served.result.0;
      told = errors c.serve-served.new.err;
      ends = c.serve-served.ensures;
      quiet = IfOk-weaker c.serve-served.result.0 _ _ (λ done same. ap errors same) c.serve_status.ensures.quiet;
      reported = c.serve_status.ensures.value;
      unread = (refl, refl);
    }
