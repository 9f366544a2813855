use Rattle.std.proofs.Common.{ℕ, List, Bor, map, sym, ◌∙◌}
use Rattle.wgr_prog.specs.Sending.{Call}
use Rattle.wgr_prog.proofs.SendLemmas.{exchanged}
use Rattle.wgr_prog.proofs.send.exchange.Goals as goal

pub returns : goal.returns
returns g c =
    let call : Call = record {
      input = g.N.Reader.Read.remaining c.in-Ok.reader;
      before = g.N.Writer.Write.contents c.in-Ok.writer;
      after = g.N.Writer.Write.contents c.ask-reply.new.out;
      read_failed = g.N.Reader.Read.failed c.ask-reply.new.input;
      write_failed = g.N.Writer.Write.failed c.ask-reply.new.out;
    } in
    exchanged c.args.path.now (map (λ (word : Bor (List ℕ)). word.now) c.args.line.now) (g.N.Network.log c.args.network.now) (g.N.Network.log c.call.new.self) (g.N.Network.log c.end.new.self) call c.ask-reply.result
    c.in-Ok.ensures.called c.end.ensures.ended (sym c.is_line.ensures ∙ c.if-not-is_line.false) c.ask-reply.ensures.ok c.ask-reply.ensures.cut c.ask-reply.ensures.err c.ask-reply.ensures.sound
