use Rattle.std.proofs.Common.{rules}
use Rattle.wgr_prog.proofs.ReplyLemmas.{all_read}
use Rattle.wgr_prog.proofs.send.ask.Goals as goal

pub returns-in-Ok-clause-ok : goal.returns-in-Ok-clause-ok
returns-in-Ok-clause-ok g c =
    (search rules, all_read (g.R.Read.remaining c.args.input.now) (g.R.Read.remaining c.read_to_end.new.input) c.in-Ok.reply.items c.in-Ok.ensures.bytes c.in-Ok.ensures.end)
