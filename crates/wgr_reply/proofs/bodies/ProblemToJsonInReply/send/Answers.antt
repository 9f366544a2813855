use Rattle.std.proofs.lemmas.Result.{on_ok_weaker}
use Rattle.wgr_reply.proofs.bodies.ProblemToJsonInReply.send.Goals as goal

pub returns-in_ok-send_text-in-None : goal.returns-in_ok-send_text-in-None
returns-in_ok-send_text-in-None g c =
    let w = g.S.Serializer.written in
    let error = c.in_ok-send_text-in-None.ensures in
    rw c.in-None.is (on_ok_weaker c.end_map.result (λ e. (w c.begin_map.new.self, c.in_ok-begin_map-in-None.ensures, (error.0, w c.send_text.new.out, error.1, error.2, e))) c.end_map.ensures)
