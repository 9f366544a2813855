use Rattle.std.proofs.Common.{refl}
use Rattle.wgr_prog.proofs.request_words.run_batch.Goals as goal

pub returns : goal.returns
returns g c input failed = record { answer = c.answer_files-answered.result.0; ends = c.answer_files-answered.ensures; reported = c.batch_status.ensures; unread = (refl, refl) }
