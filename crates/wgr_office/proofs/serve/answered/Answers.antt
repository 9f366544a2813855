use Rattle.std.proofs.Common.{subst, inl}
use Rattle.wgr_office.specs.Pages.{IsAnsweredAs}
use Rattle.wgr_office.proofs.ServeLemmas.{front_of, taken, untaken}
use Rattle.wgr_office.proofs.serve.answered.Goals as goal

pub returns-in-Ok-clause-ok : goal.returns-in-Ok-clause-ok
returns-in-Ok-clause-ok g c =
    let message = c.read_message.new.message in
    let input = g.R.Read.remaining c.args.input.now in
    taken g.S.Store c.args.now c.args.office.now c.answer.new.self message input c.answer.result (front_of input (g.R.Read.remaining c.read_message.new.input) message.items c.in-Ok.ensures.bytes) (c.beginnings_ask.ensures message.items input c.in-Ok.ensures.whole)
    (λ db late at. subst (λ m. IsAnsweredAs g.S.Store c.answer.new.self db late c.args.now m c.answer.result) c.deref.ensures.value (c.answer.ensures.answered db late at))

pub returns-in-Err-NoMemory-clause-ok : goal.returns-in-Err-NoMemory-clause-ok
returns-in-Err-NoMemory-clause-ok g c = untaken g.S.Store c.args.now c.args.office.now c.read_message.new.message (g.R.Read.remaining c.args.input.now) (front_of (g.R.Read.remaining c.args.input.now) (g.R.Read.remaining c.read_message.new.input) c.read_message.new.message.items c.in-Err-NoMemory.ensures.bytes)

pub returns-in-Ok-clause-taken : goal.returns-in-Ok-clause-taken
returns-in-Ok-clause-taken g c =
    let message = c.read_message.new.message in (
      message,
      record { taken = c.in-Ok.ensures.bytes; no_more = c.in-Ok.ensures.no_more; in_time = c.in-Ok.ensures.in_time },
      λ db late at. subst (λ m. IsAnsweredAs g.S.Store c.answer.new.self db late c.args.now m c.answer.result) c.deref.ensures.value (c.answer.ensures.answered db late at),
    )

pub returns-in-Err-NoMemory-clause-taken : goal.returns-in-Err-NoMemory-clause-taken
returns-in-Err-NoMemory-clause-taken g c =
    (c.read_message.new.message, record { taken = c.in-Err-NoMemory.ensures.bytes; no_more = c.in-Err-NoMemory.ensures.no_more; in_time = c.in-Err-NoMemory.ensures.in_time }, λ db late at. inl at)

pub returns-clause-taken : goal.returns-clause-taken
returns-clause-taken g c =
    (c.read_message.new.message, record { taken = c.in-Err-Device.ensures.bytes; no_more = c.in-Err-Device.ensures.no_more; in_time = c.in-Err-Device.ensures.in_time }, tt)
