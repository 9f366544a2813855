use Rattle.std.proofs.Common.{subst}
use Rattle.wgr_office.specs.Pages.{IsAnsweredAs}
use Rattle.wgr_office.proofs.RunLemmas.{ask_served}
use Rattle.wgr_office.proofs.run.serve.Goals as goal

pub returns-in-Ask-clause-served : goal.returns-in-Ask-clause-served
returns-in-Ask-clause-served g c db late at clean =
    rw c.in-Ask.is (ask_served g.S.Store c.answer.new.self db late c.in-Ask.now c.in-Ask.bytes c.answer.result
    (subst (λ message. IsAnsweredAs g.S.Store c.answer.new.self db late c.in-Ask.now message c.answer.result) c.as_slice.ensures.value (c.answer.ensures.answered db late at)) clean)

pub returns-in-Order-clause-served : goal.returns-in-Order-clause-served
returns-in-Order-clause-served g c db late at clean = rw c.in-Order.is ((c.operate.ensures.call c.settled.result c.settled.ensures).served db late at clean)

pub returns-in-Order-clause-clean : goal.returns-in-Order-clause-clean
returns-in-Order-clause-clean g c = (c.operate.ensures.call c.settled.result c.settled.ensures).clean
