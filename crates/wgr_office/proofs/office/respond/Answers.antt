use Rattle.wgr_request.specs.Request.{ask, networks}
use Rattle.wgr_office.proofs.OfficeLemmas.{decides, responds}
use Rattle.wgr_office.proofs.office.respond.Goals as goal

pub returns-in-Refused-clause-responds : goal.returns-in-Refused-clause-responds
returns-in-Refused-clause-responds g c db late at =
    rw c.in-Refused.is (decides g.S.Store c.args.register.now db late c.args.now c.in-Refused.why c.in-Refused.digest c.write_response.result c.made.result c.made.ensures c.write_response.ensures at)

pub returns-in-Networks-clause-responds : goal.returns-in-Networks-clause-responds
returns-in-Networks-clause-responds g c db late at =
    rw c.in-Networks.is (responds g.S.Store c.networks.new.self db late c.args.now (networks c.in-Networks.digest) c.networks.result c.ended.result c.ended.ensures (c.networks.ensures.ends db late c.args.now at))

pub returns-in-Ask-clause-responds : goal.returns-in-Ask-clause-responds
returns-in-Ask-clause-responds g c db late at =
    rw c.in-Ask.is (responds g.S.Store c.ask.new.self db late c.args.now (ask c.in-Ask.digest c.in-Ask.name.now c.in-Ask.command) c.ask.result c.ended-in-Ask.result c.ended-in-Ask.ensures (c.ask.ensures.ends db late at))
