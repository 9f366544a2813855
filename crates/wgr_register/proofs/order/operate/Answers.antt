use Rattle.wgr_model.specs.Steps.{AddNetwork, AddTenant, EndToken, Grant}
use Rattle.wgr_register.proofs.StayLemmas.{memory_shown}
use Rattle.wgr_register.proofs.order.operate.Goals as goal

pub returns-in-AddTenant-clause-ends : goal.returns-in-AddTenant-clause-ends
returns-in-AddTenant-clause-ends g c db late at = rw c.in-AddTenant.is (c.add_tenant.ensures.ends db late at (rw c.in-AddTenant.is at c.forms_hold.ensures))

pub returns-in-Grant-clause-ends : goal.returns-in-Grant-clause-ends
returns-in-Grant-clause-ends g c db late at = rw c.in-Grant.is (c.grant.ensures.ends db late at (rw c.in-Grant.is at c.forms_hold.ensures))

pub returns-in-EndToken-clause-ends : goal.returns-in-EndToken-clause-ends
returns-in-EndToken-clause-ends g c db late at = rw c.in-EndToken.is (c.end_token.ensures.ends db late at)

pub returns-in-AddNetwork-clause-ends : goal.returns-in-AddNetwork-clause-ends
returns-in-AddNetwork-clause-ends g c db late at = rw c.in-AddNetwork.is (c.add_network.ensures.ends db late at (rw c.in-AddNetwork.is at c.forms_hold.ensures))

pub returns-in-EndNetwork-clause-ends : goal.returns-in-EndNetwork-clause-ends
returns-in-EndNetwork-clause-ends g c db late at = rw c.in-EndNetwork.is (c.end_network.ensures.ends db late at)

pub returns-in-AddTenant-clause-stops : goal.returns-in-AddTenant-clause-stops
returns-in-AddTenant-clause-stops g c db late at = rw c.in-AddTenant.is (c.add_tenant.ensures.stops db late at)

pub returns-in-Grant-clause-stops : goal.returns-in-Grant-clause-stops
returns-in-Grant-clause-stops g c db late at = rw c.in-Grant.is (c.grant.ensures.stops db late at)

pub returns-in-EndToken-clause-stops : goal.returns-in-EndToken-clause-stops
returns-in-EndToken-clause-stops g c db late at = rw c.in-EndToken.is (c.end_token.ensures.stops db late at)

pub returns-in-AddNetwork-clause-stops : goal.returns-in-AddNetwork-clause-stops
returns-in-AddNetwork-clause-stops g c db late at = rw c.in-AddNetwork.is (c.add_network.ensures.stops db late at)

pub returns-in-EndNetwork-clause-stops : goal.returns-in-EndNetwork-clause-stops
returns-in-EndNetwork-clause-stops g c db late at = rw c.in-EndNetwork.is (c.end_network.ensures.stops db late at)

-- ---- what stays in memory

pub returns-in-AddTenant-clause-memory : goal.returns-in-AddTenant-clause-memory
returns-in-AddTenant-clause-memory g c db late at =
    let proper = rw c.in-AddTenant.is at c.forms_hold.ensures in
    memory_shown g.S.Store _ db late at.consistent (AddTenant c.in-AddTenant.name) proper tt _ (c.add_tenant.ensures.ends db late at proper) c.args.memory.now

pub returns-in-Grant-clause-memory : goal.returns-in-Grant-clause-memory
returns-in-Grant-clause-memory g c db late at =
    let proper = rw c.in-Grant.is at c.forms_hold.ensures in
    memory_shown g.S.Store _ db late at.consistent (Grant c.in-Grant.tenant c.in-Grant.digest c.in-Grant.right) proper tt _ (c.grant.ensures.ends db late at proper) c.args.memory.now

pub returns-in-EndToken-clause-memory : goal.returns-in-EndToken-clause-memory
returns-in-EndToken-clause-memory g c db late at =
    let proper = rw c.in-EndToken.is at c.forms_hold.ensures in
    memory_shown g.S.Store _ db late at.consistent (EndToken c.in-EndToken.digest) proper tt _ (c.end_token.ensures.ends db late at) c.args.memory.now

pub returns-in-AddNetwork-clause-memory : goal.returns-in-AddNetwork-clause-memory
returns-in-AddNetwork-clause-memory g c db late at =
    let proper = rw c.in-AddNetwork.is at c.forms_hold.ensures in
    memory_shown g.S.Store _ db late at.consistent (AddNetwork c.in-AddNetwork.tenant c.in-AddNetwork.name c.in-AddNetwork.settings) proper tt _ (c.add_network.ensures.ends db late at proper) c.args.memory.now

pub returns-in-EndNetwork-clause-stays : goal.returns-in-EndNetwork-clause-stays
returns-in-EndNetwork-clause-stays g c none = absurd (rw c.in-EndNetwork.is at none)
