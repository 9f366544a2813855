use Rattle.wgr_reply.proofs.response.write_response.Goals as goal

pub returns-in-ReadOnly : goal.returns-in-ReadOnly
returns-in-ReadOnly c = rw c.in-ReadOnly.is c.write_plain.ensures

pub returns-in-NoSuchNetwork : goal.returns-in-NoSuchNetwork
returns-in-NoSuchNetwork c = rw c.in-NoSuchNetwork.is c.write_plain-in-NoSuchNetwork.ensures
