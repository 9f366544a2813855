use Rattle.wgr_service.proofs.connections.serve_arrival.Goals as goal

pub returns-in-Orders-clause-outcome : goal.returns-in-Orders-clause-outcome
returns-in-Orders-clause-outcome g c sound = rw c.in-Orders.is (c.serve_order.ensures.outcome c.args.now c.args.clock sound)
