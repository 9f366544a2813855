use Rattle.wgr_prog.proofs.order_lines.run_orders.Goals as goal

pub returns : goal.returns
returns g c = record { answer = c.carry_out_orders-carried.result.0; ends = c.carry_out_orders-carried.ensures; reported = c.orders_status.ensures }
