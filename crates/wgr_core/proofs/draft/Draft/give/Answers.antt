use Rattle.std.proofs.Common.{sym}
use Rattle.wgr_core.proofs.LineAsks.{given_is_network}
use Rattle.wgr_core.proofs.draft.Draft.give.Goals as goal

pub assign_route-requires : goal.assign_route-requires
assign_route-requires c =
    given_is_network c.args.self.now.network c.args.prefix c.args.number c.rules_hold.ensures c.prefix_has_form.ensures c.requires (sym c.in_default.ensures)
