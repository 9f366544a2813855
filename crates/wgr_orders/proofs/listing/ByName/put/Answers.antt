use Rattle.std.proofs.Common.{ap, ◌∙◌}
use Rattle.wgr_model.specs.Listing.{put_entry}
use Rattle.wgr_orders.proofs.ListingLemmas.{put_by_map}
use Rattle.wgr_orders.proofs.listing.ByName.put.Goals as goal

pub returns : goal.returns
returns c =
    c.in_ok-insert.ensures.entries
    ∙ put_by_map c.args.name c.args.network c.self.inside.map.entries
    ∙ ap (put_entry c.args.name c.args.network) c.self.view_is
