use Rattle.std.proofs.Common.{sym, subst}
use Rattle.std.proofs.lemmas.Result.{on_ok_weaker}
use Rattle.serde_json.specs.Events.{SendsValue}
use Rattle.wgr_show.specs.Entries.{shown_of}
use Rattle.wgr_json.specs.Values.{array_of}
use Rattle.wgr_show.specs.Json.{tenant_data}
use Rattle.wgr_show.proofs.Listing.{map_of_map}
use Rattle.wgr_show.proofs.shown.RegisterToJsonInListing.send.Goals as goal

pub returns : goal.returns
returns g c =
    let w = g.S.Serializer.written in
    let tenants = c.in_ok-send_member.ensures in
    let shown = map_of_map shown_of tenant_data c.args.self.now.0.now in
    on_ok_weaker c.end_map.result (λ e. (
      w c.begin_map.new.self,
      c.in_ok-begin_map.ensures,
      (
        tenants.0,
        w c.send_member.new.out,
        tenants.1,
        subst (λ ds. SendsValue (array_of ds) tenants.0 (w c.send_member.new.out)) (sym shown) tenants.2,
        e,
      ),
    )) c.end_map.ensures
