use Rattle.std.proofs.Common.{◌∙◌, List, OnOk, ap, map, subst, sym, Bor}
use Rattle.serde_json.specs.Events.{SendsValue}
use Rattle.wgr_orders.specs.declared.census.Granted.{Granted}
use Rattle.wgr_show.specs.Entries.{shown_of}
use Rattle.wgr_show.specs.Json.{only_reads, tenant_with}
use Rattle.wgr_show.proofs.Listing.{filter_of_map}
use Rattle.wgr_show.proofs.shown.EntryToJsonInListing.send.Goals as goal

pub returns-in-Ok : goal.returns-in-Ok
returns-in-Ok g c =
    let w = g.S.Serializer.written in
    let now = λ (t : Bor Granted). t.now in
    let readers = ap (map now) (c.deref.ensures.value ∙ c.in-Ok.ensures) ∙ sym (filter_of_map now (λ t. only_reads t.right) c.args.self.now.tokens.now) in
    subst (λ (rs : List Granted). OnOk c.send_tenant.result (SendsValue (tenant_with (shown_of c.args.self.now) rs) (w c.args.out.now) (w c.send_tenant.new.out))) readers c.send_tenant.ensures
