use Rattle.std.proofs.Common.{◌≡◌, ◌∙◌, List, [], ◌∷◌, OnOk, false, length, map, refl, subst, sym, Bor}
use Rattle.std.specs.Prelude.{◌==◌}
use Rattle.serde_json.specs.Data.{Data}
use Rattle.serde_json.specs.Events.{SendsValue}
use Rattle.wgr_orders.specs.declared.census.Granted.{Granted}
use Rattle.wgr_show.specs.Entries.{shown_of}
use Rattle.wgr_show.specs.Json.{tenant_and_readers, tenant_with}
use Rattle.wgr_show.specs.Shown.{ShownTenant}
use Rattle.wgr_show.proofs.shown.send_tenant.Goals as goal

-- where a token only reads, there is the member
with_some : (s : ShownTenant) (readers : List (Bor Granted)) → (length readers == 0) ≡ false → tenant_and_readers s (map (λ t. t.now) readers) ≡ tenant_with s (map (λ t. t.now) readers)
with_some s [] some = cc some
with_some s (reader ∷ readers) some = refl

pub returns-else-is_empty : goal.returns-else-is_empty
returns-else-is_empty g c =
    let w = g.S.Serializer.written in
    let some = with_some (shown_of c.args.entry.now) c.args.readers.now (sym c.is_empty.ensures ∙ c.if-is_empty.false) in
    subst (λ (d : Data). OnOk c.send_with_readers.result (SendsValue d (w c.args.out.now) (w c.send_with_readers.new.out))) some c.send_with_readers.ensures
