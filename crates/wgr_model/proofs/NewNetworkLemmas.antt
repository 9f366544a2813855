-- A new network has the settings that were asked.
use Rattle.std.proofs.Common.{cond, Some, refl, sym, ap, ◌∙◌}
use Rattle.std.specs.Prelude.{if◌then◌else◌}
use Rattle.std.specs.Cmp.Lexicographic.{nat_list_cmp_total}
use Rattle.std.specs.FinMap as map_
use Rattle.std.specs.FinMap.{get-insert}
use Rattle.wgr_core.specs.Network.{NetworkValue}
use Rattle.wgr_model.specs.Laws.{NetworksAreAsAsked}
use Rattle.wgr_model.specs.Register.{View, tenant_view}
use Rattle.wgr_model.specs.Steps.{AddNetwork, Done, new_network}
use Rattle.wgr_model.specs.Tenants.{put_view}
use Rattle.wgr_model.proofs.LookLemmas.{is_same_is, is_same_refl}
use Rattle.wgr_model.proofs.RunLemmas.{step_law}

pub network_as_asked : NetworksAreAsAsked
network_as_asked r s tenant name settings good proper step =
    let v : View = tenant_view r tenant in
    let n : NetworkValue = new_network settings in
    let seen = sym ((step_law r s (AddNetwork tenant name settings) Done good proper step).view tenant) ∙ ap (λ b. if b then put_view v name n else v) (is_same_refl tenant) in (
      n,
      ap {A = View} (λ x. map_.get x.networks name) seen
          ∙ get-insert nat_list_cmp_total v.networks name n name
          ∙ ap (λ b. cond b (Some n) (map_.get v.networks name)) (is_same_is name name ∙ is_same_refl name),
      record { pool = refl; host = refl; port = refl; server = refl; capacity = refl; first_number = refl; no_peers = refl; no_routes = refl },
    )
