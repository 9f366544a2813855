use Rattle.std.proofs.Common.{rules, ◌≡◌, IfSome, subst}
use Rattle.wgr_sql.specs.Faults.{IsStore}
use Rattle.wgr_core.specs.Parts.{IsNetworkOf}
use Rattle.wgr_columns.specs.Decode.{network_in}
use Rattle.wgr_columns.specs.Stored.{AreSettings, stored_network}
use Rattle.wgr_tables.proofs.LoadLemmas.{network_is_made}
use Rattle.wgr_tables.proofs.load.make_network.Goals as goal

pub returns-in-Ok-Some-clause-made : goal.returns-in-Ok-Some-clause-made
returns-in-Ok-Some-clause-made c =
    let given = subst (λ o. IfSome o (IsNetworkOf c.in_ok-parts.parts)) c.in-Ok-Some.field-0-is c.in-Ok-Some.ensures.some in
    network_is_made (network_in c.args.row.now) c.args.peers.items c.args.routes.items c.in_ok-parts.parts c.in-Ok-Some.network c.in_ok-parts.ensures.value given c.rules_hold.ensures

pub returns-in_err-parts-clause-only : goal.returns-in_err-parts-clause-only
returns-in_err-parts-clause-only c =
    let never : IsStore c.in_err-parts.field-0.0 → AreSettings (network_in c.args.row.now) → c.args.row.now ≡ stored_network (network_in c.args.row.now) → ⊥ = (λ e settings is. c.in_err-parts.ensures.only e (network_in c.args.row.now) settings is) in
    search (rules, never)
