use Rattle.std.proofs.Common.{◌≡◌, ◌-◌, ◌<◌, ◌∷◌, List, length, drop, map, sym, ap, ap₂, ◌∙◌, arith}
use Rattle.std.proofs.lemmas.List.{nil_from_length, length-drop}
use Rattle.sqlite_value.specs.Order.{Row}
use Rattle.wgr_model.specs.Listing.{put_entry}
use Rattle.wgr_model.specs.Register.{NetworkEntry}
use Rattle.wgr_columns.specs.Decode.{network_in}
use Rattle.wgr_entries.specs.Lookups.{settled}
use Rattle.wgr_register.specs.Listing.{by_name}
use Rattle.wgr_register.proofs.ListLemmas.{none_by_name, one_by_name, step_back}
use Rattle.wgr_sql.specs.Faults.{IsStore}
use Rattle.wgr_sql.proofs.CauseLemmas.{handed}
use Rattle.wgr_columns.specs.Stored.{IsKeptNetwork, stored_network}
use Rattle.wgr_entries.specs.Kept.{AreOf}
use Rattle.wgr_entries.proofs.KeptLemmas.{has_at}
use Rattle.wgr_register.proofs.list.entries_in.Goals as goal

pub loop-rest-init : goal.loop-rest-init
loop-rest-init c =
    let rows = c.args.rows.now in
    record {
      within = omega arith;
      there = c.new-networks.ensures ∙ none_by_name ∙ ap (λ (rs : List Row). by_name (map (λ r. settled (network_in r)) rs)) (sym (nil_from_length (drop (length rows) rows) (simp (length-drop) (omega arith))));
    }

pub loop-rest-preserved : goal.loop-rest-preserved
loop-rest-preserved c =
    let rows = c.args.rows.now in
    let rest = c.loop-rest.rest in
    let row : Row = c.index-rows-rest.result in
    let h : NetworkEntry = settled (network_in row) in
    let later = map (λ r. settled (network_in r)) (drop rest rows) in
    let whole = c.name.view_is ∙ c.in_ok-name.ensures.value in
    let cut : drop (rest - 1) rows ≡ row ∷ drop rest rows = step_back rows rest row c.loop-rest-test.true c.loop-rest.invariant.within c.index-rows-rest.is in
    record {
      within = omega arith;
      there =
          c.in_ok-put.ensures.put
          ∙ ap₂ (λ q n. put_entry q n c.loop-rest.networks) (ap {A = NetworkEntry} (λ x. x.name) whole) (ap {A = NetworkEntry} (λ x. x.network) whole)
          ∙ ap (put_entry h.name h.network) c.loop-rest.invariant.there
          ∙ one_by_name h later
          ∙ ap (λ (rs : List Row). by_name (map (λ r. settled (network_in r)) rs)) (sym cut);
    }

pub returns-in_err-name-clause-only : goal.returns-in_err-name-clause-only
returns-in_err-name-clause-only c =
    let rows = c.args.rows.now in
    let row : Row = c.index-rows-rest.result in
    let low : c.loop-rest.rest - 1 < length rows = omega (arith, c.loop-rest-test.true, c.loop-rest.invariant.within) in
    handed (λ why. IsStore why → AreOf IsKeptNetwork stored_network rows → ⊥) c.from_residual.result c.in_err-name.field-0.0 c.from_residual.ensures.1
    (λ is all. let it = all row (has_at rows (c.loop-rest.rest - 1) row low c.index-rows-rest.is) in c.in_err-name.ensures.only is it.0 it.1 it.2)
