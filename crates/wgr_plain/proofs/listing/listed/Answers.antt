use Rattle.std.proofs.Common.{◌≡◌, ◌-◌, ◌∷◌, length, drop, sym, ap, ap₂, subst, ◌∙◌, arith, eq-eqb}
use Rattle.std.proofs.lemmas.List.{nil_from_length, length-drop}
use Rattle.wgr_model.specs.Listing.{Entries, EntriesOf, put_entry}
use Rattle.wgr_model.specs.Register.{NetworkEntry}
use Rattle.wgr_model.proofs.ListingLemmas.{none_listed, one_listed, step_back}
use Rattle.wgr_plain.proofs.listing.listed.Goals as goal

pub loop-rest-init : goal.loop-rest-init
loop-rest-init c =
    let networks = c.args.networks.now in
    record {
      within = omega arith;
      listed = none_listed (drop (length networks) networks) c.args.id c.new-listed.result (nil_from_length (drop (length networks) networks) (simp (length-drop) (omega arith))) c.new-listed.ensures;
    }

pub loop-rest-preserved-in_ok-put : goal.loop-rest-preserved-in_ok-put
loop-rest-preserved-in_ok-put c =
    let hs = c.args.networks.now in
    let h : NetworkEntry = c.index-networks-rest.result in
    let rest = c.loop-rest.rest in
    let tenant : h.tenant ≡ c.args.id = sym (ap {A = NetworkEntry} (λ x. x.tenant) c.network_entry.view_is) ∙ c.if-network_entry-id.true in
    let name : c.in_ok-copy.field-0 ≡ h.name = c.in_ok-copy.ensures ∙ ap {A = NetworkEntry} (λ x. x.name) c.network_entry.view_is in
    let network : c.in_ok-network.network ≡ h.network = c.in_ok-network.ensures ∙ ap {A = NetworkEntry} (λ x. x.network) c.network_entry.view_is in
    let put : c.put.new.self ≡ put_entry h.name h.network c.loop-rest.listed = c.in_ok-put.ensures ∙ ap₂ (λ q n. put_entry q n c.loop-rest.listed) name network in
    let cut : drop (rest - 1) hs ≡ h ∷ drop rest hs = step_back hs rest h c.loop-rest-test.true c.loop-rest.invariant.within c.index-networks-rest.is in
    let more = one_listed h (drop rest hs) c.args.id c.loop-rest.listed (eq-eqb h.tenant c.args.id tenant) c.loop-rest.invariant.listed in
    record {
      within = omega arith;
      listed = subst (λ xs. EntriesOf xs c.args.id c.put.new.self) (sym cut) (subst (λ (es : Entries). EntriesOf (h ∷ drop rest hs) c.args.id es) (sym put) more);
    }
