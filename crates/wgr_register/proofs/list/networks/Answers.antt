use Rattle.std.proofs.Common.{◌≡◌, None, Some, refl, sym, ap, ◌∙◌}
use Rattle.wgr_sql.specs.declared.fault.Fault.TheVariants.{NoMemory}
use Rattle.wgr_model.specs.Steps.{Listed, Networks, tenant_of_token}
use Rattle.wgr_columns.specs.Decode.{tables_of}
use Rattle.wgr_tables.proofs.ReadLemmas.{reads_next}
use Rattle.wgr_register.specs.Given.{ShowsAnswer, OfNetworks}
use Rattle.wgr_register.specs.Listing.{seen_by}
use Rattle.wgr_register.proofs.ListLemmas.{holder_lists, nobody_lists}
use Rattle.wgr_register.proofs.LoadedLemmas.{unless_late}
use Rattle.wgr_register.proofs.StandLemmas.{ask_unread, at_read, ends_still}
use Rattle.sqlite.specs.Held.{state}
use Rattle.wgr_sql.specs.Causes.{HasCause}
use Rattle.wgr_sql.proofs.SurvivesLemmas.{survives_still}
use Rattle.wgr_register.proofs.CauseLemmas.{asked_unread, fault_handed}
use Rattle.wgr_register.proofs.list.networks.Goals as goal

pub returns-in_err-tenant-clause-ends : goal.returns-in_err-tenant-clause-ends
returns-in_err-tenant-clause-ends g c db late now at =
    ask_unread g.S.Store g.R.Render.shown _ _ db late _ _ _ _ c.from_residual.ensures.1 (c.tenant_of_token.ensures.reads.stands db) at

pub returns-in_default-clause-ends : goal.returns-in_default-clause-ends
returns-in_default-clause-ends g c db late now at = (
  at_read g.S.Store c.args.conn.now c.tenant_of_token.new.conn db late (c.tenant_of_token.ensures.reads.stands db) at,
  λ clean.
      let none : tenant_of_token (tables_of db).tokens c.args.digest.now ≡ None = sym (c.in_ok-tenant.ensures.found db at.pending at.stands clean) ∙ c.in_default.is in
      nobody_lists (tables_of db) at.consistent c.args.digest.now none,
)

pub returns-in_err-networks-clause-ends : goal.returns-in_err-networks-clause-ends
returns-in_err-networks-clause-ends g c db late now at =
    ask_unread g.S.Store g.R.Render.shown _ _ db late _ _ _ _ c.from_residual-in_err-networks.ensures.1 (λ pending stood. c.added_networks.ensures.reads.stands db pending (c.tenant_of_token.ensures.reads.stands db pending stood)) at

pub returns-in_err-text-clause-ends : goal.returns-in_err-text-clause-ends
returns-in_err-text-clause-ends g c db late now at =
    ask_unread g.S.Store g.R.Render.shown _ _ db late _ _ _ _ c.from_residual-in_err-text.ensures.1 (λ pending stood. c.added_networks.ensures.reads.stands db pending (c.tenant_of_token.ensures.reads.stands db pending stood)) at

pub returns-clause-ends : goal.returns-clause-ends
returns-clause-ends g c db late now at clean =
    let event = Networks c.args.digest.now in
    let mid = c.tenant_of_token.ensures.reads.stands db at.pending at.stands in
    let here = at_read g.S.Store c.args.conn.now c.added_networks.new.conn db late (λ pending stood. c.added_networks.ensures.reads.stands db pending (c.tenant_of_token.ensures.reads.stands db pending stood)) at in
    let known : tenant_of_token (tables_of db).tokens c.args.digest.now ≡ Some c.in-Some.tenant = sym (c.in_ok-tenant.ensures.found db at.pending at.stands (c.added_networks.ensures.reads.clean clean)) ∙ c.in-Some.is in
    let listed = c.as_slice.ensures.value ∙ c.in_ok-networks.ensures.listed db at.pending mid at.consistent clean in
    ends_still g.S.Store c.added_networks.new.conn db late event (ShowsAnswer g.R.Render.shown now c.in_ok-text.text.items) (Listed (seen_by (tables_of db) c.in-Some.tenant)) refl here
    (ap Some (ap (λ ns. g.R.Render.shown (OfNetworks ns)) (sym listed) ∙ sym c.in_ok-text.ensures))
    (holder_lists (tables_of db) at.consistent c.args.digest.now c.in-Some.tenant known) clean

pub returns-in_err-networks-clause-reads : goal.returns-in_err-networks-clause-reads
returns-in_err-networks-clause-reads g c = reads_next c.tenant_of_token.ensures.reads c.added_networks.ensures.reads

pub returns-in_err-text-clause-reads : goal.returns-in_err-text-clause-reads
returns-in_err-text-clause-reads g c = reads_next c.tenant_of_token.ensures.reads c.added_networks.ensures.reads

pub returns-clause-reads : goal.returns-clause-reads
returns-clause-reads g c = reads_next c.tenant_of_token.ensures.reads c.added_networks.ensures.reads

pub returns-in_err-tenant-clause-open : goal.returns-in_err-tenant-clause-open
returns-in_err-tenant-clause-open g c clean = unless_late _ _ _ c.from_residual.ensures.1

pub returns-in_err-networks-clause-open : goal.returns-in_err-networks-clause-open
returns-in_err-networks-clause-open g c clean = unless_late _ _ _ c.from_residual-in_err-networks.ensures.1

pub returns-in_err-text-clause-open : goal.returns-in_err-text-clause-open
returns-in_err-text-clause-open g c clean = unless_late _ _ _ c.from_residual-in_err-text.ensures.1

pub returns-clause-open : goal.returns-clause-open
returns-clause-open g c clean = c.in_ok-tenant.ensures.open (c.added_networks.ensures.reads.clean clean)

-- ---- why it ends by a fault

pub returns-in_err-tenant-clause-cause : goal.returns-in_err-tenant-clause-cause
returns-in_err-tenant-clause-cause g c db late at =
    asked_unread ⊥ _ _ _ _ _ c.from_residual.ensures.1 (survives_still _) c.tenant_of_token.ensures.reads.survives (c.in_err-tenant.ensures.cause db at.pending at.stands at.consistent)

pub returns-in_err-networks-clause-cause : goal.returns-in_err-networks-clause-cause
returns-in_err-networks-clause-cause g c db late at =
    let mid = c.tenant_of_token.ensures.reads.stands db at.pending at.stands in
    asked_unread ⊥ _ _ _ _ _ c.from_residual-in_err-networks.ensures.1 c.tenant_of_token.ensures.reads.survives c.added_networks.ensures.reads.survives (c.in_err-networks.ensures.cause db at.pending mid at.consistent)

pub returns-in_err-text-clause-cause : goal.returns-in_err-text-clause-cause
returns-in_err-text-clause-cause g c db late at = fault_handed (HasCause (state g.S.Store c.args.conn.now) (state g.S.Store c.added_networks.new.conn)) c.from_residual-in_err-text.result NoMemory c.from_residual-in_err-text.ensures.1 tt
