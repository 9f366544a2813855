use Rattle.std.proofs.Common.{◌≡◌, Option, None, Some, sym, ap, ◌∙◌, ℕ, List}
use Rattle.sqlite.specs.Held.{state}
use Rattle.wgr_text.specs.Prefix.{PrefixValue}
use Rattle.wgr_core.specs.declared.refusal.Refusal.{Refusal}
use Rattle.wgr_core.specs.Network.{is_among, live_at, lowest_free}
use Rattle.wgr_core.specs.Refusals.{address_refusal, or_full, place, unless_refused}
use Rattle.wgr_model.specs.Rows.{network_entry_of}
use Rattle.wgr_columns.specs.Decode.{tables_of}
use Rattle.wgr_sql.specs.Causes.{HasCause}
use Rattle.wgr_rows.specs.Holder.{prefix_holder}
use Rattle.wgr_core.proofs.LiveLemmas.{live_is_network}
use Rattle.wgr_model.proofs.RuleLemmas.{rules}
use Rattle.wgr_rows.proofs.ActLemmas.{cause_clean, fault_told, taken_is}
use Rattle.wgr_rows.proofs.act.place_row.Goals as goal

pub returns-in_err-holder-clause-cause : goal.returns-in_err-holder-clause-cause
returns-in_err-holder-clause-cause g c db pending w stood good here is head =
    fault_told (HasCause (state g.S.Store c.args.conn.now) (state g.S.Store c.allowed_row.new.conn)) c.from_residual.result c.in_err-holder.field-0.0 c.from_residual.ensures.1 (c.in_err-holder.ensures.cause db pending w stood good here is)

pub returns-in-Some-address_refusal-clause-found : goal.returns-in-Some-address_refusal-clause-found
returns-in-Some-address_refusal-clause-found g c db pending w stood good here is clean head over floor =
    let m = live_at (network_entry_of (tables_of db) w).network c.args.now in
    let a = c.in-Some.address in
    let led = c.in_ok-holder.ensures.found db pending w stood good here is clean ∙ ap (prefix_holder m) c.full.ensures in
    let refused = sym (c.address_refusal.ensures m (taken_is m a c.in_ok-holder.holder (live_is_network (network_entry_of (tables_of db) w).network c.args.now (rules (tables_of db) good w here)) led ∙ sym c.is_some.ensures)) ∙ c.in-Some-address_refusal.is in
    ap (place m m.pool) c.in-Some.is ∙ ap (λ (p : PrefixValue). unless_refused (address_refusal m p a) a) (sym head.pool) ∙ ap (λ (why : Option Refusal). unless_refused why a) refused

pub returns-in-None-clause-found : goal.returns-in-None-clause-found
returns-in-None-clause-found g c db pending w stood good here is clean head over floor =
    let m = live_at (network_entry_of (tables_of db) w).network c.args.now in
    let a = c.in-Some.address in
    let led = c.in_ok-holder.ensures.found db pending w stood good here is clean ∙ ap (prefix_holder m) c.full.ensures in
    let free = sym (c.address_refusal.ensures m (taken_is m a c.in_ok-holder.holder (live_is_network (network_entry_of (tables_of db) w).network c.args.now (rules (tables_of db) good w here)) led ∙ sym c.is_some.ensures)) ∙ c.in-None.is in
    ap (place m m.pool) c.in-Some.is ∙ ap (λ (p : PrefixValue). unless_refused (address_refusal m p a) a) (sym head.pool) ∙ ap (λ (why : Option Refusal). unless_refused why a) free

pub returns-in_err-address-clause-cause : goal.returns-in_err-address-clause-cause
returns-in_err-address-clause-cause g c db pending w stood good here is head =
    let old = state g.S.Store c.args.conn.now in
    let new = state g.S.Store c.free_row.new.conn in
    fault_told (HasCause old new) c.from_residual-in_err-address.result c.in_err-address.field-0.0 c.from_residual-in_err-address.ensures.1
    (cause_clean old new c.in_err-address.field-0.0 (λ clean. c.in_err-address.ensures.cause db pending w stood good here is (head clean).pool))

pub returns-in-Some-2-clause-found : goal.returns-in-Some-2-clause-found
returns-in-Some-2-clause-found g c db pending w stood good here is clean head over floor =
    let m = live_at (network_entry_of (tables_of db) w).network c.args.now in
    let lowest = c.in_ok-address.ensures.found db pending w stood good here is clean c.args.now head.pool (λ i. c.in_ok-expired.ensures i ∙ ap (λ (ns : List ℕ). is_among ns i) (c.as_slice.ensures.value ∙ over)) floor in
    let found : Some c.in-Some-2.address ≡ lowest_free m m.pool = rw c.in-Some-2.is at lowest in
    ap (place m m.pool) c.in_default.is ∙ ap or_full (sym found)

pub returns-clause-found : goal.returns-clause-found
returns-clause-found g c db pending w stood good here is clean head over floor =
    let m = live_at (network_entry_of (tables_of db) w).network c.args.now in
    let lowest = c.in_ok-address.ensures.found db pending w stood good here is clean c.args.now head.pool (λ i. c.in_ok-expired.ensures i ∙ ap (λ (ns : List ℕ). is_among ns i) (c.as_slice.ensures.value ∙ over)) floor in
    let found : None ≡ lowest_free m m.pool = rw c.in-None-2.is at lowest in
    ap (place m m.pool) c.in_default.is ∙ ap or_full (sym found)
