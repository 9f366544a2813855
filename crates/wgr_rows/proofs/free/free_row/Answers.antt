use Rattle.std.proofs.Common.{rules, ◌≡◌, ◌≤◌, ◌⊎◌, ◌↔◌, None, ℕ, Bool, true, false, not, List, [], ◌∷◌, length, nat_eq, IsTrue, IfErr, refl, sym, ap, subst, ◌∙◌, arith, true≢false}
use Rattle.std.specs.HashSet.{HashSet, contains, hash_set_len}
use Rattle.std.specs.List.{list_any}
use Rattle.sqlite.specs.Given.{HasBegun}
use Rattle.sqlite.specs.Held.{state}
use Rattle.sqlite.specs.State.{FailsToQuery, HasCleanDisk}
use Rattle.wgr_text.specs.Prefix.{AddrValue, PrefixValue}
use Rattle.wgr_sql.specs.Causes.{HasCause}
use Rattle.wgr_sql.proofs.ResultLemmas.{if_ok}
use Rattle.wgr_core.specs.Network.{live_at}
use Rattle.wgr_model.specs.Rows.{network_entry_of}
use Rattle.wgr_model.proofs.RuleLemmas.{rules as rules_of}
use Rattle.wgr_columns.specs.Decode.{tables_of}
use Rattle.wgr_tables.specs.Standing.{OnlyReads}
use Rattle.wgr_rows.specs.HeldRows.{below, hold_params, holds_text}
use Rattle.wgr_rows.specs.Telling.{IsToldTo}
use Rattle.wgr_rows.specs.Staying.{stays_on}
use Rattle.wgr_rows.proofs.Coming.{holds_moved, number_low, told_first}
use Rattle.wgr_rows.proofs.FreeLemmas.{below_begins, begun_stays, failed_reads, floor_from, found_in, params_are, shown_sound, stands_good, stands_sound, stays_reads, stays_stands}
use Rattle.wgr_rows.proofs.HeldLemmas.{lowest_at}
use Rattle.wgr_rows.proofs.SelectLemmas.{begun}
use Rattle.wgr_rows.proofs.StopLemmas.{begin_cause}
use Rattle.wgr_checks.proofs.WalkCauses.{walk_cause}
use Rattle.wgr_rows.proofs.free.free_row.Goals as goal

-- a set without elements has none
none_in : {H : Type 0} (s : HashSet ℕ H) (empty : Bool) → IsTrue empty ↔ (hash_set_len s ≡ 0) → not empty ≡ false → (i : ℕ) → contains nat_eq s i ≡ false
none_in s true is e i = none_among s.keys i (is.0 refl)
  where
    none_among : (keys : List ℕ) (i : ℕ) → length keys ≡ 0 → list_any (nat_eq i) keys ≡ false
    none_among [] i e = refl
    none_among (k ∷ keys) i e = absurd (omega (arith, e))
none_in s false is e i = absurd (true≢false e)

pub returns-in-Err-clause-reads : goal.returns-in-Err-clause-reads
returns-in-Err-clause-reads g c =
    let old = c.args.conn.now in
    let new = c.query.follows.lender-at-none in
    let held = rw (c.in-Err.is, c.holds_text.ensures) at c.query.follows.holds-at-none in
    let yes : IsTrue c.is_autocommit-settled.result = rw (c.is_autocommit-settled.ensures.value, c.requires.idle) in
    failed_reads g.S.Store old (not c.is_empty-shows_peers.result) new _ (c.is_autocommit-settled.ensures.settled yes) held.survives (held.mode c.requires.idle) (λ clean. (c.in-Err.error, held.err clean))

pub lowest_in-requires : goal.lowest_in-requires
lowest_in-requires g c = record {
  told = λ _ good.
      let shows_peers = not c.is_empty-shows_peers.result in
      let mid = c.in-Ok.rows.conn.now in
      let p = c.prefix-prefix.result in
      let start = c.start_at-start.result in
      let started = rw (c.holds_text.ensures, c.number_value.ensures, c.family_value.ensures, c.family.ensures.value, c.bytes_of-first.ensures, c.number.ensures.value, c.bytes_of-last.ensures, c.number-2.ensures.value, c.number_value-2.ensures, c.from-length.ensures, c.length.ensures.value) at (c.in-Ok.ensures.begun good.0) in
      let here = subst (λ params. HasBegun g.S.Store (holds_text shows_peers) params c.args.conn.now mid) (params_are c.args.network p start.number c.span-span.result.lo c.span-span.result.hi c.span-span.ensures.ends) started in
      subst (λ (q : PrefixValue). IsToldTo g.S.Store mid shows_peers c.args.network q start.number 0 (below q start) None) c.prefix-prefix.ensures.value
      (told_first g.S.Store mid shows_peers c.args.network p start.number c.rules_hold.ensures.prefix c.rules_hold.ensures.address (number_low start c.number.ensures.fits)
      (subst (λ (a : AddrValue). a.number ≤ start.number) c.span-span.ensures.ends.first c.start_at-start.ensures.from) (below p start) (below_begins p start)
      (begun shows_peers g.S.Store (hold_params c.args.network p start.number) c.args.conn.now mid here).0 good);
}

pub returns-clause-reads : goal.returns-clause-reads
returns-clause-reads g c =
    let shows_peers = not c.is_empty-shows_peers.result in
    let old = c.args.conn.now in
    let mid = c.in-Ok.rows.conn.now in
    let end = c.lowest_in.new.rows.conn.now in
    let same : end ≡ c.conn-2-1.given.0 = search rules in
    let yes : IsTrue c.is_autocommit-settled.result = rw (c.is_autocommit-settled.ensures.value, c.requires.idle) in
    let first = begun_stays g.S.Store shows_peers _ c.holds_text.ensures old mid _ c.in-Ok.ensures.mode c.in-Ok.ensures.survives c.in-Ok.ensures.begun in
    subst (OnlyReads g.S.Store old) same (stays_reads g.S.Store old end c.requires.idle (c.is_autocommit-settled.ensures.settled yes) (stays_on g.S.Store old mid end first c.lowest_in.ensures.stays))

pub returns-clause-found : goal.returns-clause-found
returns-clause-found g c db pending w stood is here id clean =
    let keyed = is.rows.keyed in
    let shows_peers = not c.is_empty-shows_peers.result in
    let old = c.args.conn.now in
    let mid = c.in-Ok.rows.conn.now in
    let end = c.lowest_in.new.rows.conn.now in
    let same : end ≡ c.conn-2-1.given.0 = search rules in
    let late : HasCleanDisk (state g.S.Store end) = subst (λ h. HasCleanDisk (state g.S.Store h)) (sym same) clean in
    let before : HasCleanDisk (state g.S.Store mid) = omega (arith, c.lowest_in.ensures.stays.1.clean, late) in
    let began : HasCleanDisk (state g.S.Store old) = omega (arith, c.in-Ok.ensures.survives.clean, before) in
    let p = c.prefix-prefix.result in
    let start = c.start_at-start.result in
    let started = rw (c.holds_text.ensures, c.number_value.ensures, c.family_value.ensures, c.family.ensures.value, c.bytes_of-first.ensures, c.number.ensures.value, c.bytes_of-last.ensures, c.number-2.ensures.value, c.number_value-2.ensures, c.from-length.ensures, c.length.ensures.value) at (c.in-Ok.ensures.begun before) in
    let begins = subst (λ params. HasBegun g.S.Store (holds_text shows_peers) params old mid) (params_are c.args.network p start.number c.span-span.result.lo c.span-span.result.hi c.span-span.ensures.ends) started in
    let rests = (begun shows_peers g.S.Store _ old mid begins).1.0 in
    let shows : (state g.S.Store mid).now ≡ db = rests.now_is ∙ stood.shows began rests.was_open in
    let yes : IsTrue c.is_autocommit-settled.result = rw (c.is_autocommit-settled.ensures.value, c.requires.idle) in
    let first = begun_stays g.S.Store shows_peers _ c.holds_text.ensures old mid _ c.in-Ok.ensures.mode c.in-Ok.ensures.survives c.in-Ok.ensures.begun in
    let stood' = stays_stands g.S.Store old db pending stood end (c.is_autocommit-settled.ensures.settled yes) (stays_on g.S.Store old mid end first c.lowest_in.ensures.stays) in
    let good = stands_good g.S.Store end db pending stood' keyed late in
    let found = found_in shows_peers c.args.pool.now start (contains nat_eq c.args.expired.now) (state g.S.Store mid).now db c.args.network c.lowest_in.result shows (c.lowest_in.ensures.lowest good) in
    let stood_mid = stays_stands g.S.Store old db pending stood mid (c.is_autocommit-settled.ensures.settled yes) first in
    let moved = holds_moved g.S.Store mid shows_peers c.args.network p start.number c.rules_hold.ensures.prefix c.rules_hold.ensures.address (number_low start c.number.ensures.fits) (begun shows_peers g.S.Store (hold_params c.args.network p start.number) old mid begins).0 (stands_good g.S.Store mid db pending stood_mid keyed before) in
    let begins_at = c.span-span.ensures.ends.first in
    let none = none_in c.args.expired.now c.is_empty-shows_peers.result c.is_empty-shows_peers.ensures in
    let same_family = c.start_at-start.ensures.family ∙ ap (λ (a : AddrValue). a.family) begins_at in
    let from = subst (λ (a : AddrValue). a.number ≤ start.number) begins_at c.start_at-start.ensures.from in
    let one = subst (λ (a : AddrValue). (start.number ≡ a.number) ⊎ (start.number ≡ c.args.floor)) begins_at c.start_at-start.ensures.one in
    if_ok c.lowest_in.result _ _ (λ o m now pool tells floor.
    let n = (network_entry_of (tables_of db) w).network in
    let starts = subst (λ (q : PrefixValue). (start.number ≡ q.address.number) ⊎ (start.number ≡ c.args.floor)) (c.prefix-prefix.ensures.value ∙ pool) one in
    lowest_at shows_peers (contains nat_eq c.args.expired.now) none (state g.S.Store mid).now db shows c.args.network p c.args.pool.now c.prefix-prefix.ensures.value
    w id (sym pool) is here now tells start same_family from (floor_from (live_at n now) (rules_of (tables_of db) is w here).pool start.number c.args.floor starts floor) moved o m) found

pub returns-in-Err-clause-cause : goal.returns-in-Err-clause-cause
returns-in-Err-clause-cause g c db pending w stood is here id pool =
    let old = c.args.conn.now in
    let new = c.query.follows.lender-at-none in
    let p = c.prefix-prefix.result in
    let start = c.start_at-start.result in
    let held = rw (c.in-Err.is, c.holds_text.ensures, c.number_value.ensures, c.family_value.ensures, c.family.ensures.value, c.bytes_of-first.ensures, c.number.ensures.value, c.bytes_of-last.ensures, c.number-2.ensures.value, c.number_value-2.ensures, c.from-length.ensures, c.length.ensures.value) at c.query.follows.holds-at-none in
    let params = params_are c.args.network p start.number c.span-span.result.lo c.span-span.result.hi c.span-span.ensures.ends in
    let yes : IsTrue c.is_autocommit-settled.result = rw (c.is_autocommit-settled.ensures.value, c.requires.idle) in
    begin_cause (not c.is_empty-shows_peers.result) c.args.network p start.number (state g.S.Store old) (state g.S.Store new) c.in-Err.error c.fault_of.result c.fault_of.ensures.memory
    (λ clean. stands_sound g.S.Store old db pending stood c.args.network p w is here id (sym pool ∙ sym c.prefix-prefix.ensures.value) (c.is_autocommit-settled.ensures.settled yes) (omega (arith, held.survives.clean, clean)))
    (λ clean. subst (λ values. FailsToQuery (holds_text (not c.is_empty-shows_peers.result)) values (state g.S.Store old) (state g.S.Store new) c.in-Err.error) params (held.err clean))

pub returns-clause-cause : goal.returns-clause-cause
returns-clause-cause g c db pending w stood is here id pool =
    let shows_peers = not c.is_empty-shows_peers.result in
    let old = c.args.conn.now in
    let mid = c.in-Ok.rows.conn.now in
    let end = c.lowest_in.new.rows.conn.now in
    let same : end ≡ c.conn-2-1.given.0 = search rules in
    let yes : IsTrue c.is_autocommit-settled.result = rw (c.is_autocommit-settled.ensures.value, c.requires.idle) in
    let first = begun_stays g.S.Store shows_peers _ c.holds_text.ensures old mid _ c.in-Ok.ensures.mode c.in-Ok.ensures.survives c.in-Ok.ensures.begun in
    subst (λ h. IfErr c.lowest_in.result (HasCause (state g.S.Store old) (state g.S.Store h))) same
    (walk_cause (state g.S.Store old) (state g.S.Store mid) (state g.S.Store end) first.1 c.lowest_in.ensures.stays.1 c.lowest_in.result (c.lowest_in.ensures.cause (λ late.
    let before : HasCleanDisk (state g.S.Store mid) = omega (arith, c.lowest_in.ensures.stays.1.clean, late) in
    let began : HasCleanDisk (state g.S.Store old) = omega (arith, c.in-Ok.ensures.survives.clean, before) in
    let sound = stands_sound g.S.Store old db pending stood c.args.network c.args.pool.now w is here id (sym pool) (c.is_autocommit-settled.ensures.settled yes) began in
    shown_sound c.args.network c.args.pool.now (state g.S.Store old) (state g.S.Store mid) (begun shows_peers g.S.Store _ old mid (rw c.holds_text.ensures at (c.in-Ok.ensures.begun before))).1 sound)))
