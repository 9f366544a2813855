use Rattle.std.proofs.Common.{rules, ◌≡◌, ◌<◌, ◌+◌, ◌∷◌, [], List, Some, None, refl, sym, ap, subst, ◌∙◌, arith}
use Rattle.std.proofs.Math.Logic.{∥∥₁_elim, ∥∥₁_map}
use Rattle.std.specs.Coded.{Coded-set, coded_list, coded_option, coded×, coded_ℕ}
use Rattle.std.specs.Option.{option_copied}
use Rattle.sqlite.specs.State.{IsUnchanged}
use Rattle.sqlite.specs.Held.{state}
use Rattle.sqlite.specs.Given.{Advances, GivesOn, row_if}
use Rattle.wgr_text.specs.contracts.prefix.Span as span
use Rattle.wgr_columns.specs.Decode.{tables_of}
use Rattle.wgr_rows.specs.HeldRows.{HeldSpan, hold_params, holds_text, rows_to_come}
use Rattle.wgr_rows.specs.declared.progress.Progress.TheVariants.{Running}
use Rattle.wgr_rows.proofs.Coming.{come_as, first_is, good_back, last_was, number_low, told_next}
use Rattle.wgr_sql.specs.declared.fault.Cause.TheVariants.{Damaged}
use Rattle.wgr_sql.specs.declared.fault.Fault.TheVariants.{Store}
use Rattle.wgr_rows.specs.HeldRows.{max_holds}
use Rattle.wgr_rows.proofs.StopLemmas.{advance_cause, for_cause, limit_cause, order_cause, row_cause}
use Rattle.wgr_rows.proofs.holds.HoldRows.next_row.Goals as goal

one_proof : (xs ys : List HeldSpan) → IsProp (xs ≡ ys)
one_proof xs ys = Coded-set (coded_list (coded× span.the_row.coded (coded_option coded_ℕ))) xs ys

pub returns-in_default-get-clause-first : goal.returns-in_default-get-clause-first
returns-in_default-get-clause-first g c good =
    let shows_peers = c.args.self.now.shows_peers in
    let network = c.args.self.now.network in
    let pool = c.args.self.now.pool in
    let start = c.args.self.now.start in
    let low = number_low start c.rules_hold-2.ensures in
    let taken = c.args.self.now.taken in
    let mid = c.args.self.now.rows.now.conn.now in
    let new = c.advance.new.self.conn.now in
    let moved = c.advance.ensures.ok good.0 in
    let rested = c.advance.ensures.same good.0 in
    let advanced : Advances g.S.Store mid new (row_if c.advance.new.self.has_row new) = search (rules, moved) in
    let same : IsUnchanged (state g.S.Store mid) (state g.S.Store new) = search (rules, rested) in
    let none : row_if c.advance.new.self.has_row new ≡ None = sym c.get.ensures ∙ ap option_copied c.in_default-get.is in
    let before = good_back (state g.S.Store mid) (state g.S.Store new) c.advance.ensures.survives same good in (
      ∥∥₁_elim c.args.self.now.told (one_proof _ _) (λ tells.
          let told = tells c.in-Running.is before in
          let shown = subst (GivesOn g.S.Store (holds_text shows_peers) (hold_params network pool start.number) mid new told.given) none (advanced (holds_text shows_peers) (hold_params network pool start.number) told.given told.runs) in
          come_as shows_peers c.args.self.now.at (tables_of (state g.S.Store mid).now) network pool start.number taken [] c.in-Running.is
          (last_was g.S.Store mid new same good shows_peers network pool start.number c.rules_hold.ensures.prefix c.rules_hold.ensures.address low taken c.args.self.now.first c.args.self.now.last told shown)),
      refl,
    )

pub returns-clause-first : goal.returns-clause-first
returns-clause-first g c good =
    let shows_peers = c.args.self.now.shows_peers in
    let network = c.args.self.now.network in
    let pool = c.args.self.now.pool in
    let start = c.args.self.now.start in
    let low = number_low start c.rules_hold-2.ensures in
    let taken = c.args.self.now.taken in
    let mid = c.args.self.now.rows.now.conn.now in
    let new = c.advance.new.self.conn.now in
    let row = c.in-Some.row.now in
    let moved = c.advance.ensures.ok good.0 in
    let rested = c.advance.ensures.same good.0 in
    let advanced : Advances g.S.Store mid new (row_if c.advance.new.self.has_row new) = search (rules, moved) in
    let same : IsUnchanged (state g.S.Store mid) (state g.S.Store new) = search (rules, rested) in
    let some : row_if c.advance.new.self.has_row new ≡ Some row = sym c.get.ensures ∙ ap option_copied c.in-Some.is in
    let before = good_back (state g.S.Store mid) (state g.S.Store new) c.advance.ensures.survives same good in
    ∥∥₁_elim c.args.self.now.told (one_proof _ _) (λ tells.
    let told = tells c.in-Running.is before in
    let given = subst (GivesOn g.S.Store (holds_text shows_peers) (hold_params network pool start.number) mid new told.given) some (advanced (holds_text shows_peers) (hold_params network pool start.number) told.given told.runs) in
    come_as shows_peers c.args.self.now.at (tables_of (state g.S.Store mid).now) network pool start.number taken ((c.in-Some-hold_in.span, c.in-Some-hold_in.number) ∷ rows_to_come shows_peers Running (tables_of (state g.S.Store new).now) network pool start.number (taken + 1)) c.in-Running.is
    (first_is g.S.Store mid new same good shows_peers network pool start.number c.rules_hold.ensures.prefix c.rules_hold.ensures.address low taken c.args.self.now.first c.args.self.now.last told row (c.in-Some-hold_in.span, c.in-Some-hold_in.number) given c.in-Some-hold_in.ensures.some))

pub invariant_of-self-then-not-is_from : goal.invariant_of-self-then-not-is_from
invariant_of-self-then-not-is_from g c = record { in_range = c.args.self.now.in_range; told = ∣ (λ no. cc) ∣₁ }

pub invariant_of-self-2 : goal.invariant_of-self-2
invariant_of-self-2 g c =
    let shows_peers = c.args.self.now.shows_peers in
    let network = c.args.self.now.network in
    let pool = c.args.self.now.pool in
    let start = c.args.self.now.start in
    let low = number_low start c.rules_hold-2.ensures in
    let taken = c.args.self.now.taken in
    let mid = c.args.self.now.rows.now.conn.now in
    let new = c.advance.new.self.conn.now in
    let row = c.in-Some.row.now in
    record {
      in_range = omega (arith, c.if-self-gt-MAX_HOLDS.false);
      told = ∥∥₁_map c.args.self.now.told (λ tells running good.
          let moved = c.advance.ensures.ok good.0 in
          let rested = c.advance.ensures.same good.0 in
          let advanced : Advances g.S.Store mid new (row_if c.advance.new.self.has_row new) = search (rules, moved) in
          let same : IsUnchanged (state g.S.Store mid) (state g.S.Store new) = search (rules, rested) in
          let some : row_if c.advance.new.self.has_row new ≡ Some row = sym c.get.ensures ∙ ap option_copied c.in-Some.is in
          let before = good_back (state g.S.Store mid) (state g.S.Store new) c.advance.ensures.survives same good in
          let told = tells c.in-Running.is before in
          let given = subst (GivesOn g.S.Store (holds_text shows_peers) (hold_params network pool start.number) mid new told.given) some (advanced (holds_text shows_peers) (hold_params network pool start.number) told.given told.runs) in
          told_next g.S.Store mid new same good shows_peers network pool start.number c.rules_hold.ensures.prefix c.rules_hold.ensures.address low taken c.args.self.now.first c.args.self.now.last told row (c.in-Some-hold_in.span, c.in-Some-hold_in.number) given c.in-Some-hold_in.ensures.some);
    }

pub invariant_of-self-in-Err : goal.invariant_of-self-in-Err
invariant_of-self-in-Err g c = record { in_range = c.args.self.now.in_range; told = ∣ (λ never. cc) ∣₁ }

pub invariant_of-self-in_default-get : goal.invariant_of-self-in_default-get
invariant_of-self-in_default-get g c = record { in_range = c.args.self.now.in_range; told = ∣ (λ never. cc) ∣₁ }

pub invariant_of-self-in_default-hold_in : goal.invariant_of-self-in_default-hold_in
invariant_of-self-in_default-hold_in g c = record { in_range = c.args.self.now.in_range; told = ∣ (λ never. cc) ∣₁ }

-- ---- why it stops

pub returns-then-self-gt-MAX_HOLDS-clause-blames : goal.returns-then-self-gt-MAX_HOLDS-clause-blames
returns-then-self-gt-MAX_HOLDS-clause-blames g c =
    let self = c.args.self.now in
    let mid = self.rows.now.conn.now in
    let more : max_holds < self.taken = omega (arith, c.if-self-gt-MAX_HOLDS.true) in
    for_cause self.network self.pool (state g.S.Store mid) (state g.S.Store mid) self.at (Store Damaged)
    (limit_cause g.S.Store self.shows_peers self.network self.pool self.start.number c.rules_hold.ensures.prefix c.rules_hold.ensures.address (number_low self.start c.rules_hold-2.ensures) self.taken self.first self.last self.at c.in-Running.is mid self.told more)

pub returns-in-Err-clause-blames : goal.returns-in-Err-clause-blames
returns-in-Err-clause-blames g c =
    let self = c.args.self.now in
    let mid = self.rows.now.conn.now in
    let new = c.advance.new.self.conn.now in
    for_cause self.network self.pool (state g.S.Store mid) (state g.S.Store new) self.at c.fault_of-fault.result
    (advance_cause g.S.Store self.shows_peers self.network self.pool self.start.number c.rules_hold.ensures.prefix c.rules_hold.ensures.address (number_low self.start c.rules_hold-2.ensures) self.taken self.first self.last self.at c.in-Running.is mid self.told new c.advance.ensures.survives c.in-Err.error c.fault_of-fault.result c.fault_of-fault.ensures.memory (λ clean. rw c.in-Err.is at (c.advance.ensures.err clean)))

pub returns-in_default-hold_in-clause-blames : goal.returns-in_default-hold_in-clause-blames
returns-in_default-hold_in-clause-blames g c =
    let self = c.args.self.now in
    let mid = self.rows.now.conn.now in
    let new = c.advance.new.self.conn.now in
    let row = c.in-Some.row.now in
    let params = hold_params self.network self.pool self.start.number in
    let some : row_if c.advance.new.self.has_row new ≡ Some row = sym c.get.ensures ∙ ap option_copied c.in-Some.is in
    for_cause self.network self.pool (state g.S.Store mid) (state g.S.Store new) self.at (Store Damaged)
    (row_cause g.S.Store self.shows_peers self.network self.pool self.start.number c.rules_hold.ensures.prefix c.rules_hold.ensures.address (number_low self.start c.rules_hold-2.ensures) self.taken self.first self.last self.at c.in-Running.is mid self.told new c.advance.ensures.survives row
    (λ clean. let rested = c.advance.ensures.same clean in search (rules, rested))
    (λ clean given runs.
    let moved = c.advance.ensures.ok clean in
    let advanced : Advances g.S.Store mid new (row_if c.advance.new.self.has_row new) = search (rules, moved) in
    subst (GivesOn g.S.Store (holds_text self.shows_peers) params mid new given) some (advanced (holds_text self.shows_peers) params given runs))
    c.in_default-hold_in.ensures.none)

pub returns-then-not-is_from-clause-blames : goal.returns-then-not-is_from-clause-blames
returns-then-not-is_from-clause-blames g c =
    let self = c.args.self.now in
    let mid = self.rows.now.conn.now in
    let new = c.advance.new.self.conn.now in
    let row = c.in-Some.row.now in
    let params = hold_params self.network self.pool self.start.number in
    let hold : HeldSpan = (c.in-Some-hold_in.span, c.in-Some-hold_in.number) in
    let some : row_if c.advance.new.self.has_row new ≡ Some row = sym c.get.ensures ∙ ap option_copied c.in-Some.is in
    for_cause self.network self.pool (state g.S.Store mid) (state g.S.Store new) self.at (Store Damaged)
    (order_cause g.S.Store self.shows_peers self.network self.pool self.start.number c.rules_hold.ensures.prefix c.rules_hold.ensures.address (number_low self.start c.rules_hold-2.ensures) self.taken self.first self.last self.at c.in-Running.is mid self.told new c.advance.ensures.survives row
    (λ clean. let rested = c.advance.ensures.same clean in search (rules, rested))
    (λ clean given runs.
    let moved = c.advance.ensures.ok clean in
    let advanced : Advances g.S.Store mid new (row_if c.advance.new.self.has_row new) = search (rules, moved) in
    subst (GivesOn g.S.Store (holds_text self.shows_peers) params mid new given) some (advanced (holds_text self.shows_peers) params given runs))
    hold c.in-Some-hold_in.ensures.some (λ from. let never = c.is_from.ensures.1 from in cc))
