use Rattle.std.proofs.Common.{rules, ◌≡◌, ◌<◌, true, nat_eq, sym, ap, ◌∙◌, arith}
use Rattle.std.specs.HashSet.{contains}
use Rattle.sqlite.specs.Held.{state}
use Rattle.wgr_columns.specs.Decode.{tables_of}
use Rattle.wgr_rows.specs.HeldRows.{is_passed_over, staying, rows_to_come}
use Rattle.wgr_rows.specs.Left.{leaves_on}
use Rattle.std.proofs.Math.Logic.{∥∥₁_map}
use Rattle.wgr_rows.proofs.Coming.{first_given, passed_over}
use Rattle.wgr_rows.proofs.holds.HoldRowsHolds.next_hold.Goals as goal

pub returns-then-not-is_passed_over-clause-was_honest : goal.returns-then-not-is_passed_over-clause-was_honest
returns-then-not-is_passed_over-clause-was_honest g c good = (c.loop-span.invariant.6 (c.in_ok-span.ensures.was_good good)).0

pub returns-clause-was_honest : goal.returns-clause-was_honest
returns-clause-was_honest g c good = (c.loop-span.invariant.6 (c.in_ok-span.ensures.was_good good)).0

pub returns-then-not-is_passed_over-clause-keeps : goal.returns-then-not-is_passed_over-clause-keeps
returns-then-not-is_passed_over-clause-keeps g c =
    let old = c.args.self.now in
    let mid = c.loop-span.self in
    let new = c.next_row.new.self in (
      c.next_row.ensures.same_rows ∙ c.loop-span.invariant.0,
      c.next_row.ensures.same_reference ∙ c.loop-span.invariant.1,
      leaves_on g.S.Store old.rows.now.conn.now mid.rows.now.conn.now new.rows.now.conn.now old.network old.pool old.at mid.network mid.pool mid.at new.network new.pool new.at c.loop-span.invariant.2
          (c.next_row.ensures.settings.0, c.next_row.ensures.settings.1, c.next_row.ensures.stays, c.next_row.ensures.blames),
    )

pub returns-clause-keeps : goal.returns-clause-keeps
returns-clause-keeps g c =
    let old = c.args.self.now in
    let mid = c.loop-span.self in
    let new = c.next_row.new.self in (
      c.next_row.ensures.same_rows ∙ c.loop-span.invariant.0,
      c.next_row.ensures.same_reference ∙ c.loop-span.invariant.1,
      leaves_on g.S.Store old.rows.now.conn.now mid.rows.now.conn.now new.rows.now.conn.now old.network old.pool old.at mid.network mid.pool mid.at new.network new.pool new.at c.loop-span.invariant.2
          (c.next_row.ensures.settings.0, c.next_row.ensures.settings.1, c.next_row.ensures.stays, c.next_row.ensures.blames),
    )

pub returns-in_err-span-clause-keeps : goal.returns-in_err-span-clause-keeps
returns-in_err-span-clause-keeps g c =
    let old = c.args.self.now in
    let mid = c.loop-span.self in
    let new = c.next_row.new.self in (
      c.next_row.ensures.same_rows ∙ c.loop-span.invariant.0,
      c.next_row.ensures.same_reference ∙ c.loop-span.invariant.1,
      leaves_on g.S.Store old.rows.now.conn.now mid.rows.now.conn.now new.rows.now.conn.now old.network old.pool old.at mid.network mid.pool mid.at new.network new.pool new.at c.loop-span.invariant.2
          (c.next_row.ensures.settings.0, c.next_row.ensures.settings.1, c.next_row.ensures.stays, c.next_row.ensures.blames),
    )

pub loop-span-preserved : goal.loop-span-preserved
loop-span-preserved g c =
    let old = c.args.self.now in
    let mid = c.loop-span.self in
    let new = c.next_row.new.self in
    let falls : mid.taken < new.taken = rw c.in-Some-2.is at c.in_ok-span.ensures.falls in (
      c.next_row.ensures.same_rows ∙ c.loop-span.invariant.0,
      c.next_row.ensures.same_reference ∙ c.loop-span.invariant.1,
      leaves_on g.S.Store old.rows.now.conn.now mid.rows.now.conn.now new.rows.now.conn.now old.network old.pool old.at mid.network mid.pool mid.at new.network new.pool new.at c.loop-span.invariant.2
          (c.next_row.ensures.settings.0, c.next_row.ensures.settings.1, c.next_row.ensures.stays, c.next_row.ensures.blames),
      c.next_row.ensures.settings.4 ∙ c.loop-span.invariant.3,
      omega (arith, c.loop-span.invariant.4, falls),
      omega (arith, c.loop-span.invariant.5, c.next_row.ensures.reached),
      (λ good.
          let it = c.loop-span.invariant.6 (c.in_ok-span.ensures.was_good good) in
          let took = rw c.in-Some-2.is at (c.in_ok-span.ensures.first good) in
          let here : is_passed_over (contains nat_eq mid.expired.now) c.in-Some-2.number ≡ true = search rules in
          (it.0, it.1 ∙ passed_over (contains nat_eq mid.expired.now) _ _ _ took here ∙ ap (λ e. staying (contains nat_eq e) (rows_to_come new.shows_peers new.at (tables_of (state g.S.Store new.rows.now.conn.now).now) new.network new.pool new.start.number new.taken)) (sym c.next_row.ensures.settings.4))),
      c.next_row.ensures.settings.3 ∙ c.loop-span.invariant.7,
    )

pub invariant_of-self : goal.invariant_of-self
invariant_of-self g c =
    let self = c.args.self.now in
    record {
      in_range = self.in_range;
      told = ∥∥₁_map self.told (λ tells running good.
          first_given g.S.Store self.rows.now.conn.now self.shows_peers self.network self.pool self.start.number self.taken self.first self.last c.in-Some.first c.in-Some.is (tells running good));
    }
