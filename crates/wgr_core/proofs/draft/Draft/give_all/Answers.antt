use Rattle.std.proofs.Common.{rules, ◌≡◌, true, false, Err, sym, ap, ◌∙◌}
use Rattle.wgr_pool.specs.PrefixTests.{full, same_prefix}
use Rattle.wgr_core.specs.Adoption.{give_all, other_prefixes}
use Rattle.wgr_core.specs.Draft.{MeetsGiven}
use Rattle.wgr_core.proofs.AdoptingLemmas.{give_goes_on, give_goes_past, give_stops}
use Rattle.wgr_core.proofs.draft.Draft.give_all.Goals as goal

pub returns-in_err-give : goal.returns-in_err-give
returns-in_err-give c =
    let p = c.prefix-item.result in
    let other : same_prefix p (full c.args.address) ≡ false = ap (same_prefix p) (sym c.full-own.ensures) ∙ sym c.is_same.ensures ∙ c.if-is_same.false in
    let whole = give_all c.args.self.now.network c.args.number (other_prefixes c.args.address c.args.allowed.now) in
    let met : MeetsGiven c.args.self.now (Err c.in_err-give.field-0.0) whole =
    give_stops c.args.self.now c.loop-prefix.self c.in_err-give.field-0.0 c.args.number c.args.address c.args.allowed.now c.loop-prefix.prefix-index p whole
    c.loop-prefix-test.true c.prefix-item.is other c.loop-prefix.invariant.left c.in_err-give.ensures in
    search rules

pub loop-prefix-preserved-then-is_same : goal.loop-prefix-preserved-then-is_same
loop-prefix-preserved-then-is_same c =
    let p = c.prefix-item.result in
    let so = c.loop-prefix.invariant in
    let own : same_prefix p (full c.args.address) ≡ true = ap (same_prefix p) (sym c.full-own.ensures) ∙ sym c.is_same.ensures ∙ c.if-is_same.true in
    record {
      left = give_goes_past c.loop-prefix.self.network c.args.number c.args.address c.args.allowed.now c.loop-prefix.prefix-index p c.loop-prefix-test.true c.prefix-item.is own ∙ so.left;
      kept = so.kept;
      stands = so.stands;
    }

pub loop-prefix-preserved : goal.loop-prefix-preserved
loop-prefix-preserved c =
    let p = c.prefix-item.result in
    let so = c.loop-prefix.invariant in
    let other : same_prefix p (full c.args.address) ≡ false = ap (same_prefix p) (sym c.full-own.ensures) ∙ sym c.is_same.ensures ∙ c.if-is_same.false in
    let on = give_goes_on c.args.self.now c.loop-prefix.self c.give.new.self c.args.number c.args.address c.args.allowed.now c.loop-prefix.prefix-index p (give_all c.args.self.now.network c.args.number (other_prefixes c.args.address c.args.allowed.now))
    c.loop-prefix-test.true c.prefix-item.is other (record { left = so.left; kept = so.kept; stands = so.stands }) c.in_ok-give.ensures in
    record { left = on.left; kept = on.kept; stands = on.stands }
