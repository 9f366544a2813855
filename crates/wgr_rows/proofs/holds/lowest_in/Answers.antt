use Rattle.std.proofs.Common.{None, Option, sym, subst, arith}
use Rattle.wgr_text.specs.declared.prefix.Span.{Span}
use Rattle.wgr_text.specs.Prefix.{PrefixValue}
use Rattle.wgr_rows.specs.HeldRows.{below}
use Rattle.wgr_rows.specs.declared.progress.Progress.TheVariants.{Running}
use Rattle.wgr_rows.specs.Telling.{Tells}
use Rattle.wgr_rows.proofs.holds.lowest_in.Goals as goal

pub invariant_of-holds : goal.invariant_of-holds
invariant_of-holds g c =
    let start = c.args.start in
    let told = subst (λ (p : PrefixValue). Tells g.S.Store c.args.rows.now.conn.now c.args.shows_peers c.args.network p start.number 0 (below p start) None Running) (sym c.prefix-prefix.ensures.value) c.requires.told in
    record {
      in_range = omega arith;
      told = ∣ subst (λ (s : Option Span). Tells g.S.Store c.args.rows.now.conn.now c.args.shows_peers c.args.network c.prefix-prefix.result start.number 0 s None Running) (sym c.below.ensures) told ∣₁;
    }
