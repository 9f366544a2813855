use Rattle.std.proofs.Common.{◌≡◌, ◌+◌, ◌≤◌, [], ◌∷◌, ◌++◌, ap, refl, sym, subst, ◌∙◌, arith}
use Rattle.wgr_service.specs.Connections.{Reports, requests_in, weight}
use Rattle.wgr_service.specs.Counts.{replies_of}
use Rattle.wgr_service.specs.declared.connections.Ending.TheVariants as ending
use Rattle.wgr_service.specs.declared.network.Door.{Door}
use Rattle.wgr_service.specs.declared.network.Door.TheVariants as door
use Rattle.wgr_service.specs.declared.report.Report.{Report}
use Rattle.wgr_service.proofs.ConnectionLemmas.{AreServedSoFar, all_served, counted_more, logged_more, logs_none, none_served, served_more, written_more, written_none}
use Rattle.wgr_service.proofs.connections.serve_connections.Goals as goal

pub loop-served-init : goal.loop-served-init
loop-served-init g c = record {
  clean = λ clean. clean;
  within = omega arith;
  so_far = ([], none_served g.S.Store c.args.office.now c.args.now, written_none (g.E.Write.failed c.args.err.now) (g.E.Write.contents c.args.err.now), logs_none (g.N.Network.log c.args.network.now), refl);
}

at_most_one : (at : Door) → weight at ≤ 1
at_most_one door.Requests = omega arith
at_most_one door.Orders = omega arith

pub loop-served-preserved : goal.loop-served-preserved
loop-served-preserved g c =
    let (outcomes, so_far, written, logged, counts) = c.loop-served.invariant.so_far in
    let (outcome, one, door, reports, line, contacts, count_now) = c.serve_next-door.ensures.served in
    let count = c.loop-served.served in
    let added = ap (λ n. count + n) (ap weight door ∙ sym c.weight-served.ensures) in
    record {
      clean = λ clean. c.loop-served.invariant.clean (c.serve_next-door.ensures.clean clean);
      within = omega (arith, c.loop-served-test.true, at_most_one c.serve_next-door.result.0, c.weight-served.ensures);
      so_far = (
        outcomes ++ outcome ∷ [],
        subst (λ n. AreServedSoFar g.S.Store c.args.office.now c.serve_next-door.new.office c.args.now n (outcomes ++ outcome ∷ [])) added
            (served_more g.S.Store c.args.office.now c.args.now c.loop-served.office c.serve_next-door.new.office count outcomes so_far outcome one),
        written_more (g.E.Write.failed c.loop-served.err) (g.E.Write.failed c.serve_next-door.new.err) (g.E.Write.contents c.args.err.now) (g.E.Write.contents c.loop-served.err) (g.E.Write.contents c.serve_next-door.new.err) outcomes outcome
            c.serve_next-door.ensures.sound written line,
        logged_more (g.N.Network.log c.args.network.now) (g.N.Network.log c.loop-served.network) (g.N.Network.log c.serve_next-door.new.network) outcomes outcome logged contacts,
        counted_more outcomes outcome (replies_of c.args.desk.now) (replies_of c.loop-served.desk) (replies_of c.serve_next-door.new.desk) counts count_now,
      );
    }

pub returns-in-Shut-clause-served : goal.returns-in-Shut-clause-served
returns-in-Shut-clause-served g c =
    let (outcomes, so_far, written, logged, counts) = c.loop-served.invariant.so_far in
    let (outcome, one, door, reports, line, contacts, count_now) = c.serve_next-door.ensures.served in
    let count = c.loop-served.served in
    let all = served_more g.S.Store c.args.office.now c.args.now c.loop-served.office c.serve_next-door.new.office count outcomes so_far outcome one in
    let within : requests_in (outcomes ++ outcome ∷ []) ≤ c.args.count = omega (arith, all.each, c.loop-served-test.true, ap weight door, at_most_one c.serve_next-door.result.0) in (
      outcomes ++ outcome ∷ [],
      all_served g.S.Store c.args.office.now c.args.now c.serve_next-door.new.office c.args.count (count + weight _) ending.Shut (outcomes ++ outcome ∷ []) c.rows_are_isolated.ensures all
          (within, (outcomes, outcome, refl, subst (λ (r : Report). Reports r outcome) c.in-Shut.is reports)),
      written_more (g.E.Write.failed c.loop-served.err) (g.E.Write.failed c.serve_next-door.new.err) (g.E.Write.contents c.args.err.now) (g.E.Write.contents c.loop-served.err) (g.E.Write.contents c.serve_next-door.new.err) outcomes outcome
          c.serve_next-door.ensures.sound written line,
      logged_more (g.N.Network.log c.args.network.now) (g.N.Network.log c.loop-served.network) (g.N.Network.log c.serve_next-door.new.network) outcomes outcome logged contacts,
      counted_more outcomes outcome (replies_of c.args.desk.now) (replies_of c.loop-served.desk) (replies_of c.serve_next-door.new.desk) counts count_now,
    )

pub returns-clause-served : goal.returns-clause-served
returns-clause-served g c =
    let (outcomes, so_far, written, logged, counts) = c.loop-served.invariant.so_far in
    let all : c.loop-served.served ≡ c.args.count = omega (arith, c.loop-served-test.false, c.loop-served.invariant.within) in (
      outcomes,
      all_served g.S.Store c.args.office.now c.args.now c.loop-served.office c.args.count c.loop-served.served ending.Served outcomes c.rows_are_isolated.ensures so_far (so_far.each ∙ all),
      written,
      logged,
      counts,
    )
