use Rattle.std.proofs.Common.{◌≡◌, arith, ◌++◌, ◌∷◌, [], List, append-nil, append_assoc, map, sym, ap, ◌∙◌}
use Rattle.std.proofs.lemmas.Grind.{common_steps}
use Rattle.sqlite.specs.Held.{state}
use Rattle.wgr_model.specs.Register.{NetworkEntry}
use Rattle.wgr_orders.specs.declared.census.Counted.{Counted}
use Rattle.wgr_columns.specs.Decode.{tables_of}
use Rattle.wgr_sql.specs.Causes.{HasCause}
use Rattle.wgr_sql.proofs.CauseLemmas.{cause_after, handed}
use Rattle.wgr_register.specs.Census.{with_counts}
use Rattle.wgr_tables.proofs.ReadLemmas.{reads_next}
use Rattle.wgr_register.proofs.census.all_counted.Goals as goal

pub returns-in_err-network-clause-reads : goal.returns-in_err-network-clause-reads
returns-in_err-network-clause-reads g c = reads_next c.loop-network_entry.invariant.reads c.counted.ensures.reads

pub returns-in_err-network-clause-cause : goal.returns-in_err-network-clause-cause
returns-in_err-network-clause-cause g c db pending stood =
    let old = state g.S.Store c.args.conn.now in
    let mid = state g.S.Store c.loop-network_entry.conn in
    let new = state g.S.Store c.counted.new.conn in
    let before = c.loop-network_entry.invariant in
    handed (HasCause old new) c.from_residual.result c.in_err-network.field-0.0 c.from_residual.ensures.1
    (cause_after old mid new ⊥ ⊥ (λ _. ⊥) (λ _. ⊥) before.reads.survives c.counted.ensures.reads.survives (λ none. none) c.in_err-network.field-0.0 (c.in_err-network.ensures.cause db pending (before.reads.stands db pending stood)))

pub loop-network_entry-preserved : goal.loop-network_entry-preserved
loop-network_entry-preserved g c =
    let before = c.loop-network_entry.invariant in
    let networks = c.loop-network_entry.networks.items in
    let rest = c.next.new.self.rest.items in
    record {
      reads = reads_next before.reads c.counted.ensures.reads;
      counted = λ db pending stood clean.
          let f = with_counts (tables_of db) in
          let h : NetworkEntry = c.in-Some.network_entry in
          let now : c.in_ok-network.network ≡ f h = c.in_ok-network.ensures.counted db pending (before.reads.stands db pending stood) clean in
          before.counted db pending stood (c.counted.ensures.reads.clean clean)
          ∙ ap (λ (left : List NetworkEntry). networks ++ map f left) c.in-Some.ensures.steps.0
          ∙ sym (append_assoc networks (f h ∷ []) (map f rest))
          ∙ ap (λ (made : List Counted). made ++ map f rest) (ap (λ (x : Counted). networks ++ x ∷ []) (sym {A = Counted} now) ∙ sym {A = List Counted} c.in_ok-keep.ensures.kept);
    }

pub returns-in_err-keep-clause-reads : goal.returns-in_err-keep-clause-reads
returns-in_err-keep-clause-reads g c = reads_next c.loop-network_entry.invariant.reads c.counted.ensures.reads

pub returns-clause-counted : goal.returns-clause-counted
returns-clause-counted g c db pending stood clean =
    let f = with_counts (tables_of db) in
    let networks = c.loop-network_entry.networks.items in
    let none : ◌≡◌ {A = List NetworkEntry} c.loop-network_entry.network_entry-iterator.rest.items [] = grind (arith, common_steps) in
    sym (c.loop-network_entry.invariant.counted db pending stood clean ∙ ap (λ (left : List NetworkEntry). networks ++ map f left) none ∙ append-nil networks)
