use Rattle.std.proofs.Common.{rules, IfSome, IfNone, slice_index_or, refl, sym, subst, inl, inr, arith}
use Rattle.std.proofs.Math.Nat.{eq-or-lt_of_le}
use Rattle.wgr_core.specs.Network.{NetworkValue}
use Rattle.wgr_columns.specs.Decode.{tables_of}
use Rattle.wgr_tables.specs.Stored.{IsStored}
use Rattle.wgr_checks.proofs.ListLemmas.{all_places, at_place}
use Rattle.wgr_opening.specs.Good.{StoresNetwork}
use Rattle.wgr_opening.specs.Outlines.{outline_in}
use Rattle.wgr_opening.proofs.OutlineLemmas.{put_stored}
use Rattle.sqlite.specs.Held.{state}
use Rattle.wgr_sql.specs.Causes.{HasCause}
use Rattle.wgr_sql.proofs.CauseLemmas.{handed, cause_after}
use Rattle.wgr_tables.proofs.ReadLemmas.{reads_next}
use Rattle.wgr_opening.proofs.stored.stored_outlines.Goals as goal

pub returns-in_err-stored-clause-reads : goal.returns-in_err-stored-clause-reads
returns-in_err-stored-clause-reads g c = reads_next c.loop-network.invariant.reads c.network_if_stored.ensures.reads

pub returns-in_default-clause-reads : goal.returns-in_default-clause-reads
returns-in_default-clause-reads g c = reads_next c.loop-network.invariant.reads c.network_if_stored.ensures.reads

pub loop-network-preserved : goal.loop-network-preserved
loop-network-preserved g c =
    let before = c.loop-network.invariant in
    let at = c.loop-network.network-index in
    let ids = c.args.networks.now in record {
      reads = reads_next before.reads c.network_if_stored.ensures.reads;
      stored = λ db pending stood clean k low. elim (eq-or-lt_of_le {n = k} {m = at} (omega (arith, low))) [
        | inl same ↦ subst (λ n. StoresNetwork (tables_of db) (slice_index_or ids n 0)) (sym same)
            (c.in-Some.stored, subst (λ o. IfSome o (λ n. IsStored (tables_of db) (slice_index_or ids at 0) n)) c.in-Some.is (c.in_ok-stored.ensures.some db pending (before.reads.stands db pending stood) clean))
        | inr below ↦ before.stored db pending stood (c.network_if_stored.ensures.reads.clean clean) k below
      ];
      outlines = λ db pending stood clean.
          put_stored (outline_in c.loop-network.outlines) (outline_in c.put.new.self) (tables_of db) (slice_index_or ids at 0) c.of.result c.in-Some.stored c.in-Ok.ensures
          (subst (λ o. IfSome o (λ n. IsStored (tables_of db) (slice_index_or ids at 0) n)) c.in-Some.is (c.in_ok-stored.ensures.some db pending (before.reads.stands db pending stood) clean)) c.of.ensures
          (before.outlines db pending stood (c.network_if_stored.ensures.reads.clean clean));
    }

pub returns-clause-answer : goal.returns-clause-answer
returns-clause-answer g c db pending stood clean = (
  (λ so. all_places (StoresNetwork (tables_of db)) c.args.networks.now 0 (λ k low. c.loop-network.invariant.stored db pending stood clean k (omega (arith, low, c.loop-network-test.false)))),
  (λ all. refl),
)

pub returns-in_default-clause-answer : goal.returns-in_default-clause-answer
returns-in_default-clause-answer g c db pending stood clean =
    let at = c.loop-network.network-index in
    let ids = c.args.networks.now in
    let none = subst (λ o. IfNone o ((n : NetworkValue) → IsStored (tables_of db) (slice_index_or ids at 0) n → ⊥)) c.in_default.is (c.in_ok-stored.ensures.none db pending (c.loop-network.invariant.reads.stands db pending stood) clean) in (
      (λ never. search rules),
      (λ all. let here = at_place (StoresNetwork (tables_of db)) ids 0 all at c.loop-network-test.true in absurd (none here.0 here.1)),
    )

pub returns-in_err-stored-clause-cause : goal.returns-in_err-stored-clause-cause
returns-in_err-stored-clause-cause g c db pending stood apart =
    let old = state g.S.Store c.args.conn.now in
    let mid = state g.S.Store c.loop-network.conn in
    let new = state g.S.Store c.network_if_stored.new.conn in
    let before = c.loop-network.invariant in
    handed (HasCause old new) c.from_residual.result c.in_err-stored.field-0.0 c.from_residual.ensures.1
    (cause_after old mid new ⊥ ⊥ (λ _. ⊥) (λ _. ⊥) before.reads.survives c.network_if_stored.ensures.reads.survives (λ none. none) c.in_err-stored.field-0.0 (c.in_err-stored.ensures.cause db pending (before.reads.stands db pending stood) apart))

pub returns-in_default-put-clause-reads : goal.returns-in_default-put-clause-reads
returns-in_default-put-clause-reads g c = reads_next c.loop-network.invariant.reads c.network_if_stored.ensures.reads
