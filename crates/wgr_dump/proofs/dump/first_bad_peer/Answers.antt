use Rattle.std.proofs.Common.{◌≡◌, ◌+◌, suc, [], ◌∷◌, length, inl, inr, sym, ap, subst, arith}
use Rattle.wgr_dump.specs.Fields.{OneByOne}
use Rattle.wgr_dump.specs.Dump.{IsPeerLine}
use Rattle.wgr_text.specs.Lines.{lines_of}
use Rattle.wgr_dump.specs.Fault.{IsBadPeer}
use Rattle.wgr_dump.proofs.LineLemmas.{peer_is_good}
use Rattle.wgr_text.proofs.LineLemmas.{first_and_others, no_lines, some_bytes}
use Rattle.wgr_dump.proofs.MeantLemmas.{each_more}
use Rattle.wgr_dump.proofs.dump.first_bad_peer.Goals as goal

pub returns-in-Err : goal.returns-in-Err
returns-in-Err c =
    let split = first_and_others c.loop-rest.rest.now c.first_line.result.0.now c.first_line.result.1.now c.loop-rest-test.ensures c.first_line.ensures.line in
    let bad = c.in-Err.ensures.err in (
      c.loop-rest.good + 0,
      bad.0,
      omega arith,
      bad.1,
      c.loop-rest.invariant.bad 0 bad.0 (subst (λ lines. IsBadPeer lines 0 bad.0) (sym split) bad.2),
    )

pub loop-rest-preserved : goal.loop-rest-preserved
loop-rest-preserved c =
    let split = first_and_others c.loop-rest.rest.now c.first_line.result.0.now c.first_line.result.1.now c.loop-rest-test.ensures c.first_line.ensures.line in
    let good = c.in_default.ensures.ok in
    let some = some_bytes c.loop-rest.rest.now (sym c.loop-rest-test.ensures) in
    record {
      fits = elim c.first_line.ensures.shorter [
        | inl less ↦ omega (arith, less, c.loop-rest.invariant.fits)
        | inr none ↦ omega (arith, ap length none, some, c.loop-rest.invariant.fits)
      ];
      read = λ lines each. c.loop-rest.invariant.read (c.in_default.field-0 ∷ lines) (each_more IsPeerLine c.first_line.result.0.now _ _ split c.in_default.field-0 good lines each);
      bad = λ line n bad. (
          let here = c.loop-rest.invariant.bad (suc line) n (subst (λ lines. IsBadPeer lines (suc line) n) (sym split) (peer_is_good c.first_line.result.0.now c.in_default.field-0 good, bad)) in
          let place : c.loop-rest.good + suc line ≡ c.loop-rest.good + 1 + line = omega arith in
          subst (λ k. IsBadPeer (lines_of c.args.peers.now) k n) place here);
    }

pub returns : goal.returns
returns c = c.loop-rest.invariant.read [] (subst (λ lines. OneByOne IsPeerLine lines []) (sym (no_lines c.loop-rest.rest.now (sym c.loop-rest-test.ensures))) tt)
