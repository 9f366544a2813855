use Rattle.std.proofs.Common.{◌≡◌, ◌<◌, ◌≤◌, ◌⊎◌, inl, ℕ, Bool, List, length, take, true, false, ap, subst, sym, ◌∙◌, arith}
use Rattle.std.proofs.lemmas.List.{take_all}
use Rattle.std.specs.Prelude.{Option, Some, None, IfNone, is_some}
use Rattle.wgr_http.specs.Head.{HasNoHead, IsRefused, MayBecomeHead}
use Rattle.wgr_http.specs.Reading.{IsDecided}
use Rattle.wgr_http.proofs.Deciding.{no_head_decides, refused_decides}
use Rattle.wgr_http.proofs.InTime.{read_so_far}
use Rattle.wgr_http.proofs.Refused.{refused_none}
use Rattle.wgr_http.proofs.Undecided.{no_head_undecided}
use Rattle.wgr_http.proofs.reading.read_head.Goals as goal

-- a short message without a head, which may still become one
unfinished : (front front2 message : List ℕ) (found : Option ℕ) (may : Bool) → IfNone found (HasNoHead front) → false ≡ is_some found → front ≡ message
    → (may ≡ true → MayBecomeHead (take 8192 front2)) → true ≡ may → front2 ≡ message → length message ≤ 8192 → ¬ (IsDecided message)
unfinished front front2 message None may none is same becomes open_yet same2 short =
    let whole : take 8192 front2 ≡ message = ap (take 8192) same2 ∙ take_all 8192 message short in
    no_head_undecided message (subst HasNoHead same none) (subst MayBecomeHead whole (becomes (sym open_yet))) short
unfinished front front2 message (Some n) may none is same becomes open_yet same2 short = cc

pub returns-then-is_some-clause-in_time : goal.returns-then-is_some-clause-in_time
returns-then-is_some-clause-in_time g c start on =
    read_so_far start (g.R.Read.pieces c.loop-message.input) c.loop-message.message.items (c.loop-message.invariant.on start on)

pub returns-in_err-read_some-clause-in_time : goal.returns-in_err-read_some-clause-in_time
returns-in_err-read_some-clause-in_time g c start on =
    c.read_some.ensures.in_time start (c.loop-message.invariant.on start on)
    (unfinished c.deref.result.now c.deref-in-loop-message.result.now c.loop-message.message.items c.extent_of-extent.result c.may_become_head.result c.extent_of-extent.ensures.none c.if-is_some.ensures c.deref.ensures.value
    c.may_become_head.ensures.may (sym c.if-not-may_become_head.false) c.deref-in-loop-message.ensures.value (omega arith))

pub returns-then-branch-eq0-clause-in_time : goal.returns-then-branch-eq0-clause-in_time
returns-then-branch-eq0-clause-in_time g c start on =
    c.read_some.ensures.in_time start (c.loop-message.invariant.on start on)
    (unfinished c.deref.result.now c.deref-in-loop-message.result.now c.loop-message.message.items c.extent_of-extent.result c.may_become_head.result c.extent_of-extent.ensures.none c.if-is_some.ensures c.deref.ensures.value
    c.may_become_head.ensures.may (sym c.if-not-may_become_head.false) c.deref-in-loop-message.ensures.value (omega arith))

pub loop-message-preserved : goal.loop-message-preserved
loop-message-preserved g c =
    record {
      bytes = λ start took. c.in_ok-read_some.ensures.bytes start (c.loop-message.invariant.bytes start took);
      on = λ start on.
          c.in_ok-read_some.ensures.on (omega arith) start (c.loop-message.invariant.on start on)
          (unfinished c.deref.result.now c.deref-in-loop-message.result.now c.loop-message.message.items c.extent_of-extent.result c.may_become_head.result c.extent_of-extent.ensures.none c.if-is_some.ensures c.deref.ensures.value
          c.may_become_head.ensures.may (sym c.if-not-may_become_head.false) c.deref-in-loop-message.ensures.value (omega arith));
      short = omega (arith, c.in_ok-read_some.ensures.count);
      sound = c.in_ok-read_some.ensures.sound ∙ c.loop-message.invariant.sound;
      chunk = c.in_ok-read_some.ensures.chunk ∙ c.loop-message.invariant.chunk;
    }

pub returns-clause-in_time : goal.returns-clause-in_time
returns-clause-in_time g c start on =
    read_so_far start (g.R.Read.pieces c.loop-message.input) c.loop-message.message.items (c.loop-message.invariant.on start on)

pub returns-then-not-may_become_head-clause-in_time : goal.returns-then-not-may_become_head-clause-in_time
returns-then-not-may_become_head-clause-in_time g c start on =
    read_so_far start (g.R.Read.pieces c.loop-message.input) c.loop-message.message.items (c.loop-message.invariant.on start on)

pub returns-then-not-may_become_head-clause-none : goal.returns-then-not-may_become_head-clause-none
returns-then-not-may_become_head-clause-none g c =
    let never : IsRefused c.loop-message.message.items = subst IsRefused c.deref-in-loop-message.ensures.value (c.may_become_head.ensures.never c.if-not-may_become_head.true) in
    (refused_none c.loop-message.message.items never, inl (refused_decides c.loop-message.message.items never))

-- a long message without a head
too_long : (end : Type 0) (front message : List ℕ) (found : Option ℕ) → IfNone found (HasNoHead front) → front ≡ message → 8192 < length message → IfNone found (HasNoHead message × (IsDecided message ⊎ end))
too_long end front message None no_head same long =
    let still : HasNoHead message = subst HasNoHead same no_head in
    (still, inl (no_head_decides message still long))
too_long end front message (Some n) no_head same long = tt

pub returns-clause-none : goal.returns-clause-none
returns-clause-none g c =
    too_long _ c.deref-2.result.now c.loop-message.message.items c.extent_of.result c.extent_of.ensures.none c.deref-2.ensures.value (omega arith)
