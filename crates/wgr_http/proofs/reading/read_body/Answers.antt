use Rattle.std.proofs.Common.{◌≡◌, ◌<◌, ◌++◌, ℕ, List, length, sym, subst, ap, ◌∙◌, arith, append_assoc}
use Rattle.wgr_http.specs.Extent.{HasExtent}
use Rattle.wgr_http.specs.Reading.{IsDecided}
use Rattle.wgr_http.proofs.InTime.{read_so_far}
use Rattle.wgr_http.proofs.Undecided.{extent_undecided}
use Rattle.wgr_http.proofs.reading.read_body.Goals as goal

-- a message that lacks some of the bytes that its head wants
lacks : (head message : List ℕ) (n : ℕ) → HasExtent head n → (more : List ℕ) × (message ≡ head ++ more) → length message < n → ¬ (IsDecided message)
lacks head message n has (more, is) lt =
    subst (λ (x : List ℕ). ¬ (IsDecided x)) (sym is) (extent_undecided head more n has (subst (λ (x : List ℕ). length x < n) is lt))

pub returns-in_err-read_some-clause-in_time : goal.returns-in_err-read_some-clause-in_time
returns-in_err-read_some-clause-in_time g c start on =
    c.read_some.ensures.in_time start (c.loop-message.invariant.on start on) (lacks c.args.message.now.items c.loop-message.message.items c.args.extent c.requires.head c.loop-message.invariant.grown (omega arith))

pub returns-then-branch-eq0-clause-in_time : goal.returns-then-branch-eq0-clause-in_time
returns-then-branch-eq0-clause-in_time g c start on =
    c.read_some.ensures.in_time start (c.loop-message.invariant.on start on) (lacks c.args.message.now.items c.loop-message.message.items c.args.extent c.requires.head c.loop-message.invariant.grown (omega arith))

pub loop-message-preserved : goal.loop-message-preserved
loop-message-preserved g c =
    let was = c.loop-message.invariant.grown in
    let more = c.in_ok-read_some.ensures.grown in
    record {
      bytes = λ start took. c.in_ok-read_some.ensures.bytes start (c.loop-message.invariant.bytes start took);
      on = λ start on.
          c.in_ok-read_some.ensures.on (omega arith) start (c.loop-message.invariant.on start on) (lacks c.args.message.now.items c.loop-message.message.items c.args.extent c.requires.head was (omega arith));
      grown = (was.0 ++ more.0, more.1 ∙ ap (λ (x : List ℕ). x ++ more.0) was.1 ∙ append_assoc c.args.message.now.items was.0 more.0);
      most = λ _. omega (arith, c.in_ok-read_some.ensures.count);
      sound = c.in_ok-read_some.ensures.sound ∙ c.loop-message.invariant.sound;
      chunk = c.in_ok-read_some.ensures.chunk ∙ c.loop-message.invariant.chunk;
    }

pub returns-clause-in_time : goal.returns-clause-in_time
returns-clause-in_time g c start on =
    read_so_far start (g.R.Read.pieces c.loop-message.input) c.loop-message.message.items (c.loop-message.invariant.on start on)
