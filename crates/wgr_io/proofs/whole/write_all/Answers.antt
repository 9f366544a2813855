use Rattle.std.proofs.Common.{ℕ, ◌+◌, ◌-◌, ◌≡◌, ◌∙◌, List, Option, None, Some, take, drop, length, arith, append_assoc}
use Rattle.std.specs.Io.KnownBytes.{Appends}
use Rattle.std.proofs.Math.Seq.{take-add}
use Rattle.std.proofs.lemmas.List.{length-drop, take_all}
use Rattle.wgr_io.proofs.whole.write_all.Goals as goal

-- the first bytes, and then the next ones
more : (old middle new : Option (List ℕ)) (bytes : List ℕ) (sent count : ℕ) → Appends old middle (take sent bytes)
    → Appends middle new (take count (drop sent bytes)) → Appends old new (take (sent + count) bytes)
more None middle new bytes sent count first second = tt
more (Some x) None new bytes sent count first second = absurd first
more (Some x) (Some y) None bytes sent count first second = absurd second
more (Some x) (Some y) (Some z) bytes sent count first second =
    rw (second, first, take-add sent count bytes) (append_assoc x (take sent bytes) (take count (drop sent bytes)))

pub loop-sent-preserved : goal.loop-sent-preserved
loop-sent-preserved g c =
    let bytes : List ℕ = c.args.bytes.now in
    let sent : ℕ = c.loop-sent.sent in
    let rest : take (length bytes - sent) (drop sent bytes) ≡ drop sent bytes =
    take_all (length bytes - sent) (drop sent bytes) (omega (arith, length-drop sent bytes)) in
    let within = rw rest at c.in-Ok.ensures.within in
    let wrote = rw rest at c.in-Ok.ensures.bytes in
    record {
      within = omega (arith, within, length-drop sent bytes);
      appended = more (g.W.Write.contents c.args.out.now) (g.W.Write.contents c.loop-sent.out) _ bytes sent c.in-Ok.count c.loop-sent.invariant.appended wrote;
      sound = c.in-Ok.ensures.marked ∙ c.loop-sent.invariant.sound;
    }
