use Rattle.std.proofs.Common.{◌≡◌, ◌≤◌, ◌<◌, ◌-◌, ◌++◌, ◌∷◌, [], ◌∙◌, ℕ, List, Option, None, Some, Bor, ap, append-nil, arith, refl, drop, length, length-append, option_map, subst, sym, take}
use Rattle.std.proofs.lemmas.List.{length-drop, length-take, length-take-le}
use Rattle.std.proofs.lemmas.List.Elements.{All-push}
use Rattle.std.specs.Io.KnownBytes.{Consumes}
use Rattle.std.specs.List.{concat}
use Rattle.std.proofs.KnownBytes.{Consumes-trans}
use Rattle.wgr_io.proofs.Pieces.{AddsPieces-trans, concat_push}
use Rattle.wgr_words.specs.Line.{IsNoEnd, before_newline}
use Rattle.wgr_words.proofs.LineLemmas.{later_none, line_found, line_of_pieces, more_front, more_pieces, no_line_at_end, no_line_in_most}
use Rattle.wgr_words.proofs.input.read_first_line.Goals as goal

pub returns-clause-line : goal.returns-clause-line
returns-clause-line g c =
    let full : length (take c.loop-len.len c.loop-len.front) ≡ 4096 = omega (arith, c.loop-len.invariant.within, c.loop-len-test.false, length-take-le c.loop-len.len c.loop-len.front (omega (arith, c.loop-len.invariant.within, c.loop-len.invariant.long))) in
    no_line_in_most (g.R.Read.remaining c.args.input.now) (g.R.Read.remaining c.loop-len.input) (take c.loop-len.len c.loop-len.front) c.loop-len.invariant.consumed full c.loop-len.invariant.none

pub returns-clause-pieces : goal.returns-clause-pieces
returns-clause-pieces g c =
    let before = c.loop-len.invariant in
    let so_far = before.pieces in
    let short : length (take c.loop-len.len c.loop-len.front) ≤ 4096 = omega (arith, before.within, length-take c.loop-len.len c.loop-len.front) in
    (so_far.0, so_far.1, (λ k lt. so_far.2 k [] (omega (arith, lt))), line_of_pieces (take c.loop-len.len c.loop-len.front) _ None short (sym before.none) so_far.3)

pub returns-in-Err-clause-pieces : goal.returns-in-Err-clause-pieces
returns-in-Err-clause-pieces g c =
    let so_far = c.loop-len.invariant.pieces in
    let all = more_pieces (g.R.Read.pieces c.args.input.now) (g.R.Read.pieces c.loop-len.input) (g.R.Read.pieces c.read.new.self) so_far.0 _ _ so_far.1 so_far.2 so_far.3 c.in-Err.ensures.piece in
    (all.0, all.1, all.2, tt)

pub returns-in-Err-to_vec-clause-pieces : goal.returns-in-Err-to_vec-clause-pieces
returns-in-Err-to_vec-clause-pieces g c =
    let so_far = c.loop-len.invariant.pieces in
    let all = more_pieces (g.R.Read.pieces c.args.input.now) (g.R.Read.pieces c.loop-len.input) (g.R.Read.pieces c.read.new.self) so_far.0 _ _ so_far.1 so_far.2 so_far.3 c.in-Ok.ensures.piece in
    (all.0, all.1, all.2, tt)

pub returns-in-Ok-eq0-clause-pieces : goal.returns-in-Ok-eq0-clause-pieces
returns-in-Ok-eq0-clause-pieces g c =
    let before = c.loop-len.invariant in
    let so_far = before.pieces in
    let front : List ℕ = take c.loop-len.len c.loop-len.front in
    let all = more_pieces (g.R.Read.pieces c.args.input.now) (g.R.Read.pieces c.loop-len.input) (g.R.Read.pieces c.read.new.self) so_far.0 _ front so_far.1 so_far.2 so_far.3 c.in-Ok-eq0.ensures.piece in
    let none : take c.in-Ok-eq0.field-0 c.read.new.buf ≡ [] = rw c.in-Ok-eq0.field-0-test refl in
    let short : length front ≤ 4096 = omega (arith, before.within, length-take c.loop-len.len c.loop-len.front) in
    (all.0, all.1, all.2, line_of_pieces front (concat all.0) None short (sym before.none) (sym (append-nil front) ∙ ap (λ (l : List ℕ). front ++ l) (sym none) ∙ all.3))

pub returns-in-Ok-to_vec-clause-pieces : goal.returns-in-Ok-to_vec-clause-pieces
returns-in-Ok-to_vec-clause-pieces g c =
    let before = c.loop-len.invariant in
    let so_far = before.pieces in
    let all = more_pieces (g.R.Read.pieces c.args.input.now) (g.R.Read.pieces c.loop-len.input) (g.R.Read.pieces c.read.new.self) so_far.0 _ _ so_far.1 so_far.2 so_far.3 c.in-Ok.ensures.piece in
    let long = length-take (4096 - c.loop-len.len) (drop c.loop-len.len c.loop-len.front) in
    let left = length-drop c.loop-len.len c.loop-len.front in
    let piece : List ℕ = take c.in-Ok.count c.read.new.buf in
    let short : length (take c.loop-len.len c.loop-len.front ++ piece) ≤ 4096 =
    omega (arith, before.within, before.long, long, left, c.read.auto.buf, c.in-Ok.ensures.within.0, length-append (take c.loop-len.len c.loop-len.front) piece, length-take c.loop-len.len c.loop-len.front, c.in-Ok.ensures.within.1) in
    let front = more_front c.loop-len.len c.in-Ok.count c.loop-len.front c.read.new.buf _ (omega (arith, before.within, before.long)) c.in-Ok.ensures.within.0 in
    let same : c.in-Ok-to_vec.line.items ≡ c.in-Some.line.now = c.in-Ok-to_vec.ensures.items_if_clones_equal (λ x y is. is) in
    let found : Some c.in-Ok-to_vec.line.items ≡ before_newline (take c.loop-len.len c.loop-len.front ++ piece) = ap (λ (l : List ℕ). Some l) same ∙ c.in-Some.ensures ∙ ap before_newline front in
    (all.0, all.1, all.2, line_of_pieces (take c.loop-len.len c.loop-len.front ++ piece) (concat all.0) (Some c.in-Ok-to_vec.line.items) short found all.3)

pub returns-in-Ok-eq0-clause-line : goal.returns-in-Ok-eq0-clause-line
returns-in-Ok-eq0-clause-line g c =
    let before = c.loop-len.invariant in
    let room : 0 < length c.read.new.buf =
    omega (arith, c.read.auto.buf, before.long, c.loop-len-test.true, length-take (4096 - c.loop-len.len) (drop c.loop-len.len c.loop-len.front), length-drop c.loop-len.len c.loop-len.front) in
    let none : take c.in-Ok-eq0.field-0 c.read.new.buf ≡ [] = rw c.in-Ok-eq0.field-0-test refl in
    let consumed = Consumes-trans (g.R.Read.remaining c.args.input.now) (g.R.Read.remaining c.loop-len.input) (g.R.Read.remaining c.read.new.self) (take c.loop-len.len c.loop-len.front) [] before.consumed
    (subst (Consumes (g.R.Read.remaining c.loop-len.input) (g.R.Read.remaining c.read.new.self)) none c.in-Ok-eq0.ensures.bytes.0) in
    let whole = subst (Consumes (g.R.Read.remaining c.args.input.now) (g.R.Read.remaining c.read.new.self)) (append-nil (take c.loop-len.len c.loop-len.front)) consumed in
    let short : length (take c.loop-len.len c.loop-len.front) ≤ 4096 = omega (arith, before.within, length-take c.loop-len.len c.loop-len.front) in
    no_line_at_end (g.R.Read.remaining c.args.input.now) (g.R.Read.remaining c.read.new.self) (take c.loop-len.len c.loop-len.front) whole
    (c.in-Ok-eq0.ensures.bytes.1 c.in-Ok-eq0.field-0-test room) short before.none

pub returns-in-Ok-to_vec-clause-line : goal.returns-in-Ok-to_vec-clause-line
returns-in-Ok-to_vec-clause-line g c =
    let before = c.loop-len.invariant in
    let long = length-take (4096 - c.loop-len.len) (drop c.loop-len.len c.loop-len.front) in
    let left = length-drop c.loop-len.len c.loop-len.front in
    let piece : List ℕ = take c.in-Ok.count c.read.new.buf in
    let consumed = Consumes-trans (g.R.Read.remaining c.args.input.now) (g.R.Read.remaining c.loop-len.input) (g.R.Read.remaining c.read.new.self) (take c.loop-len.len c.loop-len.front) piece before.consumed c.in-Ok.ensures.bytes.0 in
    let short : length (take c.loop-len.len c.loop-len.front ++ piece) ≤ 4096 =
    omega (arith, before.within, before.long, long, left, c.read.auto.buf, c.in-Ok.ensures.within.0, length-append (take c.loop-len.len c.loop-len.front) piece, length-take c.loop-len.len c.loop-len.front, c.in-Ok.ensures.within.1) in
    let front = more_front c.loop-len.len c.in-Ok.count c.loop-len.front c.read.new.buf _ (omega (arith, before.within, before.long)) c.in-Ok.ensures.within.0 in
    let same : c.in-Ok-to_vec.line.items ≡ c.in-Some.line.now = c.in-Ok-to_vec.ensures.items_if_clones_equal (λ x y is. is) in
    let found : Some c.in-Ok-to_vec.line.items ≡ before_newline (take c.loop-len.len c.loop-len.front ++ piece) = ap (λ (l : List ℕ). Some l) same ∙ c.in-Some.ensures ∙ ap before_newline front in
    line_found (g.R.Read.remaining c.args.input.now) (g.R.Read.remaining c.read.new.self) (take c.loop-len.len c.loop-len.front ++ piece) c.in-Ok-to_vec.line.items consumed short found

none_of : (o : Option (Bor (List ℕ))) (r : Option (List ℕ)) → o ≡ None → option_map (λ (line : Bor (List ℕ)). line.now) o ≡ r → r ≡ None
none_of o r none is = sym is ∙ rw none refl

pub loop-len-preserved : goal.loop-len-preserved
loop-len-preserved g c =
    let before = c.loop-len.invariant in
    let so_far = before.pieces in
    let long = length-take (4096 - c.loop-len.len) (drop c.loop-len.len c.loop-len.front) in
    let left = length-drop c.loop-len.len c.loop-len.front in
    let buf_long : length c.read.new.buf ≡ 4096 - c.loop-len.len = omega (arith, before.within, before.long, long, left, c.read.auto.buf) in
    let piece : List ℕ = take c.in-Ok.count c.read.new.buf in
    let within : c.loop-len.len ≤ length c.loop-len.front = omega (arith, before.within, before.long) in
    let tail : List ℕ = drop (4096 - c.loop-len.len) (drop c.loop-len.len c.loop-len.front) in
    let front = more_front c.loop-len.len c.in-Ok.count c.loop-len.front c.read.new.buf tail within c.in-Ok.ensures.within.0 in
    let consumed = Consumes-trans (g.R.Read.remaining c.args.input.now) (g.R.Read.remaining c.loop-len.input) (g.R.Read.remaining c.read.new.self) (take c.loop-len.len c.loop-len.front) piece before.consumed c.in-Ok.ensures.bytes.0 in
    let none = none_of c.before_newline.result _ c.in_default.is c.before_newline.ensures in
    let some : 0 < length piece = omega (arith, c.in-Ok.count-test.1, c.in-Ok.ensures.within.1) in
    let inside : before_newline piece ≡ None = later_none (take c.loop-len.len c.loop-len.front) piece before.none (sym (ap before_newline front) ∙ none) in
    record {
      within = omega (arith, before.within, buf_long, c.in-Ok.ensures.within.0);
      consumed = subst (Consumes (g.R.Read.remaining c.args.input.now) (g.R.Read.remaining c.read.new.self)) (sym front) consumed;
      long = omega (
        arith,
        before.long,
        buf_long,
        length-take-le c.loop-len.len c.loop-len.front within,
        length-drop (4096 - c.loop-len.len) (drop c.loop-len.len c.loop-len.front),
        left,
        length-append c.read.new.buf tail,
        length-append (take c.loop-len.len c.loop-len.front) (c.read.new.buf ++ tail),
      );
      none = none;
      pieces = (
        so_far.0 ++ piece ∷ [],
        AddsPieces-trans (g.R.Read.pieces c.args.input.now) (g.R.Read.pieces c.loop-len.input) (g.R.Read.pieces c.read.new.self) so_far.0 (piece ∷ []) so_far.1 c.in-Ok.ensures.piece,
        All-push IsNoEnd so_far.0 piece so_far.2 (some, inside),
        front ∙ ap (λ (l : List ℕ). l ++ piece) so_far.3 ∙ sym (concat_push so_far.0 piece),
      );
      sound = c.in-Ok.ensures.marked ∙ before.sound;
    }
