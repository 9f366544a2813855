use Rattle.std.proofs.Common.{◌≡◌, ◌<◌, ℕ, List, [], ◌∷◌, ◌++◌, length, take, append-nil, length-append, sym, ap, subst, ◌∙◌, arith, rules}
use Rattle.std.specs.Io.KnownBytes.{Consumes}
use Rattle.std.proofs.KnownBytes.{Consumes-trans}
use Rattle.std.proofs.lemmas.List.{length-take-le}
use Rattle.std.proofs.lemmas.List.Elements.{All-push}
use Rattle.wgr_io.specs.Device.{AddsPieces}
use Rattle.wgr_io.proofs.Pieces.{AddsPieces-trans, concat_push, more_read}
use Rattle.wgr_io.proofs.whole.read_to_end.Goals as goal

pub returns-in-Ok-eq0-clause-pieces : goal.returns-in-Ok-eq0-clause-pieces
returns-in-Ok-eq0-clause-pieces g c =
    let zero : c.in-Ok-eq0.field-0 ≡ 0 = omega arith in
    let so_far = c.loop.invariant.pieces in
    let all = more_read (g.R.Read.pieces c.args.input.now) (g.R.Read.pieces c.loop.input) _ so_far.0 [] c.loop.all.items so_far.1 so_far.2 so_far.3 (subst (λ (n : ℕ). AddsPieces (g.R.Read.pieces c.loop.input) (g.R.Read.pieces c.read.new.self) (take n c.read.new.buf ∷ [])) zero c.in-Ok-eq0.ensures.piece) in
    (all.0, all.1, all.2, sym (append-nil c.loop.all.items) ∙ all.3)

pub returns-then-is_err-clause-pieces : goal.returns-then-is_err-clause-pieces
returns-then-is_err-clause-pieces g c =
    let so_far = c.loop.invariant.pieces in
    let all = more_read (g.R.Read.pieces c.args.input.now) (g.R.Read.pieces c.loop.input) _ so_far.0 _ c.loop.all.items so_far.1 so_far.2 so_far.3 c.in-Ok.ensures.piece in
    (all.0, all.1, all.2, tt)

pub returns-in-Err-clause-pieces : goal.returns-in-Err-clause-pieces
returns-in-Err-clause-pieces g c =
    let so_far = c.loop.invariant.pieces in
    let all = more_read (g.R.Read.pieces c.args.input.now) (g.R.Read.pieces c.loop.input) _ so_far.0 _ c.loop.all.items so_far.1 so_far.2 so_far.3 c.in-Err.ensures.piece in
    (all.0, all.1, all.2, tt)

pub loop-preserved : goal.loop-preserved
loop-preserved g c =
    let so_far = c.loop.invariant.pieces in
    let piece : List ℕ = take c.in-Ok.count c.read.new.buf in
    let some : 0 < length piece = omega (arith, length-take-le c.in-Ok.count c.read.new.buf (omega (arith, c.in-Ok.ensures.within))) in
    let grown : c.extend_from_slice.new.self.items ≡ c.loop.all.items ++ piece = search rules in
    record {
      consumed = subst (Consumes (g.R.Read.remaining c.args.input.now) (g.R.Read.remaining c.read.new.self)) (sym grown)
          (Consumes-trans (g.R.Read.remaining c.args.input.now) (g.R.Read.remaining c.loop.input) _ c.loop.all.items piece c.loop.invariant.consumed c.in-Ok.ensures.bytes.0);
      pieces = (
        so_far.0 ++ piece ∷ [],
        AddsPieces-trans (g.R.Read.pieces c.args.input.now) (g.R.Read.pieces c.loop.input) _ so_far.0 (piece ∷ []) so_far.1 c.in-Ok.ensures.piece,
        All-push (λ (p : List ℕ). 0 < length p) so_far.0 piece so_far.2 some,
        grown ∙ ap (λ (l : List ℕ). l ++ piece) so_far.3 ∙ sym (concat_push so_far.0 piece),
      );
      sound = c.in-Ok.ensures.marked ∙ c.loop.invariant.sound;
      counted = omega (arith, ap length grown, length-append c.loop.all.items piece);
    }
