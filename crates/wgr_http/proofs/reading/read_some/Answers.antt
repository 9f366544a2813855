use Rattle.std.proofs.Common.{◌≡◌, ◌<◌, ℕ, List, [], ◌++◌, length, take, drop, append-nil, sym, ap, subst, ◌∙◌, arith, false}
use Rattle.std.specs.Prelude.{Result, Ok, Err, is_ok, is_err, if◌then◌else◌}
use Rattle.std.proofs.lemmas.List.{length-take-le, take-append-le}
use Rattle.wgr_http.specs.Reading.{IsReadInTime, IsReadOn}
use Rattle.wgr_http.proofs.InTime.{one_read, some_read}
use Rattle.wgr_http.proofs.reading.read_some.Goals as goal

appended : {E : Type 0} (r : Result (Unit {0}) E) (new old piece : List ℕ) → new ≡ (if is_ok r then old ++ piece else old) → false ≡ is_err r → new ≡ old ++ piece
appended (Ok u) new old piece is ok = is
appended (Err e) new old piece is ok = cc

pub returns-else-is_err-2-clause-in_time : goal.returns-else-is_err-2-clause-in_time
returns-else-is_err-2-clause-in_time g c start on undecided =
    let piece : List ℕ = take c.in-Ok.count c.read.new.buf in
    let grown : c.extend_from_slice.new.self.items ≡ c.args.message.now.items ++ piece =
    appended c.extend_from_slice.result _ c.reserve.new.self.items (take c.in-Ok.count (c.read.new.buf ++ drop c.min-room.result c.args.chunk.now)) c.extend_from_slice.ensures.items c.if-is_err-2.ensures.value
    ∙ ap (λ (x : List ℕ). c.reserve.new.self.items ++ x) (take-append-le c.in-Ok.count c.read.new.buf (drop c.min-room.result c.args.chunk.now) (omega (arith, c.in-Ok.ensures.within)))
    ∙ ap (λ (x : List ℕ). x ++ piece) c.reserve.ensures.items in
    subst (IsReadInTime start (g.R.Read.pieces c.read.new.self)) (sym grown)
    (one_read start (g.R.Read.pieces c.args.input.now) (g.R.Read.pieces c.read.new.self) c.args.message.now.items piece c.in-Ok.ensures.piece on undecided)

pub returns-else-is_err-2-clause-on : goal.returns-else-is_err-2-clause-on
returns-else-is_err-2-clause-on g c some start on undecided =
    let piece : List ℕ = take c.in-Ok.count c.read.new.buf in
    let grown : c.extend_from_slice.new.self.items ≡ c.args.message.now.items ++ piece =
    appended c.extend_from_slice.result _ c.reserve.new.self.items (take c.in-Ok.count (c.read.new.buf ++ drop c.min-room.result c.args.chunk.now)) c.extend_from_slice.ensures.items c.if-is_err-2.ensures.value
    ∙ ap (λ (x : List ℕ). c.reserve.new.self.items ++ x) (take-append-le c.in-Ok.count c.read.new.buf (drop c.min-room.result c.args.chunk.now) (omega (arith, c.in-Ok.ensures.within)))
    ∙ ap (λ (x : List ℕ). x ++ piece) c.reserve.ensures.items in
    let gave : 0 < length piece = omega (arith, some, length-take-le c.in-Ok.count c.read.new.buf (omega (arith, c.in-Ok.ensures.within))) in
    subst (IsReadOn start (g.R.Read.pieces c.read.new.self)) (sym grown)
    (some_read start (g.R.Read.pieces c.args.input.now) (g.R.Read.pieces c.read.new.self) c.args.message.now.items piece c.in-Ok.ensures.piece gave on undecided)

pub returns-in-Err-clause-in_time : goal.returns-in-Err-clause-in_time
returns-in-Err-clause-in_time g c start on undecided =
    let same : c.reserve.new.self.items ≡ c.args.message.now.items ++ [] = c.reserve.ensures.items ∙ sym (append-nil c.args.message.now.items) in
    subst (IsReadInTime start (g.R.Read.pieces c.read.new.self)) (sym same)
    (one_read start (g.R.Read.pieces c.args.input.now) (g.R.Read.pieces c.read.new.self) c.args.message.now.items [] c.in-Err.ensures.piece on undecided)
