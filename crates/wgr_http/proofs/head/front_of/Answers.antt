use Rattle.std.proofs.Common.{arith, sym}
use Rattle.std.proofs.lemmas.List.{length-take-le, take_all}
use Rattle.wgr_http.proofs.head.front_of.Goals as goal

pub slice_bounds-result-end : goal.slice_bounds-result-end
slice_bounds-result-end c = sym (length-take-le 8192 c.args.bytes.now (omega arith))

pub returns-else-bytes-gt-MAX_HEAD : goal.returns-else-bytes-gt-MAX_HEAD
returns-else-bytes-gt-MAX_HEAD c = sym (take_all 8192 c.args.bytes.now (omega arith))
