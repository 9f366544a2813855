use Rattle.std.proofs.Common.{◌≡◌, length}
use Rattle.wgr_http.specs.Token.{skip_spaces}
use Rattle.wgr_http.proofs.token.after_spaces.Given as goal

abbrev pub invariant-loop-first : goal.invariant-loop-first
invariant-loop-first l = skip_spaces l.rest ≡ skip_spaces l.fn.bytes

abbrev pub decreases-loop-first : goal.decreases-loop-first
decreases-loop-first l = length l.rest
