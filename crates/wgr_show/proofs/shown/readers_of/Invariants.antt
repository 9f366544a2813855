use Rattle.std.proofs.Common.{◌≡◌, filter, take}
use Rattle.wgr_show.specs.Json.{only_reads}
use Rattle.wgr_show.proofs.shown.readers_of.Given as goal

-- those of the tokens so far
abbrev pub invariant-loop-token : goal.invariant-loop-token
invariant-loop-token l = l.readers.items ≡ filter (λ t. only_reads t.now.right) (take l.token-index l.tokens)
