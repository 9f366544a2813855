use Rattle.std.proofs.Common.{◌≡◌, ◌++◌, take}
use Rattle.wgr_conf.specs.Files.{further}
use Rattle.wgr_conf.proofs.lines.write_further.Given as goal

abbrev pub invariant-loop-prefix : goal.invariant-loop-prefix
invariant-loop-prefix l = l.out.items ≡ l.initial.out.items ++ further (take l.prefix-index l.prefixes)
