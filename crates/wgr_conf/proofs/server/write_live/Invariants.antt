use Rattle.std.proofs.Common.{◌≡◌, ◌++◌, flat_map, take}
use Rattle.wgr_conf.specs.Files.{live_section}
use Rattle.wgr_conf.proofs.server.write_live.Given as goal

abbrev pub invariant-loop-view : goal.invariant-loop-view
invariant-loop-view l = l.out.items ≡ l.initial.out.items ++ flat_map (live_section l.now) (take l.view-index l.views)
