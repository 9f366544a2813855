use Rattle.std.proofs.Common.{ap}
use Rattle.wgr_core.specs.Change.{applied_if}
use Rattle.wgr_register.specs.Cached.{files_of}
use Rattle.wgr_register.specs.Known.{known_outline}
use Rattle.wgr_register.proofs.KnownLemmas.{other_outlines_after}
use Rattle.wgr_register.proofs.MemoryLemmas.{files_so}
use Rattle.wgr_register.proofs.memory.Memory.after.Goals as goal

pub returns : goal.returns
returns c t u n is after outlined = record {
  networks = c.forget.ensures u (λ other k off found. after.others other k off (is.networks other k found));
  files = files_so c.args.change.now c.args.id n c.args.self.now (files_of c.drop_changed.new.files) t u is after c.drop_changed.ensures.some (λ none. ap files_of (c.drop_changed.ensures.none none));
  outlines = c.note.ensures u (applied_if c.args.change.now n) (other_outlines_after c.args.id (known_outline c.args.self.now.outlines) t u after.others is.outlines) after.own outlined;
}
