use Rattle.std.proofs.Common.{subst, sym}
use Rattle.wgr_register.specs.Loaded.{AreFormed, entries_of}
use Rattle.wgr_register.proofs.LoadedLemmas.{rest_formed}
use Rattle.wgr_register.proofs.loaded.forget.Goals as goal

pub returns : goal.returns
returns c t others = subst (λ l. AreFormed l t) (sym c.take-gone.ensures.rest) (rest_formed c.args.id (entries_of c.args.loaded.now) t c.take-gone.ensures.distinct others)
