use Rattle.std.proofs.Common.{subst, sym}
use Rattle.wgr_register.specs.Loaded.{AreFormed, entries_of}
use Rattle.wgr_register.proofs.LoadedLemmas.{formed_others, rest_formed}
use Rattle.wgr_register.proofs.memory.Memory.take.Goals as goal

pub returns-clause-rest : goal.returns-clause-rest
returns-clause-rest c t is =
    let networks = entries_of c.args.self.now.networks in
    record {
      networks = subst (λ l. AreFormed l t) (sym c.take.ensures.rest) (rest_formed c.args.id networks t c.take.ensures.distinct (formed_others c.args.id networks t is.networks));
      files = is.files;
      outlines = is.outlines;
    }
