use Rattle.std.proofs.Common.{nat_eq, subst, sym}
use Rattle.lru.specs.LruCache.{put_entries}
use Rattle.wgr_register.specs.Loaded.{AreFormed, AreOthersFormed, entries_of}
use Rattle.wgr_register.proofs.LoadedLemmas.{none_formed, put_formed}
use Rattle.wgr_register.proofs.loaded.keep.Goals as goal

pub returns-in_default : goal.returns-in_default
returns-in_default c t others own = subst (λ o. AreFormed (entries_of o) t) (sym c.taken_or_new.ensures.none) (none_formed t)

pub returns-in-Ok-put : goal.returns-in-Ok-put
returns-in-Ok-put c t others own =
    let here = subst (λ l. AreOthersFormed c.args.id l t) (sym c.in-Ok.ensures.entries) others in
    subst (λ l. AreFormed l t) (sym c.in-Ok-put.ensures.entries)
    (subst (λ k. AreFormed (put_entries nat_eq c.in-Ok.networks k c.args.network) t) (sym c.from.ensures) (put_formed c.in-Ok.networks c.args.id c.args.network t here own))
