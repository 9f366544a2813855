use Rattle.std.proofs.Common.{nat_eq, subst, sym}
use Rattle.lru.specs.LruCache.{put_entries}
use Rattle.wgr_register.specs.Cached.{AreCurrent, files_of}
use Rattle.wgr_register.proofs.CachedLemmas.{none_current, put_current}
use Rattle.wgr_register.proofs.files.keep_file.Goals as goal

pub returns-in_default : goal.returns-in_default
returns-in_default c t current own = subst (λ o. AreCurrent (files_of o) t) (sym c.files_or_new.ensures.none) (none_current t)

pub returns-in-Ok-put : goal.returns-in-Ok-put
returns-in-Ok-put c t current own =
    let here = subst (λ l. AreCurrent l t) (sym c.in-Ok.ensures.entries) current in
    subst (λ l. AreCurrent l t) (sym c.in-Ok-put.ensures.entries)
    (subst (λ k. AreCurrent (put_entries nat_eq c.in-Ok.kept k c.args.file) t) (sym c.file_key.ensures) (put_current c.in-Ok.kept c.args.id c.args.form c.args.file t here own))
