use Rattle.std.proofs.Common.{◌≡◌, ◌∙◌, ap, ap₂, nat_eq, subst, sym}
use Rattle.std.specs.List.{IsDistinct}
use Rattle.std.specs.Map.{keys_of, remove_entry}
use Rattle.wgr_core.specs.declared.form.Form.TheVariants.{Wg}
use Rattle.wgr_register.specs.Cached.{AreCurrent, Cached, file_key, files_of}
use Rattle.wgr_register.proofs.CachedLemmas.{dropped_current}
use Rattle.wgr_register.proofs.files.drop_files.Goals as goal

pub returns : goal.returns
returns c t others =
    let files = files_of c.args.files.now in
    let short : files_of c.take_file-short.new.files ≡ remove_entry (nat_eq (file_key c.args.id Wg)) files = c.take_file-short.ensures.rest ∙ ap (λ k. remove_entry (nat_eq k) files) c.file_key.ensures in
    subst (λ (l : Cached). AreCurrent l t) (sym (c.take_file-long.ensures.rest ∙ ap₂ (λ k (l : Cached). remove_entry (nat_eq k) l) c.file_key-2.ensures short))
    (dropped_current c.args.id files t c.take_file-short.ensures.distinct (subst (λ (l : Cached). IsDistinct nat_eq (keys_of l)) short c.take_file-long.ensures.distinct) others)
