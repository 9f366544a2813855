use Rattle.std.proofs.Common.{◌≡◌, ◌∙◌, Some, ap, nat_eq, subst, sym}
use Rattle.std.specs.Map.{lookup}
use Rattle.wgr_register.specs.Cached.{AreCurrent, Cached, file_key, files_of}
use Rattle.wgr_register.specs.Given.{OfFile}
use Rattle.wgr_register.proofs.CachedLemmas.{rest_current}
use Rattle.wgr_register.proofs.files.kept_text.Goals as goal

pub returns-in_default-clause-current : goal.returns-in_default-clause-current
returns-in_default-clause-current g c t current =
    subst (λ (l : Cached). AreCurrent l t) (sym c.take_file.ensures.rest) (rest_current c.file_key.result (files_of c.args.files.now) t c.take_file.ensures.distinct current)

pub returns-then-not-has-clause-current : goal.returns-then-not-has-clause-current
returns-then-not-has-clause-current g c t current =
    subst (λ (l : Cached). AreCurrent l t) (sym c.take_file.ensures.rest) (rest_current c.file_key.result (files_of c.args.files.now) t c.take_file.ensures.distinct current)

pub returns-in_err-text-clause-current : goal.returns-in_err-text-clause-current
returns-in_err-text-clause-current g c t current =
    subst (λ (l : Cached). AreCurrent l t) (sym c.take_file.ensures.rest) (rest_current c.file_key.result (files_of c.args.files.now) t c.take_file.ensures.distinct current)

pub returns-clause-text : goal.returns-clause-text
returns-clause-text g c t current =
    let found : lookup (nat_eq (file_key c.args.id c.args.form)) (files_of c.args.files.now) ≡ Some c.in-Some.file = ap (λ k. lookup (nat_eq k) (files_of c.args.files.now)) (sym c.file_key.ensures) ∙ sym c.take_file.ensures.value ∙ c.in-Some.is in
    let it = current c.args.id c.args.form c.in-Some.file found in
    let within = c.has.ensures.0 c.if-not-has.false in
    (it.0, it.1, sym (c.in_ok-text.ensures ∙ ap (λ file. g.R.Render.shown (OfFile file)) (c.deref.ensures.value ∙ it.2 c.args.now within)))

pub returns-clause-current : goal.returns-clause-current
returns-clause-current g c t current =
    let found : lookup (nat_eq (file_key c.args.id c.args.form)) (files_of c.args.files.now) ≡ Some c.in-Some.file = ap (λ k. lookup (nat_eq k) (files_of c.args.files.now)) (sym c.file_key.ensures) ∙ sym c.take_file.ensures.value ∙ c.in-Some.is in
    c.keep_file.ensures t (subst (λ (l : Cached). AreCurrent l t) (sym c.take_file.ensures.rest) (rest_current c.file_key.result (files_of c.args.files.now) t c.take_file.ensures.distinct current))
    (current c.args.id c.args.form c.in-Some.file found)
