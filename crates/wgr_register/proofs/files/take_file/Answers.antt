use Rattle.std.proofs.Common.{◌∙◌, nat_eq, subst, sym}
use Rattle.std.specs.List.{IsDistinct}
use Rattle.std.specs.Map.{keys_of}
use Rattle.wgr_register.specs.Cached.{files_of}
use Rattle.wgr_register.proofs.files.take_file.Goals as goal

pub returns-in_err-kept-clause-distinct : goal.returns-in_err-kept-clause-distinct
unfolding IsDistinct
returns-in_err-kept-clause-distinct c = subst (λ o. IsDistinct nat_eq (keys_of (files_of o))) (sym (sym c.take.ensures.value ∙ c.in_err-kept.was)) tt
