use Rattle.std.proofs.Common.{◌∙◌, nat_eq, subst, sym}
use Rattle.std.specs.List.{IsDistinct}
use Rattle.std.specs.Map.{keys_of}
use Rattle.wgr_register.specs.Loaded.{entries_of}
use Rattle.wgr_register.proofs.loaded.take.Goals as goal

pub returns-in_err-networks-clause-distinct : goal.returns-in_err-networks-clause-distinct
unfolding IsDistinct
returns-in_err-networks-clause-distinct c = subst (λ o. IsDistinct nat_eq (keys_of (entries_of o))) (sym (sym c.take.ensures.value ∙ c.in_err-networks.was)) tt
