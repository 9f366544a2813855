use Rattle.std.proofs.Common.{◌≡◌, sym, ap, ◌∙◌, arith, take}
use Rattle.std.proofs.lemmas.List.{take_all}
use Rattle.std.specs.List.{list_any}
use Rattle.std.proofs.lemmas.List.Sorted.{list_any-IsPermutation}
use Rattle.wgr_text.specs.Prefix.{AddrValue}
use Rattle.wgr_pool.specs.PrefixTests.{same_address}
use Rattle.wgr_pool.proofs.address_set.AddressSet.collect.Goals as goal

pub returns : goal.returns
returns c = λ b fits.
    let q = λ (a : AddrValue). same_address a b in
    let items = c.deref-address-items.result.now in
    let whole : take c.loop-address.address-index items ≡ items = take_all c.loop-address.address-index items (omega arith) in
    let same = ap (list_any q) whole ∙ sym (list_any-IsPermutation q c.args.addresses.items items c.loop-address.invariant.0) in
    let held = c.loop-address.invariant.1 b fits in
    ((λ h. sym same ∙ held.0 h), (λ h. held.1 (same ∙ h)))
