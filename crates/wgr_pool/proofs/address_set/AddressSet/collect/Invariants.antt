use Rattle.std.proofs.Common.{◌≡◌, ◌↔◌, true, take}
use Rattle.std.specs.List.{list_any}
use Rattle.std.specs.List.Sorted.{IsPermutation}
use Rattle.wgr_text.specs.Prefix.{AddrValue, IsAddr}
use Rattle.wgr_pool.specs.PrefixTests.{same_address}
use Rattle.wgr_pool.specs.Spans.{IsHeld}
use Rattle.wgr_pool.proofs.address_set.AddressSet.collect.Given as goal

abbrev pub invariant-loop-address : goal.invariant-loop-address
invariant-loop-address l = IsPermutation l.fn.addresses.items l.address-items × ((b : AddrValue) → IsAddr b → IsHeld l.set b ↔ (list_any (λ a. same_address a b) (take l.address-index l.address-items) ≡ true))
