-- Who owns an address, by the prefixes of the live network that the rows form.
use Rattle.std.proofs.Common.{◌≡◌, ◌+◌, ◌-◌, ◌≤◌, ℕ, Some, None, sym, subst, arith}
use Rattle.wgr_text.specs.Prefix.{AddrValue, mask, width}
use Rattle.wgr_core.specs.Network.{IsNetwork, NetworkValue, live_at}
use Rattle.wgr_core.specs.Owner.{allowed, owner_of}
use Rattle.wgr_core.proofs.LiveLemmas.{live_is_network}
use Rattle.wgr_model.specs.Laws.{Has}
use Rattle.wgr_model.specs.RowLaws.{AreConsistent}
use Rattle.wgr_model.specs.Rows.{NetworkRow, Tables, network_entry_of}
use Rattle.wgr_model.proofs.RuleLemmas.{rules}
use Rattle.wgr_rows.specs.Holder.{prefix_holder}
use Rattle.wgr_rows.proofs.MatchLemmas.{HasNoneFrom, no_owner, none_here, none_yet, owner_here}

module _ (t : Tables) (is : AreConsistent t) (w : NetworkRow) (hw : Has t.networks w) (now : ℕ) (a : AddrValue) where
  abbrev live : NetworkValue
  live = live_at (network_entry_of t w).network now

  kept : IsNetwork live
  kept = live_is_network (network_entry_of t w).network now (rules t is w hw)

  pub begins : (top : ℕ) → top ≡ width a.family → HasNoneFrom (allowed live) a (top + 1)
  begins top is_top = subst (λ m. HasNoneFrom (allowed live) a (m + 1)) (sym is_top) (none_yet live kept a)

  next : (length : ℕ) → 1 ≤ length → HasNoneFrom (allowed live) a length → HasNoneFrom (allowed live) a (length - 1 + 1)
  next length some none = let same : length ≡ length - 1 + 1 = omega (arith, some) in subst (HasNoneFrom (allowed live) a) same none

  pub goes_on : (length : ℕ) → 1 ≤ length → HasNoneFrom (allowed live) a length → None ≡ prefix_holder live (mask a (length - 1)) → HasNoneFrom (allowed live) a (length - 1)
  goes_on length some none out = none_here live kept a (length - 1) (next length some none) (sym out)

  pub found_here : (length : ℕ) → 1 ≤ length → HasNoneFrom (allowed live) a length → (number : ℕ) → Some number ≡ prefix_holder live (mask a (length - 1)) → Some number ≡ owner_of live a
  found_here length some none number led = sym (owner_here live kept a (length - 1) number (next length some none) (sym led))

  pub nobodys : (length : ℕ) → length ≡ 0 → HasNoneFrom (allowed live) a length → None ≡ owner_of live a
  nobodys length zero none = sym (no_owner live kept a (subst (HasNoneFrom (allowed live) a) zero none))
