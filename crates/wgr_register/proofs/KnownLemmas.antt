-- What is known of networks that aren't in memory, after what a call does to it and to the rows.
use Rattle.std.proofs.Common.{◌≡◌, ℕ, false, cond, Option, Some, None, nat_eq, sym, ap, subst, ◌∙◌}
use Rattle.wgr_core.specs.Network.{IsNetwork, NetworkValue}
use Rattle.wgr_model.specs.RowLaws.{AreConsistent}
use Rattle.wgr_model.specs.Rows.{IsFormed, Tables, network_entry_of}
use Rattle.wgr_model.proofs.RuleLemmas.{rules}
use Rattle.wgr_opening.specs.Outlines.{AreOutlines}
use Rattle.wgr_opening.proofs.OutlineLemmas.{put_in}
use Rattle.wgr_outline.specs.Outline.{IsOutline}
use Rattle.wgr_outline.specs.declared.outline.Outline.{Outline}
use Rattle.wgr_register.specs.Known.{AreOtherOutlines}
use Rattle.wgr_register.proofs.AskLemmas.{one_row}

pub none_known : (t : Tables) → AreOutlines (λ _. None) t
none_known t id outline found = cc

-- ---- one is looked up, put or forgotten

pub found_outline : (t : Tables) → AreConsistent t → (known : ℕ → Option Outline) → AreOutlines known t → (id : ℕ) (outline : Outline) → known id ≡ Some outline → (n : NetworkValue) → IsFormed t id n → IsOutline outline n
found_outline t is known are id outline found n formed =
    let it = are id outline found in
    let same = one_row t is it.1.0 formed.0 it.1.1 formed.1 (it.1.2 ∙ sym formed.2) in
    subst (IsOutline outline) (it.1.3 ∙ ap (λ w. (network_entry_of t w).network) same ∙ sym formed.3) it.2

pub put_known : (known known' : ℕ → Option Outline) (t : Tables) (id : ℕ) (outline : Outline) (n : NetworkValue) → ((other : ℕ) → known' other ≡ cond (nat_eq id other) (Some outline) (known other)) → AreOtherOutlines id known t → IsFormed t id n → IsOutline outline n
    → AreOutlines known' t
put_known known known' t id outline n put others own holds =
    put_in (λ i o. (m : NetworkValue) × IsFormed t i m × IsOutline o m) known known' id (Some outline) put others
    (λ o same. let value : outline ≡ o = cc in (n, own, subst (λ x. IsOutline x n) value holds))

pub rest_known : (known known' : ℕ → Option Outline) (t : Tables) (id : ℕ) → ((other : ℕ) → known' other ≡ cond (nat_eq id other) None (known other)) → AreOtherOutlines id known t → AreOutlines known' t
rest_known known known' t id rest others = put_in (λ i o. (m : NetworkValue) × IsFormed t i m × IsOutline o m) known known' id None rest others (λ o same. cc)

-- a network that rows form keeps the rules
pub formed_rules : (t : Tables) → AreConsistent t → (id : ℕ) (n : NetworkValue) → IsFormed t id n → IsNetwork n
formed_rules t is id n formed = subst IsNetwork (sym formed.3) (rules t is formed.0 formed.1)

-- ---- the rows change, and the networks of others are formed as they were

pub outlines_after : (known : ℕ → Option Outline) (t u : Tables) → ((id : ℕ) (n : NetworkValue) → IsFormed t id n → IsFormed u id n) → AreOutlines known t → AreOutlines known u
outlines_after known t u stays are id outline found = let it = are id outline found in (it.0, stays id it.0 it.1, it.2)

pub other_outlines_after : (id : ℕ) (known : ℕ → Option Outline) (t u : Tables) → ((other : ℕ) (n : NetworkValue) → nat_eq id other ≡ false → IsFormed t other n → IsFormed u other n) → AreOutlines known t → AreOtherOutlines id known u
other_outlines_after id known t u stays are other outline off found = let it = are other outline found in (it.0, stays other it.0 off it.1, it.2)
