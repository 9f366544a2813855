-- What is known of networks that aren't in memory.
use Rattle.std.proofs.Common.{◌≡◌, ◌↔◌, ℕ, Bool, true, false, cond, Option, Some, None, Result, Ok, Err, IfOk, IfSome, IsSome, nat_eq, eqb-true, refl, sym, ap, subst, ◌∙◌}
use Rattle.std.proofs.lemmas.List.Sorted.{IsPermutation-refl}
use Rattle.wgr_outline.specs.Outline.{IsOutline}
use Rattle.wgr_outline.specs.declared.outline.Outline.{Outline}
use Rattle.wgr_core.specs.Network.{NetworkValue}
use Rattle.wgr_model.specs.RowLaws.{AreConsistent}
use Rattle.wgr_model.specs.Rows.{IsFormed, Tables}
use Rattle.wgr_tables.specs.Loads.{IsMade}
use Rattle.wgr_tables.specs.Stored.{IsStored}
use Rattle.wgr_tables.proofs.LoadLemmas.{network_is_read}
use Rattle.wgr_sql.specs.declared.fault.Fault.{Fault}
use Rattle.wgr_opening.specs.Outlines.{AreOutlines, AreStoredOutlines}
use Rattle.wgr_opening.specs.declared.outlines.Outlines.{Outlines}

-- what holds of each entry still does, once the one of this id is another or is gone
pub put_in : (P : ℕ → Outline → Type 0) (known known' : ℕ → Option Outline) (id : ℕ) (own : Option Outline) → ((other : ℕ) → known' other ≡ cond (nat_eq id other) own (known other)) → ((other : ℕ) (o : Outline) → nat_eq id other ≡ false → known other ≡ Some o → P other o)
    → ((o : Outline) → own ≡ Some o → P id o) → (other : ℕ) (o : Outline) → known' other ≡ Some o → P other o
put_in P known known' id own put others mine other o found = go (nat_eq id other) refl where
  go : (b : Bool) → nat_eq id other ≡ b → P other o
  go true is = subst (λ i. P i o) (eqb-true id other is) (mine o (sym (ap (λ b. cond b own (known other)) is) ∙ sym (put other) ∙ found))
  go false is = others other o is (sym (ap (λ b. cond b own (known other)) is) ∙ sym (put other) ∙ found)

pub put_stored : (known known' : ℕ → Option Outline) (t : Tables) (id : ℕ) (outline : Outline) (n : NetworkValue) → ((other : ℕ) → known' other ≡ cond (nat_eq id other) (Some outline) (known other)) → IsStored t id n → IsOutline outline n → AreStoredOutlines known t
    → AreStoredOutlines known' t
put_stored known known' t id outline n put stored holds before =
    put_in (λ i o. (m : NetworkValue) × IsStored t i m × IsOutline o m) known known' id (Some outline) put (λ other o off found. before other o found)
    (λ o same. let value : outline ≡ o = cc in (n, stored, subst (λ x. IsOutline x n) value holds))

-- what consistent rows store is what they form
stored_is_formed : (t : Tables) → AreConsistent t → (id : ℕ) (n : NetworkValue) → IsStored t id n → IsFormed t id n
stored_is_formed t good id n told =
    let made : IsMade told.row n.peers n.routes n = record { value = told.value; peers = IsPermutation-refl n.peers; routes = IsPermutation-refl n.routes; rules = told.rules } in
    (told.row, told.there, told.id_is, network_is_read t told.row id told.id_is good.rows.keyed n.peers n.routes n made told.peers told.addresses told.routes)

pub outlines_formed : (known : ℕ → Option Outline) (t : Tables) → AreConsistent t → AreStoredOutlines known t → AreOutlines known t
outlines_formed known t good stored id outline found = let it = stored id outline found in (it.0, stored_is_formed t good id it.0 it.1, it.2)

-- the outlines of good rows, by two facts on what was found
pub both_told : (r : Result (Option Outlines) Fault) (Good : Type 0) (A B : Outlines → Type 0) → IfOk r (λ found. IsSome found ↔ Good) → IfOk r (λ found. IfSome found A) → (Good → (outlines : Outlines) → A outlines → B outlines) → IfOk r (λ found. IfSome found B)
both_told (Ok (Some outlines)) Good A B answer known tells = tells (answer.0 refl) outlines known
both_told (Ok None) Good A B answer known tells = tt
both_told (Err why) Good A B answer known tells = tt
