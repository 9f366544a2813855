-- What the queries by a prefix and by a peer's id show.
use Rattle.std.proofs.Common.{◌≡◌, ◌<◌, ◌^◌, ℕ, pos, List, [], ◌∷◌, nat_eq, Bool, true, false, ◌&&◌, inl, inr, refl, sym, ap, subst, ◌∙◌}
use Rattle.std.specs.List.{list_all}
use Rattle.sqlite.specs.declared.types.Value.{Value}
use Rattle.sqlite.specs.declared.types.Value.TheVariants.{Int, Blob}
use Rattle.sqlite.specs.Order.{Row}
use Rattle.sqlite_value.specs.Order.{bytes, column}
use Rattle.sqlite.specs.Collation.TheVariants.{Binary}
use Rattle.sqlite.specs.Ops.{binary, is_true}
use Rattle.sqlite.specs.Term.{holds}
use Rattle.sqlite_sql.specs.declared.ops.BinaryOp.TheVariants.{Compare}
use Rattle.sqlite_sql.specs.declared.ops.CompareOp.TheVariants.{Eq}
use Rattle.sqlite.specs.State.{State, Shown}
use Rattle.sqlite_rules.specs.Lists.{Has}
use Rattle.wgr_text.specs.declared.addr.Family.{Family}
use Rattle.wgr_text.specs.declared.addr.Family.TheVariants.{V4, V6}
use Rattle.wgr_text.specs.Prefix.{PrefixValue}
use Rattle.wgr_pool.specs.PrefixTests.{same_family}
use Rattle.wgr_model.specs.Rows.{family_number}
use Rattle.wgr_sql.proofs.RowLemmas.{equal_nats}
use Rattle.wgr_sql.proofs.Values.{and_true}
use Rattle.wgr_columns.specs.Decode.{AreNatural, IsNumberAt, IsRegister, allowed_in, bytes_at, bytes_of, family_of, number_at, number_of, peer_in, tables_of}
use Rattle.wgr_columns.proofs.ByteLemmas.{number_back}
use Rattle.wgr_tables.proofs.AllowedLemmas.{equal_spelled}
use Rattle.wgr_tables.proofs.ListedLemmas.{listed}
use Rattle.wgr_tables.proofs.Meanings.{allowed_places, by_id, peer_places}
use Rattle.wgr_tables.proofs.StoredLemmas.{each_shown}
use Rattle.wgr_rows.specs.Holder.{ShowPeer, ShowPrefix, is_allowed}
use Rattle.wgr_rows.proofs.LeadTexts.{of_prefix, peer_asks, peer_text, prefix_asks, prefix_params, prefix_text}

same_families : (f g : Family) → nat_eq (family_number f) (family_number g) ≡ same_family f g
same_families V4 V4 = refl
same_families V4 V6 = refl
same_families V6 V4 = refl
same_families V6 V6 = refl

nested : (a b c d : Bool) → (a && (b && (c && d))) ≡ (a && (b && c && d))
nested false b c d = refl
nested true false c d = refl
nested true true c d = refl

module _ (old new : State) (register : IsRegister old.now) (rows : List Row) where
  module _ (network : ℕ) (p : PrefixValue) (low : p.address.number < 2 ^ 128) where
    passes : (r : Row) → Has (old.now.trees 10) r → list_all (holds (prefix_params network p ∷ r ∷ [])) of_prefix ≡ is_allowed network p (allowed_in r)
    passes r here =
        let good = register.written.allowed in
        let span = good.addresses_are r here 3 (inl refl) in
        let at = λ (v : Value) (place : ℕ). is_true (binary (Compare Eq Binary) (column r place) v) in
        let one : at (Int (pos network)) 1 ≡ nat_eq (number_at r 1) network = ap (λ v. is_true (binary (Compare Eq Binary) v (Int (pos network)))) (good.numbers_are r here 1 (inl refl)) ∙ equal_nats (number_at r 1) network in
        let two : at (Int (pos (family_number p.address.family))) 2 ≡ same_family (family_of (number_at r 2)) p.address.family =
        ap (λ v. is_true (binary (Compare Eq Binary) v (Int (pos (family_number p.address.family))))) (good.numbers_are r here 2 (inr (inl refl))) ∙ equal_nats (number_at r 2) _
        ∙ ap (λ n. nat_eq n (family_number p.address.family)) (good.families_are r here 2 (inl refl)) ∙ same_families (family_of (number_at r 2)) p.address.family in
        let three : at (Blob (bytes_of p.address.number)) 3 ≡ nat_eq (number_of (bytes_at r 3)) p.address.number =
        ap (λ v. is_true (binary (Compare Eq Binary) v (Blob (bytes_of p.address.number)))) span ∙ equal_spelled _ _ (sym (ap (λ v. number_of (bytes v)) span)) (number_back p.address.number low) in
        let four : at (Int (pos p.length)) 4 ≡ nat_eq (number_at r 4) p.length = ap (λ v. is_true (binary (Compare Eq Binary) v (Int (pos p.length)))) (good.numbers_are r here 4 (inr (inr (inl refl)))) ∙ equal_nats (number_at r 4) p.length in
        (λ k. one k && (two k && (three k && (and_true (at (Int (pos p.length)) 4) ∙ four) k)))
        ∙ nested (nat_eq (number_at r 1) network) (same_family (family_of (number_at r 2)) p.address.family) (nat_eq (number_of (bytes_at r 3)) p.address.number) (nat_eq (number_at r 4) p.length)

    pub prefix_listed : Shown prefix_text (prefix_params network p) old new rows → ShowPrefix network p (tables_of old.now) rows
    prefix_listed shown = listed old new register prefix_text (prefix_params network p) 10 of_prefix allowed_places [] _ (prefix_asks register.others) rows shown allowed_in (is_allowed network p) (λ r. refl) passes

    pub prefix_numbers : Shown prefix_text (prefix_params network p) old new rows → AreNatural (6 ∷ []) rows
    prefix_numbers shown r here place (inl is) =
        subst (IsNumberAt r) (sym is) (each_shown old new register prefix_text (prefix_params network p) 10 of_prefix allowed_places [] _ (prefix_asks register.others) rows shown (λ x. IsNumberAt x 6) (λ x there. register.written.allowed.numbers_are x there 6 (inr (inr (inr (inl refl))))) r here)
    prefix_numbers shown r here place (inr none) = absurd none

  module _ (id : ℕ) where
    pub peer_listed : Shown peer_text (Int (pos id) ∷ []) old new rows → ShowPeer id (tables_of old.now) rows
    peer_listed shown =
        listed old new register peer_text (Int (pos id) ∷ []) 8 by_id peer_places [] _ (peer_asks register.others) rows shown peer_in (λ p. nat_eq p.id id) (λ r. refl)
        (λ r here. ap (λ v. is_true (binary (Compare Eq Binary) v (Int (pos id))) && true) (register.written.peers.numbers_are r here 0 (inl refl)) ∙ and_true _ ∙ equal_nats (number_at r 0) id)

    pub peer_numbers : Shown peer_text (Int (pos id) ∷ []) old new rows → AreNatural (5 ∷ []) rows
    peer_numbers shown r here place (inl is) =
        subst (IsNumberAt r) (sym is) (each_shown old new register peer_text (Int (pos id) ∷ []) 8 by_id peer_places [] _ (peer_asks register.others) rows shown (λ x. IsNumberAt x 5) (λ x there. register.written.peers.numbers_are x there 5 (inr (inr (inl refl)))) r here)
    peer_numbers shown r here place (inr none) = absurd none
