-- What the queries by a key show of consistent rows: one row at most, whose number is below 2 ^ 32.
use Rattle.std.proofs.Common.{◌≡◌, ◌<◌, ◌≤◌, ℕ, pos, List, [], ◌∷◌, length, map, nat_eq, Bool, true, false, ◌||◌, inl, refl, sym, ap, subst, ◌∙◌, arith, eqb-true}
use Rattle.std.specs.List.{AllByRecursion, IsDistinct}
use Rattle.std.proofs.lemmas.Bool.{and_parts}
use Rattle.sqlite.specs.declared.types.Value.TheVariants.{Int, Text, Blob}
use Rattle.sqlite.specs.Order.{Row}
use Rattle.sqlite_value.specs.Order.{column}
use Rattle.sqlite_rules.specs.Lists as rules
use Rattle.sqlite.specs.State.{State, Shown}
use Rattle.wgr_model.specs.Consistent.{IsId, IsTenant, has_tenant, same_slot, slot}
use Rattle.wgr_model.specs.Register.{Bytes, Tenant, Token, is_same}
use Rattle.wgr_model.specs.RowLaws.{AreConsistent}
use Rattle.wgr_model.specs.Rows.{NetworkRow, Tables, network_entry_of}
use Rattle.wgr_model.proofs.CollectLemmas.{has_map}
use Rattle.wgr_model.proofs.GatherLemmas.{map_map}
use Rattle.wgr_model.proofs.SameLemmas.{at_has}
use Rattle.wgr_columns.specs.Decode.{IsRegister, tables_of, tenant_in, token_in, network_in, number_at}
use Rattle.wgr_entries.specs.Lookups.{HasWordAt}
use Rattle.wgr_entries.proofs.LookupLemmas.{token_listed, tenant_listed, slot_listed}
use Rattle.wgr_columns.proofs.Statements.{network_places}
use Rattle.wgr_entries.proofs.LookupTexts.{token_text, token_asks, of_digest, token_places, tenant_text, tenant_asks, of_name, tenant_places, slot_text, slot_asks, of_slot}
use Rattle.wgr_tables.proofs.FewRows.{few_rows, row_there}
use Rattle.wgr_tables.proofs.SameBytes.{same_is}
use Rattle.wgr_tables.proofs.StoredLemmas.{each_shown}

word_of : (at : ℕ) (rows : List Row) → length rows ≤ 1 → ((r : Row) → rules.Has rows r → (number_at r at < 4294967296) × (column r at ≡ Int (pos (number_at r at)))) → HasWordAt rows at
word_of at [] short each = tt
word_of at (r ∷ []) short each = let it = each r (inl refl) in (it.1, it.0)
word_of at (r ∷ s ∷ more) short each = absurd (omega (arith, short))

id_low : (id : ℕ) → IsId id → id < 4294967296
id_low id is = omega (arith, is.1)

pub holder_low : (ts : List Tenant) (id : ℕ) → AllByRecursion IsTenant ts → has_tenant ts id ≡ true → id < 4294967296
holder_low [] id all h = absurd cc
holder_low (t ∷ ts) id all h = go (nat_eq id t.id) refl h (holder_low ts id all.1)
  where
    go : (b : Bool) → nat_eq id t.id ≡ b → (b || has_tenant ts id) ≡ true → (has_tenant ts id ≡ true → id < 4294967296) → id < 4294967296
    go true is h later = subst (λ n. n < 4294967296) (sym (eqb-true id t.id is)) (id_low t.id all.0.id)
    go false is h later = later h

both_same : (d a b : Bytes) → is_same d a ≡ true → is_same d b ≡ true → is_same a b ≡ true
both_same d a b p q = ap (λ x. is_same x b) (sym (same_is d a p)) ∙ q

module _ (old new : State) (register : IsRegister old.now) (rows : List Row) (good : AreConsistent (tables_of old.now)) where
  abbrev t : Tables
  t = tables_of old.now

  pub token_word : (digest : Bytes) → Shown token_text (Blob digest ∷ []) old new rows → HasWordAt rows 2
  token_word digest shown =
      let q = λ (x : Token). is_same digest x.digest in
      let listed = token_listed old new register rows digest shown in
      word_of 2 rows (few_rows token_in q t.tokens rows listed is_same (λ x. x.digest) good.consistent.digests (λ a b. both_same digest a.digest b.digest))
      (λ r here. (
        holder_low t.tenants (number_at r 2) good.consistent.tenants (at_has (λ x. has_tenant t.tenants x.tenant ≡ true) t.tokens (token_in r) good.consistent.token_tenants (row_there token_in q t.tokens rows listed r here)),
        each_shown old new register token_text (Blob digest ∷ []) 3 of_digest token_places [] _ (token_asks register.others) rows shown (λ x. column x 2 ≡ Int (pos (number_at x 2))) (λ x there. register.written.tokens.numbers_are x there 2 (inl refl)) r here,
      ))

  pub tenant_word : (name : Bytes) → Shown tenant_text (Text name ∷ []) old new rows → HasWordAt rows 0
  tenant_word name shown =
      let q = λ (x : Tenant). is_same name x.name in
      let listed = tenant_listed old new register rows name shown in
      word_of 0 rows (few_rows tenant_in q t.tenants rows listed is_same (λ x. x.name) good.consistent.names (λ a b. both_same name a.name b.name))
      (λ r here. (
        id_low (number_at r 0) (at_has IsTenant t.tenants (tenant_in r) good.consistent.tenants (row_there tenant_in q t.tenants rows listed r here)).id,
        each_shown old new register tenant_text (Text name ∷ []) 1 of_name tenant_places [] _ (tenant_asks register.others) rows shown (λ x. column x 0 ≡ Int (pos (number_at x 0))) (λ x there. register.written.tenants.numbers_are x there 0 (inl refl)) r here,
      ))

  slots_same : (tenant : ℕ) (name : Bytes) (a b : NetworkRow) → same_slot (tenant, name) (a.tenant, a.name) ≡ true → same_slot (tenant, name) (b.tenant, b.name) ≡ true → same_slot (a.tenant, a.name) (b.tenant, b.name) ≡ true
  slots_same tenant name a b p q =
      let one = and_parts (nat_eq tenant a.tenant) (is_same name a.name) p in
      let is : (tenant, name) ≡ (a.tenant, a.name) = λ k. (eqb-true tenant a.tenant one.0 k, same_is name a.name one.1 k) in
      ap (λ s. same_slot s (b.tenant, b.name)) (sym is) ∙ q

  pub slot_word : (tenant : ℕ) (name : Bytes) → Shown slot_text (Int (pos tenant) ∷ Text name ∷ []) old new rows → HasWordAt rows 0
  slot_word tenant name shown =
      let q = λ (w : NetworkRow). same_slot (tenant, name) (w.tenant, w.name) in
      let listed = slot_listed old new register rows tenant name shown in
      word_of 0 rows (few_rows network_in q t.networks rows listed same_slot (λ w. (w.tenant, w.name)) (subst (IsDistinct same_slot) (map_map (network_entry_of t) slot t.networks) good.consistent.slots) (slots_same tenant name))
      (λ r here. (
        id_low (number_at r 0) (at_has _ (map (network_entry_of t) t.networks) (network_entry_of t (network_in r)) good.consistent.networks (has_map (network_entry_of t) t.networks (network_in r) (row_there network_in q t.networks rows listed r here))).id,
        each_shown old new register slot_text (Int (pos tenant) ∷ Text name ∷ []) 5 of_slot network_places [] _ (slot_asks register.others) rows shown (λ x. column x 0 ≡ Int (pos (number_at x 0))) (λ x there. register.written.networks.numbers_are x there 0 (inl refl)) r here,
      ))
