-- What the queries by a key show, and what is found so.
use Rattle.std.proofs.Common.{◌≡◌, ℕ, pos, List, [], ◌∷◌, find, filter, nat_eq, Bool, true, false, cond, ◌&&◌, Option, Some, None, option_map, eqb-true, Result, Ok, Err, IfOk, IfSome, IfNone, OnOk, IsPermutation, refl, sym, ap, ap₂, subst, ◌∙◌, inl, inr}
use Rattle.std.proofs.lemmas.Bool.{and_parts}
use Rattle.std.proofs.lemmas.List.Sorted.{IsPermutation-sym}
use Rattle.sqlite.specs.declared.types.Value.TheVariants.{Int, Text, Blob}
use Rattle.sqlite.specs.Order.{Row}
use Rattle.sqlite.specs.Collation.TheVariants.{Binary}
use Rattle.sqlite.specs.Ops.{binary, is_true}
use Rattle.sqlite_sql.specs.declared.ops.BinaryOp.TheVariants.{Compare}
use Rattle.sqlite_sql.specs.declared.ops.CompareOp.TheVariants.{Eq}
use Rattle.sqlite.specs.Effect.{IsDatabase}
use Rattle.sqlite.specs.State.{State, Shown}
use Rattle.wgr_model.specs.Consistent.{same_slot}
use Rattle.wgr_model.specs.Laws as model
use Rattle.wgr_model.specs.Register.{Bytes, Tenant, Token, id_of, is_same}
use Rattle.wgr_model.specs.Rows.{NetworkRow, Tables}
use Rattle.wgr_model.specs.Steps.{tenant_of_token}
use Rattle.wgr_model.proofs.GatherLemmas.{in_filter}
use Rattle.wgr_model.proofs.LookLemmas.{is_same_sym}
use Rattle.wgr_model.proofs.OrderLemmas.{from_filter}
use Rattle.wgr_model.proofs.SameLemmas.{eqb_sym, has_permutation}
use Rattle.wgr_sql.proofs.RowLemmas.{equal_nats}
use Rattle.wgr_sql.proofs.TextLemmas.{text_at}
use Rattle.wgr_sql.proofs.Values.{and_true, blob_at}
use Rattle.wgr_columns.specs.Layout.{schema_with, tenant_table_at, token_table_at, network_table_at}
use Rattle.wgr_columns.specs.Decode.{IsRegister, tables_of, tenant_in, token_in, network_in, number_at, bytes_at}
use Rattle.wgr_entries.specs.Lookups.{IsNumberIn, IsSlotOf, ShowNetworksOf, ShowSlot, ShowTenant, ShowToken}
use Rattle.wgr_columns.specs.Stored.{AreStored, stored_network}
use Rattle.wgr_tables.proofs.StoredLemmas.{network_is, stored_rows}
use Rattle.wgr_tables.proofs.ListedLemmas.{listed}
use Rattle.wgr_columns.proofs.Statements.{network_places}
use Rattle.wgr_tables.proofs.Meanings.{of_network}
use Rattle.wgr_entries.proofs.LookupTexts.{token_text, token_asks, of_digest, token_places, tenant_text, tenant_asks, of_name, tenant_places, slot_text, slot_asks, of_slot, of_tenant_text, of_tenant_asks}
use Rattle.wgr_tables.proofs.SameBytes.{same_blobs, same_texts, same_is}

-- ---- what is shown

module _ (old new : State) (register : IsRegister old.now) (rows : List Row) where
  sound : IsDatabase (record { schema = schema_with register.others; trees = old.now.trees })
  sound = subst (λ s. IsDatabase (record { schema = s; trees = old.now.trees })) register.schema_is register.sound

  pub token_listed : (digest : Bytes) → Shown token_text (Blob digest ∷ []) old new rows → ShowToken digest (tables_of old.now) rows
  token_listed digest shown =
      listed old new register token_text (Blob digest ∷ []) 3 of_digest token_places [] _ (token_asks register.others) rows shown token_in (λ x. is_same digest x.digest) (λ r. refl)
      (λ r here. ap (λ v. is_true (binary (Compare Eq Binary) v (Blob digest)) && true) (blob_at (schema_with register.others) old.now.trees sound (token_table_at 3) (inr (inr (inl refl))) r here 0 _ refl refl refl refl refl)
      ∙ and_true _ ∙ same_blobs (bytes_at r 1) digest ∙ is_same_sym (bytes_at r 1) digest)

  pub tenant_listed : (name : Bytes) → Shown tenant_text (Text name ∷ []) old new rows → ShowTenant name (tables_of old.now) rows
  tenant_listed name shown =
      listed old new register tenant_text (Text name ∷ []) 1 of_name tenant_places [] _ (tenant_asks register.others) rows shown tenant_in (λ x. is_same name x.name) (λ r. refl)
      (λ r here. ap (λ v. is_true (binary (Compare Eq Binary) v (Text name)) && true) (text_at (schema_with register.others) old.now.trees sound (tenant_table_at 1) (inr (inl refl)) r here 1 _ refl refl refl refl refl)
      ∙ and_true _ ∙ same_texts (bytes_at r 2) name ∙ is_same_sym (bytes_at r 2) name)

  pub slot_listed : (tenant : ℕ) (name : Bytes) → Shown slot_text (Int (pos tenant) ∷ Text name ∷ []) old new rows → ShowSlot (tenant, name) (tables_of old.now) rows
  slot_listed tenant name shown =
      listed old new register slot_text (Int (pos tenant) ∷ Text name ∷ []) 5 of_slot network_places [] _ (slot_asks register.others) rows shown network_in (λ w. same_slot (tenant, name) (w.tenant, w.name)) (λ r. refl)
      (λ r here. ap₂ (λ x y. x && y)
      (ap (λ v. is_true (binary (Compare Eq Binary) v (Int (pos tenant)))) (register.written.networks.numbers_are r here 2 (inr (inl refl))) ∙ equal_nats (number_at r 2) tenant ∙ eqb_sym (number_at r 2) tenant)
      (and_true _ ∙ ap (λ v. is_true (binary (Compare Eq Binary) v (Text name))) (text_at (schema_with register.others) old.now.trees sound (network_table_at 5) (inr (inr (inr (inl refl)))) r here 2 _ refl refl refl refl refl)
      ∙ same_texts (bytes_at r 3) name ∙ is_same_sym (bytes_at r 3) name))

  pub of_tenant_stored : (tenant : ℕ) → Shown of_tenant_text (Int (pos tenant) ∷ []) old new rows → AreStored stored_network network_in rows
  of_tenant_stored tenant shown =
      stored_rows old new register of_tenant_text (Int (pos tenant) ∷ []) 5 (of_network 2) network_places [] _ (of_tenant_asks register.others) rows shown network_in (λ r. refl) stored_network (network_is old new register tenant rows)

  pub of_tenant_shown : (tenant : ℕ) → Shown of_tenant_text (Int (pos tenant) ∷ []) old new rows → ShowNetworksOf tenant (tables_of old.now) rows
  of_tenant_shown tenant shown =
      listed old new register of_tenant_text (Int (pos tenant) ∷ []) 5 (of_network 2) network_places [] _ (of_tenant_asks register.others) rows shown network_in (λ w. nat_eq w.tenant tenant) (λ r. refl)
      (λ r here. ap (λ v. is_true (binary (Compare Eq Binary) v (Int (pos tenant))) && true) (register.written.networks.numbers_are r here 2 (inr (inl refl))) ∙ and_true _ ∙ equal_nats (number_at r 2) tenant)

-- ---- what is found

module _ {A : Type 0} (p : A → Bool) where
  -- the first that passes is the first of those that pass
  found_first : (xs : List A) (a : A) (more : List A) → filter p xs ≡ a ∷ more → find p xs ≡ Some a
  found_first [] a more is = absurd cc
  found_first (x ∷ xs) a more is = go (p x) refl is (found_first xs a more)
    where
      go : (b : Bool) → p x ≡ b → cond b (x ∷ filter p xs) (filter p xs) ≡ a ∷ more → (filter p xs ≡ a ∷ more → find p xs ≡ Some a) → cond b (Some x) (find p xs) ≡ Some a
      go true e h later = let same : x ≡ a = cc in ap Some same
      go false e h later = later h

  found_none : (xs : List A) → filter p xs ≡ [] → find p xs ≡ None
  found_none [] is = refl
  found_none (x ∷ xs) is = go (p x) is (found_none xs)
    where
      go : (b : Bool) → cond b (x ∷ filter p xs) (filter p xs) ≡ [] → (filter p xs ≡ [] → find p xs ≡ None) → cond b (Some x) (find p xs) ≡ None
      go true h later = absurd cc
      go false h later = later h

  pub one_found : (xs : List A) (a : A) → IsPermutation (filter p xs) (a ∷ []) → find p xs ≡ Some a
  one_found xs a same = go (filter p xs) refl same
    where
      go : (ys : List A) → filter p xs ≡ ys → IsPermutation ys (a ∷ []) → find p xs ≡ Some a
      go [] is perm = elim (has_permutation (a ∷ []) [] a (IsPermutation-sym [] (a ∷ []) perm) (inl refl)) [ ]
      go (y ∷ ys) is perm = elim (has_permutation (y ∷ ys) (a ∷ []) y perm (inl refl)) [ inl e ↦ found_first xs y ys is ∙ ap Some (sym e) | inr none ↦ elim none [ ] ]

  pub none_found : (xs : List A) → IsPermutation (filter p xs) [] → find p xs ≡ None
  none_found xs same = go (filter p xs) refl same
    where
      go : (ys : List A) → filter p xs ≡ ys → IsPermutation ys [] → find p xs ≡ None
      go [] is perm = found_none xs is
      go (y ∷ ys) is perm = elim (has_permutation (y ∷ ys) [] y perm (inl refl)) [ ]

token_found : (ts : List Token) (d : Bytes) → tenant_of_token ts d ≡ option_map (λ t. t.tenant) (find (λ t. is_same d t.digest) ts)
token_found [] d = refl
token_found (t ∷ ts) d = go (is_same d t.digest) (token_found ts d)
  where
    go : (b : Bool) → tenant_of_token ts d ≡ option_map (λ t. t.tenant) (find (λ t. is_same d t.digest) ts) → cond b (Some t.tenant) (tenant_of_token ts d) ≡ option_map (λ t. t.tenant) (cond b (Some t) (find (λ t. is_same d t.digest) ts))
    go true later = refl
    go false later = later

tenant_found : (ts : List Tenant) (name : Bytes) → id_of ts name ≡ option_map (λ t. t.id) (find (λ t. is_same name t.name) ts)
tenant_found [] name = refl
tenant_found (t ∷ ts) name = go (is_same name t.name) (tenant_found ts name)
  where
    go : (b : Bool) → id_of ts name ≡ option_map (λ t. t.id) (find (λ t. is_same name t.name) ts) → cond b (Some t.id) (id_of ts name) ≡ option_map (λ t. t.id) (cond b (Some t) (find (λ t. is_same name t.name) ts))
    go true later = refl
    go false later = later

pub token_is : (t : Tables) (digest : Bytes) (rows : List Row) (found : Option ℕ) → ShowToken digest t rows → IsNumberIn rows 2 found → found ≡ tenant_of_token t.tokens digest
token_is t digest rows (Some id) shows (row, one, is) =
    sym (token_found t.tokens digest ∙ ap (option_map (λ x. x.tenant)) (one_found (λ x. is_same digest x.digest) t.tokens (token_in row) (subst (λ l. ShowToken digest t l) one shows)) ∙ ap Some is)
token_is t digest rows None shows none = sym (token_found t.tokens digest ∙ ap (option_map (λ x. x.tenant)) (none_found (λ x. is_same digest x.digest) t.tokens (subst (λ l. ShowToken digest t l) none shows)))

pub tenant_is : (t : Tables) (name : Bytes) (rows : List Row) (found : Option ℕ) → ShowTenant name t rows → IsNumberIn rows 0 found → found ≡ id_of t.tenants name
tenant_is t name rows (Some id) shows (row, one, is) =
    sym (tenant_found t.tenants name ∙ ap (option_map (λ x. x.id)) (one_found (λ x. is_same name x.name) t.tenants (tenant_in row) (subst (λ l. ShowTenant name t l) one shows)) ∙ ap Some is)
tenant_is t name rows None shows none = sym (tenant_found t.tenants name ∙ ap (option_map (λ x. x.id)) (none_found (λ x. is_same name x.name) t.tenants (subst (λ l. ShowTenant name t l) none shows)))

pub slot_some : (t : Tables) (tenant : ℕ) (name : Bytes) (rows : List Row) (found : Option ℕ) → ShowSlot (tenant, name) t rows → IsNumberIn rows 0 found
    → IfSome found (λ id. (w : NetworkRow) × model.Has t.networks w × IsSlotOf w tenant name × (w.id ≡ id))
slot_some t tenant name rows None shows is = tt
slot_some t tenant name rows (Some id) shows (row, one, is) =
    let w = network_in row in
    let p = λ (x : NetworkRow). same_slot (tenant, name) (x.tenant, x.name) in
    let f = from_filter p t.networks w (has_permutation (w ∷ []) (filter p t.networks) w (IsPermutation-sym (filter p t.networks) (w ∷ []) (subst (λ l. ShowSlot (tenant, name) t l) one shows)) (inl refl)) in
    let both = and_parts (nat_eq tenant w.tenant) (is_same name w.name) f.1 in
    (w, f.0, (sym (eqb-true tenant w.tenant both.0), sym (same_is name w.name both.1)), is)

pub slot_none : (t : Tables) (tenant : ℕ) (name : Bytes) (rows : List Row) (found : Option ℕ) → ShowSlot (tenant, name) t rows → IsNumberIn rows 0 found
    → IfNone found ((w : NetworkRow) → model.Has t.networks w → same_slot (tenant, name) (w.tenant, w.name) ≡ false)
slot_none t tenant name rows (Some id) shows is = tt
slot_none t tenant name rows None shows is = λ w here. go w here (p w) refl
  where
    p : NetworkRow → Bool
    p x = same_slot (tenant, name) (x.tenant, x.name)

    go : (w : NetworkRow) → model.Has t.networks w → (b : Bool) → p w ≡ b → p w ≡ false
    go w here false e = e
    go w here true e = elim (has_permutation (filter p t.networks) [] w (subst (λ l. ShowSlot (tenant, name) t l) is shows) (in_filter p t.networks w here e)) [ ]

-- ---- what the store was

pub on_each : {X E : Type 0} (r : Result X E) (P : X → Type 0) (Q : Type 0) → ((x : X) → P x → Q) → IfOk r P → OnOk r Q
on_each (Ok x) P Q tells holds = tells x holds
on_each (Err e) P Q tells holds = tt

pub on_any : {X E : Type 0} (r : Result X E) (P : Type 0) → P → OnOk r P
on_any (Ok x) P holds = holds
on_any (Err e) P holds = tt
