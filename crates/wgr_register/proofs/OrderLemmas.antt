-- What orders come to, on the rows.
use Rattle.std.proofs.Common.{◌≡◌, ℕ, Bool, true, false, not, List, [], ◌∷◌, Some, None, length, map, filter, is_some, nat_eq, nat_lt, refl, sym, ap, ap₂, subst, ◌∙◌}
use Rattle.std.specs.List.Sorted.{IsPermutation}
use Rattle.std.specs.List.{list_any}
use Rattle.std.proofs.lemmas.List.{length-map}
use Rattle.std.proofs.lemmas.List.Sorted.{IsPermutation-refl, length_permutation, list_any-IsPermutation}
use Rattle.wgr_model.specs.declared.right.Right.{Right}
use Rattle.wgr_model.specs.Laws.{Has}
use Rattle.wgr_model.specs.Register.{Bytes, Register, id_of, is_same}
use Rattle.wgr_model.specs.RowLaws.{AreConsistent, IsRowStep}
use Rattle.wgr_model.specs.Rows.{AreRowsOf, NetworkRow, Tables, network_entry_of, register_of}
use Rattle.wgr_model.specs.RowRules.{Removes}
use Rattle.wgr_model.specs.Steps.{AddTenant, DigestHeld, Done, EndNetwork, EndToken, Grant, NameHeld, NoNetwork, NoSuchTenant, NoSuchToken, Refused, RegisterFull, granted, is_full, network_at, ordered, refuse, tenant_of_token, with_tenant, with_token, without_network, without_reader, without_token}
use Rattle.wgr_model.proofs.AskRowLemmas.{networks_are_found}
use Rattle.wgr_model.proofs.CollectLemmas.{has_map}
use Rattle.wgr_model.proofs.OrderRowLemmas.{networks_lose, tenants_gain, tokens_gain, tokens_lose}
use Rattle.wgr_model.proofs.OrderSteps.{digest_held, digest_is_held, name_is_held, network_gone, no_more_tenants, no_more_tokens, no_network, no_token, nobody_ends, nobody_granted, tenant_held, token_ended}
use Rattle.wgr_model.proofs.CallLemmas.{step_is}
use Rattle.wgr_model.proofs.RunLemmas.{same_itself}
use Rattle.wgr_model.specs.Consistent.{IsId, has_tenant}
use Rattle.wgr_register.proofs.AskLemmas.{still}
use Rattle.wgr_tables.specs.Writes.{Changes, NetworkLost, TenantGained, TokenGained, TokenLost}

module _ (t : Tables) (is : AreConsistent t) where
  pub no_such_token : (digest : Bytes) → tenant_of_token t.tokens digest ≡ None → IsRowStep t (EndToken digest) (Refused NoSuchToken) t
  no_such_token digest none = still t (EndToken digest) (Refused NoSuchToken) is (no_token (register_of t) digest (ap is_some none))

  pub token_ends : (digest : Bytes) (id : ℕ) → tenant_of_token t.tokens digest ≡ Some id → (u : Tables) → Changes (TokenLost digest) t u → IsRowStep t (EndToken digest) Done u
  token_ends digest id known u made = record {
    after = without_token (register_of t) digest;
    step = token_ended (register_of t) digest (ap is_some known) (without_token (register_of t) digest) refl;
    rows = subst (AreRowsOf (without_token (register_of t) digest)) (sym made)
        (tokens_lose (register_of t) t digest (filter (λ x. not (is_same digest x.digest)) t.tokens) (without_reader digest t.readers) is.rows is.consistent (IsPermutation-refl (filter (λ x. not (is_same digest x.digest)) t.tokens)) (IsPermutation-refl (without_reader digest t.readers)));
  }

  module _ (tenant name : Bytes) where
    pub nobody_has : id_of t.tenants tenant ≡ None → IsRowStep t (EndNetwork tenant name) (Refused NoSuchTenant) t
    nobody_has none = still t (EndNetwork tenant name) (Refused NoSuchTenant) is (nobody_ends (register_of t) tenant name none)

    pub none_ends : (id : ℕ) → id_of t.tenants tenant ≡ Some id → network_at (register_of t).networks id name ≡ None → IsRowStep t (EndNetwork tenant name) (Refused NoNetwork) t
    none_ends id known none = still t (EndNetwork tenant name) (Refused NoNetwork) is (no_network (register_of t) tenant name id known (ap is_some none))

    pub network_ends : (id network : ℕ) → id_of t.tenants tenant ≡ Some id → (w : NetworkRow) → Has t.networks w → w.tenant ≡ id → w.name ≡ name → w.id ≡ network → (u : Tables) → Changes (NetworkLost network) t u → IsRowStep t (EndNetwork tenant name) Done u
    network_ends id network known w here of named at u made =
        let there : is_some (network_at (register_of t).networks id name) ≡ true = subst (λ x. is_some (network_at (register_of t).networks x name) ≡ true) of
        (subst (λ x. is_some (network_at (register_of t).networks w.tenant x) ≡ true) named (ap is_some (networks_are_found t w is here))) in
        let rows : AreRowsOf (without_network (register_of t) w.tenant w.name) u =
        networks_lose (register_of t) t u (network_entry_of t w) is.rows is.consistent (has_map (network_entry_of t) t.networks w here) (subst (λ i. Removes i t u) (sym at) made) in
        record {
          after = without_network (register_of t) id name;
          step = network_gone (register_of t) tenant name id known there (without_network (register_of t) id name) refl;
          rows = subst (λ x. AreRowsOf (without_network (register_of t) x name) u) of (subst (λ x. AreRowsOf (without_network (register_of t) w.tenant x) u) named rows);
        }

-- ---- what comes

is_full_by : {A : Type 0} (xs : List A) (n : ℕ) → n ≡ length xs → (full : Bool) → not (nat_lt n 65536) ≡ full → is_full xs ≡ full
is_full_by xs n same full is = ap (λ m. not (nat_lt m 65536)) (sym same) ∙ is

same_size : {A : Type 0} (xs ys : List A) → IsPermutation xs ys → length ys ≡ length xs
same_size xs ys is = length_permutation xs ys is

module _ (t : Tables) (is : AreConsistent t) where
  abbrev r : Register
  r = register_of t

  module _ (tenant digest : Bytes) (right : Right) where
    pub nobody_gets : id_of t.tenants tenant ≡ None → IsRowStep t (Grant tenant digest right) (Refused NoSuchTenant) t
    nobody_gets none = still t (Grant tenant digest right) (Refused NoSuchTenant) is (nobody_granted r tenant digest right none)

    module _ (id : ℕ) (known : id_of t.tenants tenant ≡ Some id) where
      pub held_already : (other : ℕ) → tenant_of_token t.tokens digest ≡ Some other → IsRowStep t (Grant tenant digest right) (Refused DigestHeld) t
      held_already other held = still t (Grant tenant digest right) (Refused DigestHeld) is (digest_held r tenant digest right id known (ap is_some held))

      module _ (free : tenant_of_token t.tokens digest ≡ None) where
        pub tokens_full : is_full t.tokens ≡ true → IsRowStep t (Grant tenant digest right) (Refused RegisterFull) t
        tokens_full full = still t (Grant tenant digest right) (Refused RegisterFull) is (no_more_tokens r tenant digest right id known (ap is_some free) full)

        pub token_comes : is_full t.tokens ≡ false → (u : Tables) → Changes (TokenGained (record { digest = digest; tenant = id }) right) t u → IsRowStep t (Grant tenant digest right) Done u
        token_comes room u made =
            let front = tokens_gain r t digest id right made.0 made.1 is.rows made.2 made.3 in
            record {
              after = with_token r digest id right;
              step = step_is r (with_token r digest id right) (Grant tenant digest right) 0 (Done, with_token r digest id right)
                  (ap (granted r digest right) known ∙ ap₂ (λ a b. ordered (refuse a DigestHeld ∷ refuse b RegisterFull ∷ []) r (with_token r digest id right)) (digest_is_held r.tokens digest ∙ ap is_some free) room)
                  (λ _. tt) (same_itself (with_token r digest id right));
              rows = subst (AreRowsOf (with_token r digest id right)) (sym made.4) front;
            }

  module _ (name : Bytes) where
    pub name_held : (id : ℕ) → id_of t.tenants name ≡ Some id → IsRowStep t (AddTenant name) (Refused NameHeld) t
    name_held id held = still t (AddTenant name) (Refused NameHeld) is (tenant_held r name (ap is_some held))

    module _ (free : id_of t.tenants name ≡ None) where
      pub tenants_full : is_full t.tenants ≡ true → IsRowStep t (AddTenant name) (Refused RegisterFull) t
      tenants_full full = still t (AddTenant name) (Refused RegisterFull) is (no_more_tenants r name (ap is_some free) full)

      pub tenant_comes : is_full t.tenants ≡ false → (new : ℕ) → IsId new → has_tenant t.tenants new ≡ false → (u : Tables) → Changes (TenantGained (record { id = new; name = name })) t u → IsRowStep t (AddTenant name) Done u
      tenant_comes room new id unused u made = record {
        after = with_tenant r name new;
        step = step_is r (with_tenant r name new) (AddTenant name) new (Done, with_tenant r name new)
            (ap₂ (λ a b. ordered (refuse a NameHeld ∷ refuse b RegisterFull ∷ []) r (with_tenant r name new)) (name_is_held r.tenants name ∙ ap is_some free) room)
            (λ _. (id, unused)) (same_itself (with_tenant r name new));
        rows = subst (AreRowsOf (with_tenant r name new)) (sym made.2) (tenants_gain r t name new made.0 is.rows made.1);
      }

-- ids that are read in some order are as many, and none is new among them that was not
module _ (t : Tables) (ids : List ℕ) (listed : IsPermutation (map (λ x. x.id) t.tenants) ids) where
  as_many : length ids ≡ length t.tenants
  as_many = same_size (map (λ x. x.id) t.tenants) ids listed ∙ length-map t.tenants (λ x. x.id)

  pub room_by : (full : Bool) → not (nat_lt (length ids) 65536) ≡ full → is_full t.tenants ≡ full
  room_by full e = is_full_by t.tenants (length ids) as_many full e

  pub unused_by : (new : ℕ) → list_any (nat_eq new) ids ≡ false → has_tenant t.tenants new ≡ false
  unused_by new none = list_any-IsPermutation (nat_eq new) (map (λ x. x.id) t.tenants) ids listed ∙ none

pub tokens_by : (t : Tables) (count : ℕ) → count ≡ length t.tokens → (full : Bool) → not (nat_lt count 65536) ≡ full → is_full t.tokens ≡ full
tokens_by t count same full e = is_full_by t.tokens count same full e
