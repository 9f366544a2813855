-- Single orders.
use Rattle.std.proofs.Common.{◌≡◌, ℕ, Bool, true, false, not, List, [], ◌∷◌, ◌++◌, map, nat_eq, Some, None, Option, is_some, refl, sym, ap, ap₂, subst, ◌∙◌, arith}
use Rattle.std.specs.List.{list_any}
use Rattle.std.specs.List.Sorted.{IsPermutation}
use Rattle.std.proofs.lemmas.List.Sorted.{IsPermutation-append_comm, IsPermutation-refl}
use Rattle.std.proofs.lemmas.Bool.Decides.{nat_tests}
use Rattle.wgr_model.specs.Consistent.{IsId, has_digest, is_pool}
use Rattle.wgr_model.specs.declared.right.Right.{Right}
use Rattle.wgr_model.specs.Register.{Bytes, NetworkEntry, IsSame, Register, Tenant, Token, id_of}
use Rattle.wgr_model.specs.Steps.{AddNetwork, AddTenant, BadPool, DigestHeld, Done, EndNetwork, EndToken, Event, Grant, IsStep, NameHeld, NoNetwork, NoSuchTenant, NoSuchToken, OrderRefusal, EventOutcome, PortHeld, Refused, RegisterFull, Settings, first_refusal, given, granted, has_endpoint, has_name, has_slot, is_full, network_added, network_at, network_checks, network_ended, new_network, ordered, outcome, overlapping, pool_refusal, refuse, tenant_of_token, with_new_network, with_reader, with_tenant, with_token, without_network, without_token}
use Rattle.wgr_model.proofs.CallLemmas.{quiet, step_is}
use Rattle.wgr_model.proofs.RunLemmas.{same_itself}
use Rattle.wgr_model.proofs.SameLemmas.{eqb_sym}

-- ---- look-ups tell what the checks ask

pub name_is_held : (ts : List Tenant) (name : Bytes) → has_name ts name ≡ is_some (id_of ts name)
name_is_held [] name = refl
name_is_held (t ∷ ts) name = grind (arith, nat_tests, name_is_held ts name)

pub digest_is_held : (ts : List Token) (digest : Bytes) → has_digest ts digest ≡ is_some (tenant_of_token ts digest)
digest_is_held [] digest = refl
digest_is_held (t ∷ ts) digest = grind (arith, nat_tests, digest_is_held ts digest)

pub slot_is_held : (hs : List NetworkEntry) (id : ℕ) (name : Bytes) → has_slot hs id name ≡ is_some (network_at hs id name)
slot_is_held [] id name = refl
slot_is_held (h ∷ hs) id name = grind (arith, nat_tests, slot_is_held hs id name, eqb_sym id h.tenant)

-- ---- an entry at the end stands for one in front

pub at_end : {A : Type 0} (x : A) (xs ys : List A) → ys ≡ xs ++ x ∷ [] → IsPermutation (x ∷ xs) ys
at_end x xs ys e = subst (IsPermutation (x ∷ xs)) (sym e) (IsPermutation-append_comm (x ∷ []) xs)

-- ---- refusals

pub refused : (r : Register) (e : Event) (why : OrderRefusal) → outcome r e 0 ≡ (Refused why, r) → IsStep r e (Refused why) r
refused r e why is = quiet r e (Refused why) refl is

module _ (r : Register) (name : Bytes) where
  pub tenant_held : is_some (id_of r.tenants name) ≡ true → IsStep r (AddTenant name) (Refused NameHeld) r
  tenant_held held = refused r (AddTenant name) NameHeld (ap (λ b. ordered (refuse b NameHeld ∷ refuse (is_full r.tenants) RegisterFull ∷ []) r (with_tenant r name 0)) (name_is_held r.tenants name ∙ held))

  pub no_more_tenants : is_some (id_of r.tenants name) ≡ false → is_full r.tenants ≡ true → IsStep r (AddTenant name) (Refused RegisterFull) r
  no_more_tenants free full = refused r (AddTenant name) RegisterFull (ap₂ (λ a b. ordered (refuse a NameHeld ∷ refuse b RegisterFull ∷ []) r (with_tenant r name 0)) (name_is_held r.tenants name ∙ free) full)

  pub tenant_added : (s : Register) (new : ℕ) → is_some (id_of r.tenants name) ≡ false → is_full r.tenants ≡ false → IsId new → list_any (nat_eq new) (map (λ (t : Tenant). t.id) r.tenants) ≡ false
      → s.tenants ≡ r.tenants ++ record { id = new; name = name } ∷ [] → s.tokens ≡ r.tokens → s.readers ≡ r.readers → s.networks ≡ r.networks → IsStep r (AddTenant name) Done s
  tenant_added s new free some_room id unused tenants tokens readers networks =
      let o : EventOutcome = (Done, with_tenant r name new) in
      step_is r s (AddTenant name) new o
      (ap₂ (λ a b. ordered (refuse a NameHeld ∷ refuse b RegisterFull ∷ []) r (with_tenant r name new)) (name_is_held r.tenants name ∙ free) some_room)
      (λ _. (id, unused))
      (record {
        tenants = at_end (record { id = new; name = name }) r.tenants s.tenants tenants;
        tokens = subst (IsPermutation r.tokens) (sym tokens) (IsPermutation-refl r.tokens);
        readers = subst (IsPermutation r.readers) (sym readers) (IsPermutation-refl r.readers);
        networks = subst (IsPermutation r.networks) (sym networks) (IsPermutation-refl r.networks);
      })

module _ (r : Register) (tenant digest : Bytes) (right : Right) where
  pub nobody_granted : id_of r.tenants tenant ≡ None → IsStep r (Grant tenant digest right) (Refused NoSuchTenant) r
  nobody_granted none = refused r (Grant tenant digest right) NoSuchTenant (ap (granted r digest right) none)

  module _ (id : ℕ) (known : id_of r.tenants tenant ≡ Some id) where
    pub digest_held : is_some (tenant_of_token r.tokens digest) ≡ true → IsStep r (Grant tenant digest right) (Refused DigestHeld) r
    digest_held held = refused r (Grant tenant digest right) DigestHeld (ap (granted r digest right) known ∙ ap (λ b. ordered (refuse b DigestHeld ∷ refuse (is_full r.tokens) RegisterFull ∷ []) r (with_token r digest id right)) (digest_is_held r.tokens digest ∙ held))

    pub no_more_tokens : is_some (tenant_of_token r.tokens digest) ≡ false → is_full r.tokens ≡ true → IsStep r (Grant tenant digest right) (Refused RegisterFull) r
    no_more_tokens free full = refused r (Grant tenant digest right) RegisterFull (ap (granted r digest right) known ∙ ap₂ (λ a b. ordered (refuse a DigestHeld ∷ refuse b RegisterFull ∷ []) r (with_token r digest id right)) (digest_is_held r.tokens digest ∙ free) full)

    pub token_granted : (s : Register) → is_some (tenant_of_token r.tokens digest) ≡ false → is_full r.tokens ≡ false → s.tokens ≡ r.tokens ++ record { digest = digest; tenant = id } ∷ [] → IsPermutation (with_reader right digest r.readers) s.readers → s.tenants ≡ r.tenants → s.networks ≡ r.networks
        → IsStep r (Grant tenant digest right) Done s
    token_granted s free some_room tokens readers tenants networks =
        let o : EventOutcome = (Done, with_token r digest id right) in
        step_is r s (Grant tenant digest right) 0 o
        (ap (granted r digest right) known ∙ ap₂ (λ a b. ordered (refuse a DigestHeld ∷ refuse b RegisterFull ∷ []) r (with_token r digest id right)) (digest_is_held r.tokens digest ∙ free) some_room)
        (λ _. tt)
        (record {
          tenants = subst (IsPermutation r.tenants) (sym tenants) (IsPermutation-refl r.tenants);
          tokens = at_end (record { digest = digest; tenant = id }) r.tokens s.tokens tokens;
          readers = readers;
          networks = subst (IsPermutation r.networks) (sym networks) (IsPermutation-refl r.networks);
        })

module _ (r : Register) (digest : Bytes) where
  pub no_token : is_some (tenant_of_token r.tokens digest) ≡ false → IsStep r (EndToken digest) (Refused NoSuchToken) r
  no_token none = refused r (EndToken digest) NoSuchToken (ap (λ b. ordered (refuse (not b) NoSuchToken ∷ []) r (without_token r digest)) (digest_is_held r.tokens digest ∙ none))

  pub token_ended : is_some (tenant_of_token r.tokens digest) ≡ true → (s : Register) → s ≡ without_token r digest → IsStep r (EndToken digest) Done s
  token_ended held s is =
      let o : EventOutcome = (Done, without_token r digest) in
      step_is r s (EndToken digest) 0 o
      (ap (λ b. ordered (refuse (not b) NoSuchToken ∷ []) r (without_token r digest)) (digest_is_held r.tokens digest ∙ held))
      (λ _. tt)
      (subst (IsSame (without_token r digest)) (sym is) (same_itself (without_token r digest)))

module _ (r : Register) (tenant name : Bytes) where
  pub nobody_ends : id_of r.tenants tenant ≡ None → IsStep r (EndNetwork tenant name) (Refused NoSuchTenant) r
  nobody_ends none = refused r (EndNetwork tenant name) NoSuchTenant (ap (network_ended r name) none)

  module _ (id : ℕ) (known : id_of r.tenants tenant ≡ Some id) where
    pub no_network : is_some (network_at r.networks id name) ≡ false → IsStep r (EndNetwork tenant name) (Refused NoNetwork) r
    no_network none = refused r (EndNetwork tenant name) NoNetwork (ap (network_ended r name) known ∙ ap (λ b. ordered (refuse (not b) NoNetwork ∷ []) r (without_network r id name)) (slot_is_held r.networks id name ∙ none))

    pub network_gone : is_some (network_at r.networks id name) ≡ true → (s : Register) → s ≡ without_network r id name → IsStep r (EndNetwork tenant name) Done s
    network_gone held s is =
        let o : EventOutcome = (Done, without_network r id name) in
        step_is r s (EndNetwork tenant name) 0 o
        (ap (network_ended r name) known ∙ ap (λ b. ordered (refuse (not b) NoNetwork ∷ []) r (without_network r id name)) (slot_is_held r.networks id name ∙ held))
        (λ _. tt)
        (subst (IsSame (without_network r id name)) (sym is) (same_itself (without_network r id name)))

module _ (r : Register) (tenant name : Bytes) (settings : Settings) where
  pub nobody_adds : id_of r.tenants tenant ≡ None → IsStep r (AddNetwork tenant name settings) (Refused NoSuchTenant) r
  nobody_adds none = refused r (AddNetwork tenant name settings) NoSuchTenant (ap (network_added r name settings 0) none)

  module _ (id : ℕ) (known : id_of r.tenants tenant ≡ Some id) where
    pub not_added : (why : OrderRefusal) → first_refusal (network_checks r id name settings) ≡ Some why → IsStep r (AddNetwork tenant name settings) (Refused why) r
    not_added why is = refused r (AddNetwork tenant name settings) why (ap (network_added r name settings 0) known ∙ ap (λ o. given o r (with_new_network r 0 id name (new_network settings))) is)

    pub network_added_is : (s : Register) (new : ℕ) → first_refusal (network_checks r id name settings) ≡ None → IsId new → list_any (nat_eq new) (map (λ (h : NetworkEntry). h.id) r.networks) ≡ false
        → s.networks ≡ r.networks ++ record { id = new; tenant = id; name = name; network = new_network settings } ∷ [] → s.tenants ≡ r.tenants → s.tokens ≡ r.tokens → s.readers ≡ r.readers → IsStep r (AddNetwork tenant name settings) Done s
    network_added_is s new passed is_id unused networks tenants tokens readers =
        let o : EventOutcome = (Done, with_new_network r new id name (new_network settings)) in
        step_is r s (AddNetwork tenant name settings) new o
        (ap (network_added r name settings new) known ∙ ap (λ o. given o r (with_new_network r new id name (new_network settings))) passed)
        (λ _. (is_id, unused))
        (record {
          tenants = subst (IsPermutation r.tenants) (sym tenants) (IsPermutation-refl r.tenants);
          tokens = subst (IsPermutation r.tokens) (sym tokens) (IsPermutation-refl r.tokens);
          readers = subst (IsPermutation r.readers) (sym readers) (IsPermutation-refl r.readers);
          networks = at_end (record { id = new; tenant = id; name = name; network = new_network settings }) r.networks s.networks networks;
        })

-- ---- the checks of a new network

abbrev pub five : Bool → Bool → Option OrderRefusal → Bool → Bool → Option OrderRefusal
five held pool overlap port full = first_refusal (refuse held NameHeld ∷ refuse (not pool) BadPool ∷ overlap ∷ refuse port PortHeld ∷ refuse full RegisterFull ∷ [])

five_is : (a f : Bool) (b g : Bool) (c h : Option OrderRefusal) (d i : Bool) (e j : Bool) → a ≡ f → b ≡ g → c ≡ h → d ≡ i → e ≡ j → five a b c d e ≡ five f g h i j
five_is a f b g c h d i e j p q r s t = ap (λ x. five x b c d e) p ∙ ap (λ x. five f x c d e) q ∙ ap (λ x. five f g x d e) r ∙ ap (λ x. five f g h x e) s ∙ ap (five f g h i) t

module _ (r : Register) (id : ℕ) (name : Bytes) (s : Settings) where
  five_checks : (f g : Bool) (h : Option OrderRefusal) (i j : Bool) → is_some (network_at r.networks id name) ≡ f → is_pool s.pool ≡ g → pool_refusal (overlapping r.tenants r.networks s.pool) ≡ h → has_endpoint r.networks (s.host, s.port) ≡ i → is_full r.networks ≡ j
      → first_refusal (network_checks r id name s) ≡ five f g h i j
  five_checks f g h i j a b c d e = five_is (has_slot r.networks id name) f (is_pool s.pool) g (pool_refusal (overlapping r.tenants r.networks s.pool)) h (has_endpoint r.networks (s.host, s.port)) i (is_full r.networks) j (slot_is_held r.networks id name ∙ a) b c d e

  pub name_refusal : is_some (network_at r.networks id name) ≡ true → first_refusal (network_checks r id name s) ≡ Some NameHeld
  name_refusal a = five_checks true (is_pool s.pool) (pool_refusal (overlapping r.tenants r.networks s.pool)) (has_endpoint r.networks (s.host, s.port)) (is_full r.networks) a refl refl refl refl

  module _ (a : is_some (network_at r.networks id name) ≡ false) where
    pub pool_is_bad : is_pool s.pool ≡ false → first_refusal (network_checks r id name s) ≡ Some BadPool
    pool_is_bad b = five_checks false false (pool_refusal (overlapping r.tenants r.networks s.pool)) (has_endpoint r.networks (s.host, s.port)) (is_full r.networks) a b refl refl refl

    module _ (b : is_pool s.pool ≡ true) where
      pub pool_is_held : (why : OrderRefusal) → pool_refusal (overlapping r.tenants r.networks s.pool) ≡ Some why → first_refusal (network_checks r id name s) ≡ Some why
      pool_is_held why c = five_checks false true (Some why) (has_endpoint r.networks (s.host, s.port)) (is_full r.networks) a b c refl refl

      module _ (c : pool_refusal (overlapping r.tenants r.networks s.pool) ≡ None) where
        pub port_is_held : has_endpoint r.networks (s.host, s.port) ≡ true → first_refusal (network_checks r id name s) ≡ Some PortHeld
        port_is_held d = five_checks false true None true (is_full r.networks) a b c d refl

        pub room_decides : (full : Bool) → has_endpoint r.networks (s.host, s.port) ≡ false → is_full r.networks ≡ full → first_refusal (network_checks r id name s) ≡ five false true None false full
        room_decides full d e = five_checks false true None false full a b c d e
