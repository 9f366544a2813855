-- Each event, seen by each tenant.
use Rattle.std.proofs.Common.{◌≡◌, ℕ, Bool, true, false, cond, not, ◌&&◌, ◌||◌, List, [], ◌∷◌, map, filter, Some, None, Option, is_some, nat_eq, refl, sym, ap, ap₂, ◌∙◌, arith}
use Rattle.std.specs.Prelude.{if◌then◌else◌}
use Rattle.std.specs.List.{list_any, IsDistinct, AllByRecursion}
use Rattle.std.specs.Ordering.{nat_cmp}
use Rattle.std.specs.Cmp.Lexicographic.{slice_cmp, nat_list_cmp_total}
use Rattle.std.specs.FinMap as map_
use Rattle.std.specs.FinMap.{FinMap, get-empty, get-remove}
use Rattle.std.proofs.lemmas.Bool.Decides.{nat_tests}
use Rattle.wgr_core.specs.Network.{NetworkValue}
use Rattle.wgr_core.specs.declared.command.Command.{Command}
use Rattle.wgr_model.specs.Consistent.{IsConsistent, has_digest, has_tenant, same_slot, slot}
use Rattle.wgr_model.specs.declared.right.Right.{Right}
use Rattle.wgr_model.specs.declared.right.Right.TheVariants.{Full}
use Rattle.wgr_model.specs.Register.{Bytes, Register, Tenant, View, digests_of, empty_view, id_of, is_same, right_of, tenant_view, view_at, view_of}
use Rattle.wgr_model.specs.Steps.{AddNetwork, AddTenant, Ask, Decided, DigestHeld, Done, EndNetwork, EndToken, Event, Grant, IsUnused, NameHeld, Networks, NoNetwork, NoSuchToken, OrderRefusal, EventOutcome, RegisterFull, Settings, allows, ask, first_refusal, given, grant_checks, granted, has_name, has_slot, is_done, is_full, listed, network_added, network_at, network_checks, network_ended, new_network, ordered, outcome, refuse, tenant_checks, tenant_of_token, with_new_network, with_reader, with_tenant, with_token, without_network, without_token}
use Rattle.wgr_model.specs.Tenants.{after_allowed, after_asked, knows, put_view, tenant_after}
use Rattle.wgr_model.proofs.LookLemmas.{digest_gone, id_of_none, id_of_same, in_digests, is_id, is_same_is, network_gone, no_digests, no_networks, no_reader, none_some, one_name, right_ended, right_granted, same_exact}
use Rattle.wgr_model.proofs.ViewLemmas.{ask_tenants, ask_view, get_view, gone_map, put_map, right_token, right_view, same_entries}

-- the view after the event is that of the tenant alone
abbrev pub Sees : Bytes → Register → Event → EventOutcome → Type 0
Sees me r e o = tenant_view o.1 me ≡ tenant_after me (tenant_view r me) e (is_done o.0)

-- another name is of another id
pub same_tenant : (ts : List Tenant) (me tenant : Bytes) (id : ℕ) → IsDistinct nat_eq (map (λ t. t.id) ts) → id_of ts tenant ≡ Some id → is_same me tenant ≡ is_id (id_of ts me) id
same_tenant ts me tenant id u e = by_test (is_same me tenant) (id_of ts me) refl refl where
  by_test : (b : Bool) (mine : Option ℕ) → is_same me tenant ≡ b → id_of ts me ≡ mine → b ≡ is_id mine id
  by_test true mine t m = grind (arith, nat_tests, id_of_same ts me tenant t, e, m)
  by_test false None t m = refl
  by_test false (Some i) t m = grind (arith, nat_tests, one_name ts me tenant id u, e, m, t)

-- ---- an ask
ask_sees : (me : Bytes) (r : Register) (digest name : Bytes) (now : ℕ) (command : Command) → IsDistinct is_same (map (λ t. t.digest) r.tokens) → Sees me r (Ask digest name now command) (ask r digest name now command (tenant_of_token r.tokens digest))
ask_sees me r digest name now command u = ap (λ ts. view_of after (id_of ts me)) (ask_tenants r digest name now command (tenant_of_token r.tokens digest)) ∙ by_id (id_of r.tenants me) where
  after : Register
  after = (ask r digest name now command (tenant_of_token r.tokens digest)).1

  right : Right
  right = right_of r.readers digest

  allowed : (v : View) (n : Option NetworkValue) → View
  allowed v n = if allows right command then after_asked v name now command n else v

  if_allowed : (v : View) (n : Option NetworkValue) → map_.get v.networks name ≡ n → (b : Bool) → (if b then allowed v n else v) ≡ after_allowed v name now command (if b then Some right else None)
  if_allowed v n e true = ap (λ m. if allows right command then after_asked v name now command m else v) (sym e)
  if_allowed v n e false = refl

  by_id : (mine : Option ℕ) → view_of after mine ≡ after_allowed (view_of r mine) name now command (map_.get (view_of r mine).rights digest)
  by_id None = ap (after_allowed empty_view name now command) (sym (get-empty (slice_cmp nat_cmp) digest))
  by_id (Some i) = ask_view r i digest name now command (tenant_of_token r.tokens digest)
      ∙ if_allowed (view_at r i) (network_at r.networks i name) (get_view r i name) (is_id (tenant_of_token r.tokens digest) i)
      ∙ ap (after_allowed (view_at r i) name now command) (sym (right_token r i digest u))

-- ---- an order is refused, or all its checks pass
gives : (me : Bytes) (r s : Register) (e : Event) (checks : List (Option OrderRefusal)) → tenant_after me (tenant_view r me) e false ≡ tenant_view r me → (first_refusal checks ≡ None → Sees me r e (Done, s)) → Sees me r e (ordered checks r s)
gives me r s e checks same h = by_check (first_refusal checks) refl where
  by_check : (why : Option OrderRefusal) → first_refusal checks ≡ why → Sees me r e (given why r s)
  by_check (Some why) f = sym same
  by_check None f = h f

-- where no check fails, the order is done
pub is_accepted : (r s : Register) (checks : List (Option OrderRefusal)) → first_refusal checks ≡ None → is_done (ordered checks r s).0 ≡ true
is_accepted r s checks f = ap (λ why. is_done (given why r s).0) f

pub passed : (check : Option OrderRefusal) (checks : List (Option OrderRefusal)) → first_refusal (check ∷ checks) ≡ None → (check ≡ None) × (first_refusal checks ≡ None)
passed (Some why) checks e = absurd (none_some (sym e))
passed None checks e = (refl, e)

pub not_refused : (b : Bool) (why : OrderRefusal) → refuse b why ≡ None → b ≡ false
not_refused true why e = absurd (none_some (sym e))
not_refused false why e = refl

-- ---- orders on tenants and tokens
tenant_added : (r : Register) (me name : Bytes) (new : ℕ) → AllByRecursion (λ t. has_tenant r.tenants t.tenant ≡ true) r.tokens → AllByRecursion (λ h. has_tenant r.tenants h.tenant ≡ true) r.networks → has_tenant r.tenants new ≡ false → has_name r.tenants name ≡ false → (b : Bool) → is_same me name ≡ b → view_of r (if b then Some new else id_of r.tenants me) ≡ tenant_view r me
tenant_added r me name new ts hs unused free true e =
    (λ i. record { rights = map_.from_entries (map (λ d. (d, right_of r.readers d)) (no_digests r.tokens r.tenants new ts unused i)); networks = map_.from_entries (no_networks r.networks r.tenants new hs unused i) })
    ∙ ap (view_of r) (sym (id_of_same r.tenants me name e ∙ id_of_none r.tenants name free))
tenant_added r me name new ts hs unused free false e = refl

-- the tenants are no part of what an id has
other_tenants : (r : Register) (ts : List Tenant) (x : Option ℕ) → view_of (record r { tenants = ts }) x ≡ view_of r x
other_tenants r ts None = refl
other_tenants r ts (Some i) = refl

-- a tenant's rights with one token more
put_rights : (r : Register) (d : Bytes) (right : Right) (id i : ℕ) → (q : Bytes) → list_any (is_same d) (digests_of r.tokens i) ≡ false → right_of (with_reader right d r.readers) q ≡ (if is_same q d then right else right_of r.readers q)
    → (if list_any (is_same q) (digests_of (record { digest = d; tenant = id } ∷ r.tokens) i) then Some (right_of (with_reader right d r.readers) q) else None)
    ≡ (if nat_eq id i && is_same q d then Some right else (if list_any (is_same q) (digests_of r.tokens i) then Some (right_of r.readers q) else None))
put_rights r d right id i q free e = ap (λ x. if list_any (is_same q) (digests_of (record { digest = d; tenant = id } ∷ r.tokens) i) then Some x else None) e ∙ by_test (nat_eq id i) (is_same q d) refl where
  there : Bool
  there = list_any (is_same q) (digests_of r.tokens i)

  by_test : (b c : Bool) → is_same q d ≡ c
      → (if list_any (is_same q) (map (λ t. t.digest) (cond b (record { digest = d; tenant = id } ∷ filter (λ t. nat_eq t.tenant i) r.tokens) (filter (λ t. nat_eq t.tenant i) r.tokens))) then Some (if c then right else right_of r.readers q) else None)
      ≡ (if b && c then Some right else (if list_any (is_same q) (digests_of r.tokens i) then Some (right_of r.readers q) else None))
  by_test true true f = ap (λ x. if x || list_any (is_same q) (digests_of r.tokens i) then Some right else None) f
  by_test true false f = ap (λ x. if x || list_any (is_same q) (digests_of r.tokens i) then Some (right_of r.readers q) else None) f
  by_test false false f = refl
  by_test false true f =
      let none : list_any (is_same q) (digests_of r.tokens i) ≡ false = ap (λ x. list_any (is_same x) (digests_of r.tokens i)) (same_exact q d f) ∙ free in
      ap (λ x. if x then Some right else None) none ∙ sym (ap (λ x. if x then Some (right_of r.readers q) else None) none)

as_rights : (v : View) (m : FinMap (slice_cmp nat_cmp) Right) → (b : Bool) (other : FinMap (slice_cmp nat_cmp) Right) → m ≡ (if b then other else v.rights) → ◌≡◌ {A = View} (record { rights = m; networks = v.networks }) (if b then record v { rights = other } else v)
as_rights v m true other e = ap {B = View} (λ x. record { rights = x; networks = v.networks }) e
as_rights v m false other e = ap {B = View} (λ x. record { rights = x; networks = v.networks }) e

token_added : (r : Register) (d : Bytes) (id : ℕ) (right : Right) → IsConsistent r → has_digest r.tokens d ≡ false → (mine : Option ℕ) → view_of (with_token r d id right) mine ≡ (if is_id mine id then record (view_of r mine) { rights = map_.insert (view_of r mine).rights d right } else view_of r mine)
token_added r d id right good free None = refl
token_added r d id right good free (Some i) =
    as_rights (view_at r i) (view_at (with_token r d id right) i).rights (nat_eq i id) (map_.insert (view_at r i).rights d right)
    (put_map (nat_eq i id) (view_at r i).rights (view_at (with_token r d id right) i).rights d right (λ q.
    right_view (with_token r d id right) i q
    ∙ put_rights r d right id i q (in_digests r.tokens i d free) (right_granted right r.readers d q (no_reader r.tokens r.readers d good.reader_tokens free))
    ∙ ap₂ (λ b x. if b && is_same q d then Some right else x) (eqb_turn id i) (sym (right_view r i q)))) where
      eqb_turn : (a b : ℕ) → nat_eq a b ≡ nat_eq b a
      eqb_turn a b = grind (arith, nat_tests)

network_more : (r : Register) (name : Bytes) (n : NetworkValue) (new id : ℕ) (mine : Option ℕ) → view_of (record r { networks = record { id = new; tenant = id; name = name; network = n } ∷ r.networks }) mine ≡ (if is_id mine id then put_view (view_of r mine) name n else view_of r mine)
network_more r name n new id None = refl
network_more r name n new id (Some i) = grind (arith, nat_tests)

-- a map without a key that isn't there
pub remove_if : (m : FinMap (slice_cmp nat_cmp) Right) (d : Bytes) → map_.remove m d ≡ (if is_some (map_.get m d) then map_.remove m d else m)
remove_if m d = by_test (map_.get m d) refl where
  stays : (q : Bytes) (b : Bool) → is_same q d ≡ b → map_.get m d ≡ None → cond b None (map_.get m q) ≡ map_.get m q
  stays q true e none = sym (ap (map_.get m) (same_exact q d e) ∙ none)
  stays q false e none = refl

  by_test : (x : Option Right) → map_.get m d ≡ x → map_.remove m d ≡ (if is_some x then map_.remove m d else m)
  by_test (Some right) e = refl
  by_test None e = same_entries (map_.remove m d) m (λ q. get-remove nat_list_cmp_total m d q ∙ ap (λ b. cond b None (map_.get m q)) (is_same_is q d) ∙ stays q (is_same q d) refl e)

if_record : (b : Bool) (v : View) (m : FinMap (slice_cmp nat_cmp) Right) → ◌≡◌ {A = View} (record { rights = if b then m else v.rights; networks = v.networks }) (if b then record v { rights = m } else v)
if_record true v m = refl
if_record false v m = refl

-- a tenant's rights without those of one token
left_rights : (r : Register) (d : Bytes) (i : ℕ) (q : Bytes)
    → (if list_any (is_same q) (digests_of (without_token r d).tokens i) then Some (right_of (without_token r d).readers q) else None) ≡ (if is_same q d then None else (if list_any (is_same q) (digests_of r.tokens i) then Some (right_of r.readers q) else None))
left_rights r d i q = ap₂ (λ b x. if b then Some x else None) (digest_gone r.tokens i d q) (right_ended r.readers d q) ∙ by_test (is_same q d) where
  by_test : (b : Bool) → (if not b && list_any (is_same q) (digests_of r.tokens i) then Some (if b then Full else right_of r.readers q) else None) ≡ (if b then None else (if list_any (is_same q) (digests_of r.tokens i) then Some (right_of r.readers q) else None))
  by_test true = refl
  by_test false = refl

token_gone : (r : Register) (d : Bytes) (mine : Option ℕ) → view_of (without_token r d) mine ≡ record (view_of r mine) { rights = map_.remove (view_of r mine).rights d }
token_gone r d None = ap {B = View} (λ x. record { rights = x; networks = map_.empty }) (gone_map true map_.empty map_.empty d (λ q. get-empty (slice_cmp nat_cmp) q ∙ by_test q (is_same q d))) where
  by_test : (q : Bytes) (b : Bool) → None ≡ (if b then None else map_.get {X = Right} {R = slice_cmp nat_cmp} map_.empty q)
  by_test q true = refl
  by_test q false = sym (get-empty (slice_cmp nat_cmp) q)
token_gone r d (Some i) = ap {B = View} (λ x. record { rights = x; networks = (view_at r i).networks }) (gone_map true (view_at r i).rights (view_at (without_token r d) i).rights d (λ q.
    right_view (without_token r d) i q ∙ left_rights r d i q ∙ ap (λ x. if is_same q d then None else x) (sym (right_view r i q))))

token_ended : (r : Register) (d : Bytes) (mine : Option ℕ) → view_of (without_token r d) mine ≡ (if knows (view_of r mine) d then record (view_of r mine) { rights = map_.remove (view_of r mine).rights d } else view_of r mine)
token_ended r d mine = token_gone r d mine
    ∙ ap {B = View} (λ x. record { rights = x; networks = (view_of r mine).networks }) (remove_if (view_of r mine).rights d)
    ∙ if_record (knows (view_of r mine) d) (view_of r mine) (map_.remove (view_of r mine).rights d)

network_less : (r : Register) (name : Bytes) (id : ℕ) (mine : Option ℕ) → view_of (record r { networks = filter (λ h. not (same_slot (id, name) (slot h))) r.networks }) mine ≡ (if is_id mine id then record (view_of r mine) { networks = map_.remove (view_of r mine).networks name } else view_of r mine)
network_less r name id None = refl
network_less r name id (Some i) = by_test (nat_eq i id) refl where
  after : Register
  after = record r { networks = filter (λ h. not (same_slot (id, name) (slot h))) r.networks }

  got : (q : Bytes) → map_.get (view_at after i).networks q ≡ (if nat_eq i id && is_same q name then None else map_.get (view_at r i).networks q)
  got q = get_view after i q ∙ network_gone r.networks id i name q ∙ ap (λ x. if nat_eq i id && is_same q name then None else x) (sym (get_view r i q))

  by_test : (b : Bool) → nat_eq i id ≡ b → view_at after i ≡ (if b then record (view_at r i) { networks = map_.remove (view_at r i).networks name } else view_at r i)
  by_test true e = ap {B = View} (λ x. record { rights = (view_at r i).rights; networks = x }) (gone_map true (view_at r i).networks (view_at after i).networks name (λ q. got q ∙ ap (λ b. if b && is_same q name then None else map_.get (view_at r i).networks q) e))
  by_test false e = ap {B = View} (λ x. record { rights = (view_at r i).rights; networks = x }) (gone_map false (view_at r i).networks (view_at after i).networks name (λ q. got q ∙ ap (λ b. if b && is_same q name then None else map_.get (view_at r i).networks q) e))

module _ (me : Bytes) (r : Register) (good : IsConsistent r) where
  grant_sees : (tenant digest : Bytes) (right : Right) (id : Option ℕ) → id_of r.tenants tenant ≡ id → Sees me r (Grant tenant digest right) (granted r digest right id)
  grant_sees tenant digest right None e = refl
  grant_sees tenant digest right (Some id) e =
      gives me r (with_token r digest id right) (Grant tenant digest right) (grant_checks r digest) refl λ free.
      let first = passed (refuse (has_digest r.tokens digest) DigestHeld) (refuse (is_full r.tokens) RegisterFull ∷ []) free in
      token_added r digest id right good (not_refused (has_digest r.tokens digest) DigestHeld first.0) (id_of r.tenants me)
      ∙ ap (λ b. if b then record (tenant_view r me) { rights = map_.insert (tenant_view r me).rights digest right } else tenant_view r me) (sym (same_tenant r.tenants me tenant id good.ids e))

  network_added_sees : (tenant name : Bytes) (s : Settings) (new : ℕ) (id : Option ℕ) → id_of r.tenants tenant ≡ id → Sees me r (AddNetwork tenant name s) (network_added r name s new id)
  network_added_sees tenant name s new None e = refl
  network_added_sees tenant name s new (Some id) e =
      gives me r (with_new_network r new id name (new_network s)) (AddNetwork tenant name s) (network_checks r id name s) refl λ _.
      network_more r name (new_network s) new id (id_of r.tenants me) ∙ ap (λ b. if b then put_view (tenant_view r me) name (new_network s) else tenant_view r me) (sym (same_tenant r.tenants me tenant id good.ids e))

  network_ended_sees : (tenant name : Bytes) (id : Option ℕ) → id_of r.tenants tenant ≡ id → Sees me r (EndNetwork tenant name) (network_ended r name id)
  network_ended_sees tenant name None e = refl
  network_ended_sees tenant name (Some id) e =
      gives me r (without_network r id name) (EndNetwork tenant name) (refuse (not (has_slot r.networks id name)) NoNetwork ∷ []) refl λ _.
      network_less r name id (id_of r.tenants me) ∙ ap (λ b. if b then record (tenant_view r me) { networks = map_.remove (tenant_view r me).networks name } else tenant_view r me) (sym (same_tenant r.tenants me tenant id good.ids e))

  listed_sees : (digest : Bytes) (id : Option ℕ) → Sees me r (Networks digest) (listed r id)
  listed_sees digest None = refl
  listed_sees digest (Some id) = refl

  tenant_added_sees : (name : Bytes) (new : ℕ) → (is_done (outcome r (AddTenant name) new).0 ≡ true → IsUnused r (AddTenant name) new) → Sees me r (AddTenant name) (outcome r (AddTenant name) new)
  tenant_added_sees name new unused =
      gives me r (with_tenant r name new) (AddTenant name) (tenant_checks r name) refl λ free.
      let first = passed (refuse (has_name r.tenants name) NameHeld) (refuse (is_full r.tenants) RegisterFull ∷ []) free in
      other_tenants r (record { id = new; name = name } ∷ r.tenants) (if is_same me name then Some new else id_of r.tenants me)
      ∙ tenant_added r me name new good.token_tenants good.network_tenants (unused (is_accepted r (with_tenant r name new) (tenant_checks r name) free)).1 (not_refused (has_name r.tenants name) NameHeld first.0) (is_same me name) refl

  -- what a tenant sees after any event is what it alone makes of what it saw
  pub step_sees : (e : Event) (new : ℕ) → (is_done (outcome r e new).0 ≡ true → IsUnused r e new) → Sees me r e (outcome r e new)
  step_sees (Decided digest reply) new unused = refl
  step_sees (Ask digest name now command) new unused = ask_sees me r digest name now command good.digests
  step_sees (Networks digest) new unused = listed_sees digest (tenant_of_token r.tokens digest)
  step_sees (AddTenant name) new unused = tenant_added_sees name new unused
  step_sees (Grant tenant digest right) new unused = grant_sees tenant digest right (id_of r.tenants tenant) refl
  step_sees (EndToken digest) new unused = gives me r (without_token r digest) (EndToken digest) (refuse (not (has_digest r.tokens digest)) NoSuchToken ∷ []) refl λ _. token_ended r digest (id_of r.tenants me)
  step_sees (AddNetwork tenant name settings) new unused = network_added_sees tenant name settings new (id_of r.tenants tenant) refl
  step_sees (EndNetwork tenant name) new unused = network_ended_sees tenant name (id_of r.tenants tenant) refl
