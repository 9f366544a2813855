-- A good register stays good.
use Rattle.std.proofs.Common.{◌≡◌, ℕ, ◌+◌, ◌≤◌, Bool, true, false, cond, not, ◌&&◌, ◌||◌, List, [], ◌∷◌, length, map, filter, Some, None, Option, Result, Ok, Err, nat_eq, refl, sym, ap, subst, ◌∙◌, arith, true≢false, eqb-true, le_trans}
use Rattle.std.specs.Prelude.{if◌then◌else◌}
use Rattle.std.specs.List.{list_any, IsDistinct, AllByRecursion}
use Rattle.std.proofs.lemmas.Map.Keys.{IsDistinct-head, IsDistinct-tail, IsDistinct-cons}
use Rattle.std.proofs.lemmas.Bool.Decides.{nat_tests}
use Rattle.std.specs.Prelude.{IfOk, nat_le, nat_lt, ◌^◌, ◌%◌}
use Rattle.std.specs.List.{AllPairs}
use Rattle.std.proofs.lemmas.List.Elements.{All-nil}
use Rattle.wgr_text.specs.Prefix.{PrefixValue, block, width}
use Rattle.wgr_text.specs.declared.addr.Family.{Family}
use Rattle.wgr_text.specs.declared.addr.Family.TheVariants.{V4, V6}
use Rattle.wgr_pool.proofs.Bools.{not_false}
use Rattle.wgr_pool.specs.Pool.{IsPool, IsPoolLength}
use Rattle.wgr_peers.specs.Host.{IsHost}
use Rattle.wgr_peers.specs.Limits.{IsCapacity, IsPort}
use Rattle.wgr_peers.specs.Peers.{IsApart, IsNumberedBelow}
use Rattle.wgr_peers.specs.Routes.{ComesBefore}
use Rattle.wgr_laws.proofs.FormLemmas.{commands_keep_the_forms}
use Rattle.wgr_laws.proofs.FrameLemmas.{settings_stay}
use Rattle.wgr_core.specs.Forms.{HasForms, IsPeerFormed, IsFormedCommand}
use Rattle.wgr_core.proofs.OutcomeLemmas.{outcome_keeps}
use Rattle.wgr_laws.specs.Laws.{HasSettingsOf}
use Rattle.wgr_core.specs.Network.{IsMember, IsNetwork, IsRoute, NetworkValue}
use Rattle.wgr_core.specs.Outcome.{IsAsked}
use Rattle.wgr_core.specs.declared.command.Command.{Command}
use Rattle.wgr_core.specs.declared.refusal.CommandRefusal.{CommandRefusal}
use Rattle.wgr_core.specs.declared.reply.Reply.{Reply}
use Rattle.wgr_model.specs.Consistent.{IsConsistent, IsDigest, IsNetworkEntry, IsId, IsName, endpoint, has_digest, has_tenant, is_pool, is_pool_length, overlaps, pool_of, same_endpoint, same_slot, slot}
use Rattle.wgr_model.specs.declared.right.Right.{Right}
use Rattle.wgr_model.specs.declared.right.Right.TheVariants.{Full, Read}
use Rattle.wgr_model.specs.Register.{Bytes, NetworkEntry, Register, Tenant, Token, id_of, is_same, right_of}
use Rattle.wgr_model.specs.Steps.{AddNetwork, AddTenant, Ask, BadPool, Decided, DigestHeld, EndNetwork, EndToken, Event, Grant, IsProper, IsProperCommand, IsUnused, NameHeld, Networks, NoNetwork, NoSuchToken, OrderRefusal, PortHeld, ReadOnly, RegisterFull, Settings, act, acted, allows, ask, asked, first_refusal, given, grant_checks, granted, has_endpoint, has_name, has_network, has_slot, is_done, is_full, listed, name_of, network_added, network_at, network_checks, network_ended, new_network, ordered, outcome, overlapping, pool_refusal, put_network, refuse, tenant_checks, tenant_of_token, with_network, with_new_network, with_reader, with_tenant, with_token, without_network, without_reader, without_token}
use Rattle.wgr_model.proofs.LookLemmas.{is_same_refl, no_reader, none_some, same_exact}
use Rattle.wgr_model.proofs.SeenLemmas.{is_accepted, not_refused, passed}

-- ---- lists
none_of : {K : Type 0} (e : K → K → Bool) (x : K) (ys : List K) → list_any (e x) ys ≡ false → AllByRecursion (λ y. e x y ≡ false) ys
none_of e x [] h = tt
none_of e x (y ∷ ys) h = split (e x y) (list_any (e x) ys) h (none_of e x ys) where
  split : (a b : Bool) → (a || b) ≡ false → (b ≡ false → AllByRecursion (λ y. e x y ≡ false) ys) → (a ≡ false) × AllByRecursion (λ y. e x y ≡ false) ys
  split true b h rest = absurd (true≢false h)
  split false b h rest = (refl, rest h)

joins : {K : Type 0} (e : K → K → Bool) (x : K) (ys : List K) → list_any (e x) ys ≡ false → IsDistinct e ys → IsDistinct e (x ∷ ys)
joins e x ys h u = IsDistinct-cons e x ys (none_of e x ys h) u

weaken : {A : Type 0} (P Q : A → Type 0) → ((x : A) → P x → Q x) → (xs : List A) → AllByRecursion P xs → AllByRecursion Q xs
weaken P Q h [] all = tt
weaken P Q h (x ∷ xs) all = (h x all.0, weaken P Q h xs all.1)

pub all_filter : {A : Type 0} (P : A → Type 0) (p : A → Bool) (xs : List A) → AllByRecursion P xs → AllByRecursion P (filter p xs)
all_filter P p [] all = tt
all_filter P p (x ∷ xs) all = keep (p x) (all_filter P p xs all.1) where
  keep : (b : Bool) → AllByRecursion P (filter p xs) → AllByRecursion P (cond b (x ∷ filter p xs) (filter p xs))
  keep true rest = (all.0, rest)
  keep false rest = rest

pub all_map_filter : {A B : Type 0} (P : B → Type 0) (f : A → B) (p : A → Bool) (xs : List A) → AllByRecursion P (map f xs) → AllByRecursion P (map f (filter p xs))
all_map_filter P f p [] all = tt
all_map_filter P f p (x ∷ xs) all = keep (p x) (all_map_filter P f p xs all.1) where
  keep : (b : Bool) → AllByRecursion P (map f (filter p xs)) → AllByRecursion P (map f (cond b (x ∷ filter p xs) (filter p xs)))
  keep true rest = (all.0, rest)
  keep false rest = rest

pub distinct_filter : {A B : Type 0} (e : B → B → Bool) (f : A → B) (p : A → Bool) (xs : List A) → IsDistinct e (map f xs) → IsDistinct e (map f (filter p xs))
distinct_filter e f p [] u = u
distinct_filter e f p (x ∷ xs) u = keep (p x) (distinct_filter e f p xs (IsDistinct-tail e (f x) (map f xs) u)) where
  keep : (b : Bool) → IsDistinct e (map f (filter p xs)) → IsDistinct e (map f (cond b (x ∷ filter p xs) (filter p xs)))
  keep true rest = IsDistinct-cons e (f x) (map f (filter p xs)) (all_map_filter (λ y. e (f x) y ≡ false) f p xs (IsDistinct-head e (f x) (map f xs) u)) rest
  keep false rest = rest

distinct_left : {A : Type 0} (e : A → A → Bool) (p : A → Bool) (xs : List A) → IsDistinct e xs → IsDistinct e (filter p xs)
distinct_left e p [] u = u
distinct_left e p (x ∷ xs) u = keep (p x) (distinct_left e p xs (IsDistinct-tail e x xs u)) where
  keep : (b : Bool) → IsDistinct e (filter p xs) → IsDistinct e (cond b (x ∷ filter p xs) (filter p xs))
  keep true rest = IsDistinct-cons e x (filter p xs) (all_filter (λ y. e x y ≡ false) p xs (IsDistinct-head e x xs u)) rest
  keep false rest = rest

pub shorter : {A : Type 0} (p : A → Bool) (xs : List A) → length (filter p xs) ≤ length xs
shorter p [] = omega arith
shorter p (x ∷ xs) = grind (arith, shorter p xs)

room : {A : Type 0} (xs : List A) → is_full xs ≡ false → length xs + 1 ≤ 65536
room xs h = grind (arith, nat_tests, h)

more_tenants : (id : ℕ) (t : Tenant) (ts : List Tenant) → has_tenant ts id ≡ true → has_tenant (t ∷ ts) id ≡ true
more_tenants id t ts h = grind (arith, nat_tests, h)

first_tenant : (id : ℕ) (q : Bytes) (ts : List Tenant) → id_of ts q ≡ Some id → has_tenant ts id ≡ true
first_tenant id q [] h = absurd (none_some h)
first_tenant id q (t ∷ ts) h = grind (arith, nat_tests, h, first_tenant id q ts)

-- ---- the tokens that only read
more_tokens : (d : Bytes) (t : Token) (ts : List Token) → has_digest ts d ≡ true → has_digest (t ∷ ts) d ≡ true
more_tokens d t ts h = by_test (is_same d t.digest) where
  by_test : (b : Bool) → (b || has_digest ts d) ≡ true
  by_test true = refl
  by_test false = h

reader_joins : (right : Right) (d : Bytes) (readers : List Bytes) → list_any (is_same d) readers ≡ false → IsDistinct is_same readers → IsDistinct is_same (with_reader right d readers)
reader_joins Full d readers free u = u
reader_joins Read d readers free u = joins is_same d readers free u

still_known : (t : Token) (ts : List Token) (readers : List Bytes) → AllByRecursion (λ x. has_digest ts x ≡ true) readers → AllByRecursion (λ x. has_digest (t ∷ ts) x ≡ true) readers
still_known t ts readers all = weaken (λ x. has_digest ts x ≡ true) (λ x. has_digest (t ∷ ts) x ≡ true) (λ x. more_tokens x t ts) readers all

reader_known : (right : Right) (d : Bytes) (t : Token) (ts : List Token) (readers : List Bytes) → is_same d t.digest ≡ true → AllByRecursion (λ x. has_digest ts x ≡ true) readers → AllByRecursion (λ x. has_digest (t ∷ ts) x ≡ true) (with_reader right d readers)
reader_known Full d t ts readers same all = still_known t ts readers all
reader_known Read d t ts readers same all = (ap (λ b. b || has_digest ts d) same, still_known t ts readers all)

-- the digests of the tokens that stay
digest_stays : (ts : List Token) (d x : Bytes) → is_same d x ≡ false → has_digest ts x ≡ true → has_digest (filter (λ t. not (is_same d t.digest)) ts) x ≡ true
digest_stays [] d x other h = h
digest_stays (t ∷ ts) d x other h = by_test (is_same d t.digest) (is_same x t.digest) refl refl h (digest_stays ts d x other) where
  rest : List Token
  rest = filter (λ t. not (is_same d t.digest)) ts

  by_test : (b c : Bool) → is_same d t.digest ≡ b → is_same x t.digest ≡ c → (c || has_digest ts x) ≡ true → (has_digest ts x ≡ true → has_digest rest x ≡ true) → has_digest (cond (not b) (t ∷ rest) rest) x ≡ true
  by_test true true e f g more = absurd (true≢false (sym (ap (is_same d) (same_exact x t.digest f) ∙ e) ∙ other))
  by_test true false e f g more = more g
  by_test false true e f g more = ap (λ b. b || has_digest rest x) f
  by_test false false e f g more = ap (λ b. b || has_digest rest x) f ∙ more g

readers_stay : (ts : List Token) (d : Bytes) (readers : List Bytes) → AllByRecursion (λ x. has_digest ts x ≡ true) readers → AllByRecursion (λ x. has_digest (filter (λ t. not (is_same d t.digest)) ts) x ≡ true) (without_reader d readers)
readers_stay ts d [] all = tt
readers_stay ts d (x ∷ xs) all = by_test (is_same d x) refl (readers_stay ts d xs all.1) where
  by_test : (b : Bool) → is_same d x ≡ b → AllByRecursion (λ x. has_digest (filter (λ t. not (is_same d t.digest)) ts) x ≡ true) (without_reader d xs) → AllByRecursion (λ x. has_digest (filter (λ t. not (is_same d t.digest)) ts) x ≡ true) (cond (not b) (x ∷ without_reader d xs) (without_reader d xs))
  by_test true e rest = rest
  by_test false e rest = (digest_stays ts d x e all.0, rest)

-- ---- a network put in its place
put_keys : {B : Type 0} (f : NetworkEntry → B) (hs : List NetworkEntry) (id : ℕ) (name : Bytes) (n old : NetworkValue) → ((h : NetworkEntry) → h.network ≡ old → f (record h { network = n }) ≡ f h) → network_at hs id name ≡ Some old → map f (with_network hs id name n) ≡ map f hs
put_keys f [] id name n old same e = refl
put_keys f (h ∷ hs) id name n old same e = by_test (nat_eq h.tenant id && is_same name h.name) e (put_keys f hs id name n old same) where
  by_test : (b : Bool) → (if b then Some h.network else network_at hs id name) ≡ Some old → (network_at hs id name ≡ Some old → map f (with_network hs id name n) ≡ map f hs) → map f (if b then record h { network = n } ∷ hs else h ∷ with_network hs id name n) ≡ f h ∷ map f hs
  by_test true g rest = let is : h.network ≡ old = grind (arith, g) in ap (λ x. x ∷ map f hs) (same h is)
  by_test false g rest = ap (λ xs. f h ∷ xs) (rest g)

put_all : (P : NetworkEntry → Type 0) (hs : List NetworkEntry) (id : ℕ) (name : Bytes) (n : NetworkValue) → ((h : NetworkEntry) → P h → P (record h { network = n })) → AllByRecursion P hs → AllByRecursion P (with_network hs id name n)
put_all P [] id name n keep all = tt
put_all P (h ∷ hs) id name n keep all = by_test (nat_eq h.tenant id && is_same name h.name) (put_all P hs id name n keep all.1) where
  by_test : (b : Bool) → AllByRecursion P (with_network hs id name n) → AllByRecursion P (if b then record h { network = n } ∷ hs else h ∷ with_network hs id name n)
  by_test true rest = (keep h all.0, all.1)
  by_test false rest = (all.0, rest)

put_held : (hs : List NetworkEntry) (id : ℕ) (name : Bytes) (n old : NetworkValue) → ((h : NetworkEntry) → h.network ≡ old → IsNetworkEntry h → IsNetworkEntry (record h { network = n })) → network_at hs id name ≡ Some old → AllByRecursion IsNetworkEntry hs → AllByRecursion IsNetworkEntry (with_network hs id name n)
put_held [] id name n old keep e all = tt
put_held (h ∷ hs) id name n old keep e all = by_test (nat_eq h.tenant id && is_same name h.name) e (λ g. put_held hs id name n old keep g all.1) where
  by_test : (b : Bool) → (if b then Some h.network else network_at hs id name) ≡ Some old → (network_at hs id name ≡ Some old → AllByRecursion IsNetworkEntry (with_network hs id name n)) → AllByRecursion IsNetworkEntry (if b then record h { network = n } ∷ hs else h ∷ with_network hs id name n)
  by_test true g rest = let is : h.network ≡ old = grind (arith, g) in (keep h is all.0, all.1)
  by_test false g rest = (all.0, rest g)

put_length : (hs : List NetworkEntry) (id : ℕ) (name : Bytes) (n : NetworkValue) → length (with_network hs id name n) ≡ length hs
put_length [] id name n = refl
put_length (h ∷ hs) id name n = grind (arith, put_length hs id name n)

found_all : (P : NetworkValue → Type 0) (hs : List NetworkEntry) (id : ℕ) (name : Bytes) (n : NetworkValue) → AllByRecursion (λ h. P h.network) hs → network_at hs id name ≡ Some n → P n
found_all P [] id name n all e = absurd (none_some e)
found_all P (h ∷ hs) id name n all e = by_test (nat_eq h.tenant id && is_same name h.name) e (found_all P hs id name n all.1) where
  by_test : (b : Bool) → (if b then Some h.network else network_at hs id name) ≡ Some n → (network_at hs id name ≡ Some n → P n) → P n
  by_test true g rest = let is : h.network ≡ n = grind (arith, g) in subst P is all.0
  by_test false g rest = rest g

-- ---- what a command leaves
pub act_keeps : (n : NetworkValue) (now : ℕ) (command : Command) (done : Reply × NetworkValue) → IsNetwork n → IsAsked command → act n now command ≡ Ok done → IsNetwork done.1
unfolding act
act_keeps n now command done rules asked is = subst (λ o. IfOk o (λ d. IsNetwork d.1)) is (outcome_keeps n now command rules asked)

act_forms : (n : NetworkValue) (now : ℕ) (command : Command) (done : Reply × NetworkValue) → IsNetwork n → HasForms n → IsFormedCommand command → act n now command ≡ Ok done → HasForms done.1
unfolding act
act_forms n now command done rules forms formed is = subst (λ o. IfOk o (λ d. HasForms d.1)) is (commands_keep_the_forms n now command rules forms formed)

pub act_settings : (n : NetworkValue) (now : ℕ) (command : Command) (done : Reply × NetworkValue) → IsNetwork n → act n now command ≡ Ok done → HasSettingsOf n done.1
unfolding act
act_settings n now command done rules is = subst (λ o. IfOk o (λ d. HasSettingsOf n d.1)) is (settings_stay n now command rules)

-- the pool of an accepted order is a pool
both : (a b : Bool) → (a && b) ≡ true → (a ≡ true) × (b ≡ true)
both true b e = (refl, e)
both false b e = absurd (true≢false (sym e))

between : (lo hi n : ℕ) → (nat_le lo n && nat_le n hi) ≡ true → (lo ≤ n) × (n ≤ hi)
between lo hi n e = (grind (arith, nat_tests, e), grind (arith, nat_tests, e))

pool_length : (f : Family) (length : ℕ) → is_pool_length f length ≡ true → IsPoolLength f length × (length ≤ width f)
pool_length V4 length e = let b = between 8 30 length e in (b, omega (arith, b.1))
pool_length V6 length e = let b = between 48 126 length e in (b, omega (arith, b.1))

pub is_pool_sound : (p : PrefixValue) → is_pool p ≡ true → IsPool p
unfolding is_pool
is_pool_sound p e =
    let outer = both (nat_lt p.address.number (2 ^ width p.address.family) && nat_eq (p.address.number % block p.address.family p.length) 0) (is_pool_length p.address.family p.length) e in
    let inner = both (nat_lt p.address.number (2 ^ width p.address.family)) (nat_eq (p.address.number % block p.address.family p.length) 0) outer.0 in
    let lengths = pool_length p.address.family p.length outer.1 in
    (grind (arith, nat_tests, inner.0), (lengths.1, eqb-true (p.address.number % block p.address.family p.length) 0 inner.1), lengths.0)

no_pairs : {X : Type 0} (R : X → X → Type 0) → AllPairs R []
no_pairs R = λ i j d lt short. absurd (omega (arith, short))

-- a network without peers keeps the rules
pub new_keeps : (s : Settings) → IsPool s.pool → IsPort s.port → IsCapacity s.capacity → IsNetwork (new_network s)
new_keeps s pool port capacity = record {
  pool = pool;
  port = port;
  capacity = capacity;
  next = (omega arith, omega arith);
  room = omega arith;
  members = All-nil (IsMember (new_network s));
  numbered = no_pairs IsNumberedBelow;
  apart = no_pairs IsApart;
  few_routes = omega arith;
  routes = All-nil (IsRoute (new_network s));
  ordered = no_pairs ComesBefore;
}

-- where no pool overlaps, none is named
no_overlap : (ts : List Tenant) (hs : List NetworkEntry) (pool : PrefixValue) → pool_refusal (overlapping ts hs pool) ≡ None → list_any (overlaps pool) (map pool_of hs) ≡ false
no_overlap ts [] pool e = refl
no_overlap ts (h ∷ hs) pool e = by_test (overlaps pool h.network.pool) e (no_overlap ts hs pool) where
  by_test : (b : Bool) → pool_refusal (map (λ k. (name_of ts k.tenant, k.name)) (cond b (h ∷ filter (λ k. overlaps pool k.network.pool) hs) (filter (λ k. overlaps pool k.network.pool) hs))) ≡ None → (pool_refusal (overlapping ts hs pool) ≡ None → list_any (overlaps pool) (map pool_of hs) ≡ false) → (b || list_any (overlaps pool) (map pool_of hs)) ≡ false
  by_test true e rest = absurd (none_some (sym e))
  by_test false e rest = rest e

module _ (r : Register) (good : IsConsistent r) where
  -- ---- an ask
  put_stays : (t : ℕ) (name : Bytes) (now : ℕ) (command : Command) (n : NetworkValue) → IsProperCommand command → network_at r.networks t name ≡ Some n → (done : Reply × NetworkValue) → act n now command ≡ Ok done → IsConsistent (put_network r t name done.1)
  put_stays t name now command n is_asked e done is = record {
    names = good.names;
    ids = good.ids;
    digests = good.digests;
    readers = good.readers;
    slots = subst (IsDistinct same_slot) (sym (keys slot (λ h _. refl))) good.slots;
    network_ids = subst (IsDistinct nat_eq) (sym (keys (λ h. h.id) (λ h _. refl))) good.network_ids;
    endpoints = subst (IsDistinct same_endpoint) (sym (keys endpoint (λ h x i. ((settings.host ∙ ap (λ m. m.host) (sym x)) i, (settings.port ∙ ap (λ m. m.port) (sym x)) i)))) good.endpoints;
    pools = subst (IsDistinct overlaps) (sym (keys pool_of (λ h x. settings.pool ∙ ap (λ m. m.pool) (sym x)))) good.pools;
    token_tenants = good.token_tenants;
    reader_tokens = good.reader_tokens;
    network_tenants = put_all (λ h. has_tenant r.tenants h.tenant ≡ true) r.networks t name done.1 (λ h x. x) good.network_tenants;
    tenants = good.tenants;
    tokens = good.tokens;
    networks = put_held r.networks t name done.1 n (λ h x network_entry. record { id = network_entry.id; name = network_entry.name; host = subst IsHost (ap (λ m. m.host) x ∙ sym settings.host) network_entry.host; forms = forms_after; rules = after }) e good.networks;
    few_tenants = good.few_tenants;
    few_tokens = good.few_tokens;
    few_networks = subst (λ k. k ≤ 65536) (sym (put_length r.networks t name done.1)) good.few_networks;
  } where
    before : IsNetwork n
    before = found_all IsNetwork r.networks t name n (weaken IsNetworkEntry (λ h. IsNetwork h.network) (λ h x. x.rules) r.networks good.networks) e

    settings : HasSettingsOf n done.1
    settings = act_settings n now command done before is

    after : IsNetwork done.1
    after = act_keeps n now command done before is_asked.0 is

    forms_after : HasForms done.1
    forms_after = act_forms n now command done before (found_all HasForms r.networks t name n (weaken IsNetworkEntry (λ h. HasForms h.network) (λ h x. x.forms) r.networks good.networks) e) is_asked.1 is

    keys : {B : Type 0} (f : NetworkEntry → B) → ((h : NetworkEntry) → h.network ≡ n → f (record h { network = done.1 }) ≡ f h) → map f (with_network r.networks t name done.1) ≡ map f r.networks
    keys f same = put_keys f r.networks t name done.1 n same e

  acted_stays : (t : ℕ) (name : Bytes) (now : ℕ) (command : Command) (n : NetworkValue) → IsProperCommand command → network_at r.networks t name ≡ Some n → (x : Result (Reply × NetworkValue) CommandRefusal) → act n now command ≡ x → IsConsistent (acted r t name x).1
  acted_stays t name now command n is_asked e (Ok done) is = put_stays t name now command n is_asked e done is
  acted_stays t name now command n is_asked e (Err why) is = good

  asked_stays : (t : ℕ) (name : Bytes) (now : ℕ) (command : Command) (n : Option NetworkValue) → IsProperCommand command → network_at r.networks t name ≡ n → IsConsistent (asked now command r t name n).1
  asked_stays t name now command None is_asked e = good
  asked_stays t name now command (Some n) is_asked e = acted_stays t name now command n is_asked e (act n now command) refl

  ask_stays : (digest name : Bytes) (now : ℕ) (command : Command) (token : Option ℕ) → IsProperCommand command → IsConsistent (ask r digest name now command token).1
  ask_stays digest name now command None is_asked = good
  ask_stays digest name now command (Some t) is_asked = by_right (allows (right_of r.readers digest) command) where
    by_right : (b : Bool) → IsConsistent (if b then asked now command r t name (network_at r.networks t name) else (ReadOnly, r)).1
    by_right true = asked_stays t name now command (network_at r.networks t name) is_asked refl
    by_right false = good

  listed_stays : (token : Option ℕ) → IsConsistent (listed r token).1
  listed_stays None = good
  listed_stays (Some t) = good

  -- ---- orders
  gives : (s : Register) (checks : List (Option OrderRefusal)) → (first_refusal checks ≡ None → IsConsistent s) → IsConsistent (ordered checks r s).1
  gives s checks h = by_check (first_refusal checks) refl where
    by_check : (why : Option OrderRefusal) → first_refusal checks ≡ why → IsConsistent (given why r s).1
    by_check (Some why) f = good
    by_check None f = h f

  tenant_stays : (name : Bytes) (new : ℕ) → IsName name → IsId new × (has_tenant r.tenants new ≡ false) → has_name r.tenants name ≡ false → is_full r.tenants ≡ false → IsConsistent (with_tenant r name new)
  tenant_stays name new is_name unused free few = record {
    names = joins is_same name (map (λ t. t.name) r.tenants) free good.names;
    ids = joins nat_eq new (map (λ t. t.id) r.tenants) unused.1 good.ids;
    digests = good.digests;
    readers = good.readers;
    slots = good.slots;
    network_ids = good.network_ids;
    endpoints = good.endpoints;
    pools = good.pools;
    token_tenants = weaken (λ t. has_tenant r.tenants t.tenant ≡ true) (λ t. has_tenant (record { id = new; name = name } ∷ r.tenants) t.tenant ≡ true) (λ t. more_tenants t.tenant (record { id = new; name = name }) r.tenants) r.tokens good.token_tenants;
    reader_tokens = good.reader_tokens;
    network_tenants = weaken (λ t. has_tenant r.tenants t.tenant ≡ true) (λ t. has_tenant (record { id = new; name = name } ∷ r.tenants) t.tenant ≡ true) (λ t. more_tenants t.tenant (record { id = new; name = name }) r.tenants) r.networks good.network_tenants;
    tenants = (record { id = unused.0; name = is_name }, good.tenants);
    tokens = good.tokens;
    networks = good.networks;
    few_tenants = omega (arith, room r.tenants few);
    few_tokens = good.few_tokens;
    few_networks = good.few_networks;
  }

  token_stays : (digest tenant : Bytes) (id : ℕ) (right : Right) → IsDigest digest → id_of r.tenants tenant ≡ Some id → has_digest r.tokens digest ≡ false → is_full r.tokens ≡ false → IsConsistent (with_token r digest id right)
  token_stays digest tenant id right is_digest e free few = record {
    names = good.names;
    ids = good.ids;
    digests = joins is_same digest (map (λ t. t.digest) r.tokens) free good.digests;
    readers = reader_joins right digest r.readers (no_reader r.tokens r.readers digest good.reader_tokens free) good.readers;
    slots = good.slots;
    network_ids = good.network_ids;
    endpoints = good.endpoints;
    pools = good.pools;
    token_tenants = (first_tenant id tenant r.tenants e, good.token_tenants);
    reader_tokens = reader_known right digest (record { digest = digest; tenant = id }) r.tokens r.readers (is_same_refl digest) good.reader_tokens;
    network_tenants = good.network_tenants;
    tenants = good.tenants;
    tokens = (is_digest, good.tokens);
    networks = good.networks;
    few_tenants = good.few_tenants;
    few_tokens = omega (arith, room r.tokens few);
    few_networks = good.few_networks;
  }

  token_gone_stays : (digest : Bytes) → IsConsistent (without_token r digest)
  token_gone_stays digest = record {
    names = good.names;
    ids = good.ids;
    digests = distinct_filter is_same (λ t. t.digest) _ r.tokens good.digests;
    readers = distinct_left is_same _ r.readers good.readers;
    slots = good.slots;
    network_ids = good.network_ids;
    endpoints = good.endpoints;
    pools = good.pools;
    token_tenants = all_filter (λ t. has_tenant r.tenants t.tenant ≡ true) _ r.tokens good.token_tenants;
    reader_tokens = readers_stay r.tokens digest r.readers good.reader_tokens;
    network_tenants = good.network_tenants;
    tenants = good.tenants;
    tokens = all_filter (λ t. IsDigest t.digest) _ r.tokens good.tokens;
    networks = good.networks;
    few_tenants = good.few_tenants;
    few_tokens = le_trans (shorter _ r.tokens) good.few_tokens;
    few_networks = good.few_networks;
  }

  network_gone_stays : (id : ℕ) (name : Bytes) → IsConsistent (without_network r id name)
  network_gone_stays id name = record {
    names = good.names;
    ids = good.ids;
    digests = good.digests;
    readers = good.readers;
    slots = distinct_filter same_slot slot _ r.networks good.slots;
    network_ids = distinct_filter nat_eq (λ h. h.id) _ r.networks good.network_ids;
    endpoints = distinct_filter same_endpoint endpoint _ r.networks good.endpoints;
    pools = distinct_filter overlaps pool_of _ r.networks good.pools;
    token_tenants = good.token_tenants;
    reader_tokens = good.reader_tokens;
    network_tenants = all_filter (λ t. has_tenant r.tenants t.tenant ≡ true) _ r.networks good.network_tenants;
    tenants = good.tenants;
    tokens = good.tokens;
    networks = all_filter IsNetworkEntry _ r.networks good.networks;
    few_tenants = good.few_tenants;
    few_tokens = good.few_tokens;
    few_networks = le_trans (shorter _ r.networks) good.few_networks;
  }

  network_stays : (tenant : Bytes) (id : ℕ) (name : Bytes) (n : NetworkValue) (new : ℕ) → IsId new × (has_network r.networks new ≡ false) → id_of r.tenants tenant ≡ Some id → IsName name → IsHost n.host → HasForms n → IsNetwork n → has_slot r.networks id name ≡ false → list_any (overlaps n.pool) (map pool_of r.networks) ≡ false → has_endpoint r.networks (n.host, n.port) ≡ false → is_full r.networks ≡ false → IsConsistent (with_new_network r new id name n)
  network_stays tenant id name n new unused e is_name host forms is free apart port few = record {
    names = good.names;
    ids = good.ids;
    digests = good.digests;
    readers = good.readers;
    slots = joins same_slot (id, name) (map slot r.networks) free good.slots;
    network_ids = joins nat_eq new (map (λ h. h.id) r.networks) unused.1 good.network_ids;
    endpoints = joins same_endpoint (n.host, n.port) (map endpoint r.networks) port good.endpoints;
    pools = joins overlaps n.pool (map pool_of r.networks) apart good.pools;
    token_tenants = good.token_tenants;
    reader_tokens = good.reader_tokens;
    network_tenants = (first_tenant id tenant r.tenants e, good.network_tenants);
    tenants = good.tenants;
    tokens = good.tokens;
    networks = (record { id = unused.0; name = is_name; host = host; forms = forms; rules = is }, good.networks);
    few_tenants = good.few_tenants;
    few_tokens = good.few_tokens;
    few_networks = omega (arith, room r.networks few);
  }

  granted_stays : (tenant digest : Bytes) (right : Right) (id : Option ℕ) → IsDigest digest → id_of r.tenants tenant ≡ id → IsConsistent (granted r digest right id).1
  granted_stays tenant digest right None is_digest e = good
  granted_stays tenant digest right (Some id) is_digest e = gives (with_token r digest id right) (grant_checks r digest) λ ok.
      let first = passed (refuse (has_digest r.tokens digest) DigestHeld) (refuse (is_full r.tokens) RegisterFull ∷ []) ok in
      let last = passed (refuse (is_full r.tokens) RegisterFull) [] first.1 in
      token_stays digest tenant id right is_digest e (not_refused (has_digest r.tokens digest) DigestHeld first.0) (not_refused (is_full r.tokens) RegisterFull last.0)

  added_stays : (tenant name : Bytes) (s : Settings) (new : ℕ) → IsProper (AddNetwork tenant name s) → (id : Option ℕ) → (is_done (network_added r name s new id).0 ≡ true → IsId new × (has_network r.networks new ≡ false)) → id_of r.tenants tenant ≡ id → IsConsistent (network_added r name s new id).1
  added_stays tenant name s new proper None unused e = good
  added_stays tenant name s new proper (Some id) unused e = gives (with_new_network r new id name (new_network s)) (network_checks r id name s) λ ok.
      let full = refuse (is_full r.networks) RegisterFull in
      let port = refuse (has_endpoint r.networks (s.host, s.port)) PortHeld in
      let pools = pool_refusal (overlapping r.tenants r.networks s.pool) in
      let pool = refuse (not (is_pool s.pool)) BadPool in
      let a = passed (refuse (has_slot r.networks id name) NameHeld) (pool ∷ pools ∷ port ∷ full ∷ []) ok in
      let b = passed pool (pools ∷ port ∷ full ∷ []) a.1 in
      let c = passed pools (port ∷ full ∷ []) b.1 in
      let d = passed port (full ∷ []) c.1 in
      let e_ = passed full [] d.1 in
      network_stays tenant id name (new_network s) new (unused (is_accepted r (with_new_network r new id name (new_network s)) (network_checks r id name s) ok)) e proper.0 proper.1.0 (proper.1.3, All-nil IsPeerFormed)
      (new_keeps s (is_pool_sound s.pool (not_false (is_pool s.pool) (not_refused (not (is_pool s.pool)) BadPool b.0))) proper.1.1 proper.1.2)
      (not_refused (has_slot r.networks id name) NameHeld a.0) (no_overlap r.tenants r.networks s.pool c.0)
      (not_refused (has_endpoint r.networks (s.host, s.port)) PortHeld d.0) (not_refused (is_full r.networks) RegisterFull e_.0)

  ended_stays : (name : Bytes) (id : Option ℕ) → IsConsistent (network_ended r name id).1
  ended_stays name None = good
  ended_stays name (Some id) = gives (without_network r id name) (refuse (not (has_slot r.networks id name)) NoNetwork ∷ []) λ _. network_gone_stays id name

  -- a consistent register stays consistent
  pub step_stays : (e : Event) (new : ℕ) → (is_done (outcome r e new).0 ≡ true → IsUnused r e new) → IsProper e → IsConsistent (outcome r e new).1
  step_stays (Decided digest reply) new unused proper = good
  step_stays (Ask digest name now command) new unused proper = ask_stays digest name now command (tenant_of_token r.tokens digest) proper
  step_stays (Networks digest) new unused proper = listed_stays (tenant_of_token r.tokens digest)
  step_stays (AddTenant name) new unused proper = gives (with_tenant r name new) (tenant_checks r name) λ ok.
      let first = passed (refuse (has_name r.tenants name) NameHeld) (refuse (is_full r.tenants) RegisterFull ∷ []) ok in
      let last = passed (refuse (is_full r.tenants) RegisterFull) [] first.1 in
      tenant_stays name new proper (unused (is_accepted r (with_tenant r name new) (tenant_checks r name) ok)) (not_refused (has_name r.tenants name) NameHeld first.0) (not_refused (is_full r.tenants) RegisterFull last.0)
  step_stays (Grant tenant digest right) new unused proper = granted_stays tenant digest right (id_of r.tenants tenant) proper refl
  step_stays (EndToken digest) new unused proper = gives (without_token r digest) (refuse (not (has_digest r.tokens digest)) NoSuchToken ∷ []) λ _. token_gone_stays digest
  step_stays (AddNetwork tenant name settings) new unused proper = added_stays tenant name settings new proper (id_of r.tenants tenant) unused refl
  step_stays (EndNetwork tenant name) new unused proper = ended_stays name (id_of r.tenants tenant)
