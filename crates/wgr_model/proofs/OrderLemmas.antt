-- The order of entries is of no account to a step.
use Rattle.std.proofs.Common.{◌≡◌, ℕ, Bool, true, false, cond, not, ◌&&◌, List, [], ◌∷◌, map, filter, find, Some, None, Option, Result, Ok, Err, nat_eq, nat_lt, refl, sym, ap, ap₂, subst, ◌∙◌, arith, true≢false, option_map, inl, inr, IsPermutation, Less, Equal, Greater}
use Rattle.std.specs.Prelude.{if◌then◌else◌}
use Rattle.std.specs.List.{list_any, IsDistinct, AllByRecursion}
use Rattle.std.specs.Ordering.{nat_cmp, ordering_reverse, is_lt}
use Rattle.std.specs.declared.cmp.Ordering.{Ordering}
use Rattle.std.specs.Cmp.Lexicographic.{slice_cmp}
use Rattle.std.specs.FinMap as map_
use Rattle.std.proofs.lemmas.Bool.Decides.{nat_tests}
use Rattle.std.proofs.lemmas.List.Sorted.{IsPermutation-cons, IsPermutation-map, IsPermutation-sym, list_any-IsPermutation, length_permutation}
use Rattle.std.proofs.lemmas.Map.Keys.{IsDistinct-head, IsDistinct-tail}
use Rattle.std.proofs.lemmas.Map.Lookups.{exact_bytes, exact_pairs}
use Rattle.wgr_text.specs.Prefix.{PrefixValue}
use Rattle.wgr_pool.proofs.Bools.{decide}
use Rattle.wgr_core.specs.Network.{NetworkValue}
use Rattle.wgr_core.specs.declared.command.Command.{Command}
use Rattle.wgr_core.specs.declared.refusal.CommandRefusal.{CommandRefusal}
use Rattle.wgr_core.specs.declared.reply.Reply.{Reply}
use Rattle.wgr_model.specs.Consistent.{IsConsistent, endpoint, has_digest, is_pool, overlaps, same_endpoint, same_slot, slot}
use Rattle.wgr_model.specs.Laws.{Has, OrderIsNoAccount}
use Rattle.wgr_model.specs.declared.right.Right.{Right}
use Rattle.wgr_model.specs.declared.right.Right.TheVariants.{Full, Read}
use Rattle.wgr_model.specs.Register.{Bytes, NetworkEntry, IsSame, Register, Tenant, Token, id_of, is_same, right_of}
use Rattle.wgr_model.specs.Rows.{HaveSame}
use Rattle.wgr_model.specs.Steps.{AddNetwork, AddTenant, Answer, Ask, BadPool, Decided, Declined, DigestHeld, EndNetwork, EndToken, Event, Grant, IsUnused, Listed, NameHeld, Networks, NoNetwork, NoSuchNetwork, NoSuchTenant, NoSuchToken, OrderRefusal, EventOutcome, Plain, PoolOverlaps, PortHeld, ReadOnly, Refused, RegisterFull, Settings, UnknownToken, act, acted, allows, ask, asked, first_of, first_refusal, given, grant_checks, granted, has_endpoint, has_slot, is_full, listed, name_of, network_added, network_at, network_checks, network_ended, new_network, ordered, outcome, overlapping, pool_refusal, put_network, refuse, tenant_checks, tenant_of_token, with_network, with_new_network, with_reader, with_tenant, with_token, without_network, without_reader, without_token}
use Rattle.wgr_model.proofs.CollectLemmas.{from_map, has_map}
use Rattle.wgr_model.proofs.GatherLemmas.{eqb_self, in_filter}
use Rattle.wgr_model.proofs.KeptLemmas.{distinct_filter}
use Rattle.wgr_model.proofs.LookLemmas.{is_same_congr, is_same_refl, is_same_sym}
use Rattle.wgr_model.proofs.MemberLemmas.{permuted}
use Rattle.wgr_model.proofs.PoolLemmas.{has_first, least_first, pair_cmp, pair_total}
use Rattle.wgr_model.proofs.RunLemmas.{same_trans}
use Rattle.wgr_model.proofs.SameLemmas.{find_permutation, has_permutation, same_at, same_consistent, same_id, same_network, same_right, slot_sym, slot_tells}

-- ---- lists

pub from_filter : {A : Type 0} (p : A → Bool) (xs : List A) (a : A) → Has (filter p xs) a → Has xs a × (p a ≡ true)
from_filter p [] a h = elim h [ ]
from_filter p (x ∷ xs) a h = by_test (p x) refl h (from_filter p xs a) where
  by_test : (b : Bool) → p x ≡ b → Has (cond b (x ∷ filter p xs) (filter p xs)) a → (Has (filter p xs) a → Has xs a × (p a ≡ true)) → Has (x ∷ xs) a × (p a ≡ true)
  by_test true e (inl k) rest = (inl k, ap p (sym k) ∙ e)
  by_test true e (inr k) rest = (inr (rest k).0, (rest k).1)
  by_test false e k rest = (inr (rest k).0, (rest k).1)

filter_same : {A : Type 0} (p : A → Bool) (xs ys : List A) → IsPermutation xs ys → HaveSame (filter p xs) (filter p ys)
filter_same p xs ys same a = (
  (λ h. let k = from_filter p xs a h in in_filter p ys a (has_permutation xs ys a same k.0) k.1),
  (λ h. let k = from_filter p ys a h in in_filter p xs a (has_permutation ys xs a (IsPermutation-sym xs ys same) k.0) k.1),
)

-- what a test leaves of lists whose keys are apart
pub filter_permutation : {A B : Type 0} (f : A → B) (e : B → B → Bool) → ((b : B) → e b b ≡ true) → ((a b : B) → e a b ≡ e b a) → (p : A → Bool) (xs ys : List A) → IsDistinct e (map f xs) → IsDistinct e (map f ys) → IsPermutation xs ys → IsPermutation (filter p xs) (filter p ys)
filter_permutation f e itself flips p xs ys u v same = permuted f e itself flips (filter p xs) (filter p ys) (distinct_filter e f p xs u) (distinct_filter e f p ys v) (filter_same p xs ys same)

-- the same of values that are their own keys
map_id : {A : Type 0} (xs : List A) → map (λ x. x) xs ≡ xs
map_id [] = refl
map_id (x ∷ xs) = ap (λ ys. x ∷ ys) (map_id xs)

pub reader_permutation : (p : Bytes → Bool) (xs ys : List Bytes) → IsDistinct is_same xs → IsDistinct is_same ys → IsPermutation xs ys → IsPermutation (filter p xs) (filter p ys)
reader_permutation p xs ys u v same = filter_permutation (λ d. d) is_same is_same_refl is_same_sym p xs ys (subst (IsDistinct is_same) (sym (map_id xs)) u) (subst (IsDistinct is_same) (sym (map_id ys)) v) same

any_same : {A B : Type 0} (test : B → Bool) (f : A → B) (xs ys : List A) → IsPermutation xs ys → list_any test (map f xs) ≡ list_any test (map f ys)
any_same test f xs ys same = list_any-IsPermutation test (map f xs) (map f ys) (IsPermutation-map f xs ys same)

full_same : {A : Type 0} (xs ys : List A) → IsPermutation xs ys → is_full xs ≡ is_full ys
full_same xs ys same = ap (λ k. not (nat_lt k 65536)) (sym (length_permutation xs ys same))

-- ---- look-ups

token_found : (ts : List Token) (d : Bytes) → tenant_of_token ts d ≡ option_map (λ t. t.tenant) (find (λ t. is_same d t.digest) ts)
token_found [] d = refl
token_found (t ∷ ts) d = grind (arith, nat_tests, token_found ts d)

digest_tells : (d : Bytes) (a b : Token) → is_same d a.digest ≡ true → is_same d b.digest ≡ true → is_same a.digest b.digest ≡ true
digest_tells d a b x y = sym (is_same_congr d a.digest b.digest x) ∙ y

name_in : Option Tenant → Bytes
name_in None = []
name_in (Some t) = t.name

name_found : (ts : List Tenant) (id : ℕ) → name_of ts id ≡ name_in (find (λ t. nat_eq t.id id) ts)
unfolding name_in
name_found [] id = refl
name_found (t ∷ ts) id = by_test (nat_eq t.id id) (name_found ts id) where
  by_test : (b : Bool) → name_of ts id ≡ name_in (find (λ u. nat_eq u.id id) ts) → (if b then t.name else name_of ts id) ≡ name_in (cond b (Some t) (find (λ u. nat_eq u.id id) ts))
  by_test true rest = refl
  by_test false rest = rest

id_tells : (id : ℕ) (a b : Tenant) → nat_eq a.id id ≡ true → nat_eq b.id id ≡ true → nat_eq a.id b.id ≡ true
id_tells id a b x y = grind (arith, nat_tests, x, y)

-- ---- the network that is put

put_in : ℕ → Bytes → NetworkValue → NetworkEntry → NetworkEntry
put_in id name n h = if nat_eq h.tenant id && is_same name h.name then record h { network = n } else h

no_other : (id : ℕ) (name : Bytes) (n : NetworkValue) (h : NetworkEntry) (hs : List NetworkEntry) → (nat_eq h.tenant id && is_same name h.name) ≡ true → AllByRecursion (λ y. same_slot (slot h) y ≡ false) (map slot hs) → map (put_in id name n) hs ≡ hs
unfolding put_in
no_other id name n h [] e apart = refl
no_other id name n h (x ∷ xs) e apart = ap₂ (λ y ys. y ∷ ys) (elim (decide (nat_eq x.tenant id && is_same name x.name)) [
  | inl same ↦ absurd (true≢false (sym (slot_tells id name h x e same) ∙ apart.0))
  | inr other ↦ ap (λ b. if b then record x { network = n } else x) other
]) (no_other id name n h xs e apart.1)

put_is_map : (hs : List NetworkEntry) (id : ℕ) (name : Bytes) (n : NetworkValue) → IsDistinct same_slot (map slot hs) → with_network hs id name n ≡ map (put_in id name n) hs
unfolding put_in
put_is_map [] id name n u = refl
put_is_map (h ∷ hs) id name n u = by_test (nat_eq h.tenant id && is_same name h.name) refl (put_is_map hs id name n (IsDistinct-tail same_slot (slot h) (map slot hs) u)) where
  by_test : (b : Bool) → (nat_eq h.tenant id && is_same name h.name) ≡ b → with_network hs id name n ≡ map (put_in id name n) hs
      → (if b then record h { network = n } ∷ hs else h ∷ with_network hs id name n) ≡ (if b then record h { network = n } else h) ∷ map (put_in id name n) hs
  by_test true e rest = ap (λ xs. record h { network = n } ∷ xs) (sym (no_other id name n h hs e (IsDistinct-head same_slot (slot h) (map slot hs) u)))
  by_test false e rest = ap (λ xs. h ∷ xs) rest

-- ---- the first of several

one_first : (p q : Bytes × Bytes) → is_lt (pair_cmp p q) ≡ false → is_lt (pair_cmp q p) ≡ false → p ≡ q
unfolding pair_cmp
one_first p q a b = exact_pairs (slice_cmp nat_cmp) (slice_cmp nat_cmp) exact_bytes exact_bytes p q (by_case (pair_cmp p q) (pair_cmp q p) (pair_total.antisymm p q) a b) where
  by_case : (x y : Ordering) → x ≡ ordering_reverse y → is_lt x ≡ false → is_lt y ≡ false → x ≡ Equal
  by_case Less y e u v = absurd (true≢false u)
  by_case Equal y e u v = refl
  by_case Greater Less e u v = absurd (true≢false v)
  by_case Greater Equal e u v = e
  by_case Greater Greater e u v = absurd (true≢false (sym (ap is_lt e)))

refusal_same : (ps qs : List (Bytes × Bytes)) → HaveSame ps qs → pool_refusal ps ≡ pool_refusal qs
refusal_same [] [] same = refl
refusal_same [] (q ∷ qs) same = elim ((same q).1 (inl refl)) [ ]
refusal_same (p ∷ ps) [] same = elim ((same p).0 (inl refl)) [ ]
refusal_same (p ∷ ps) (q ∷ qs) same =
    let f = first_of p ps in
    let g = first_of q qs in
    ap (λ z. Some (PoolOverlaps z.0 z.1)) (one_first f g (least_first q qs f ((same f).0 (has_first p ps))) (least_first p ps g ((same g).1 (has_first q qs))))

-- ---- outcomes

-- one answer, and the same entries
pub record AreAlike (x y : EventOutcome) : Type 0 where
  pub answer : x.0 ≡ y.0
  pub entries : IsSame x.1 y.1

module _ (r s : Register) (same : IsSame r s) (good : IsConsistent r) where
  there : IsConsistent s
  there = same_consistent r s same good

  same_token : (d : Bytes) → tenant_of_token r.tokens d ≡ tenant_of_token s.tokens d
  same_token d = token_found r.tokens d ∙ ap (option_map (λ t. t.tenant)) (find_permutation (λ t. is_same d t.digest) (λ t. t.digest) is_same (digest_tells d) r.tokens s.tokens same.tokens good.digests there.digests) ∙ sym (token_found s.tokens d)

  same_name : (id : ℕ) → name_of r.tenants id ≡ name_of s.tenants id
  same_name id = name_found r.tenants id ∙ ap name_in (find_permutation (λ t. nat_eq t.id id) (λ t. t.id) nat_eq (id_tells id) r.tenants s.tenants same.tenants good.ids there.ids) ∙ sym (name_found s.tenants id)

  same_overlapping : (pool : PrefixValue) → pool_refusal (overlapping r.tenants r.networks pool) ≡ pool_refusal (overlapping s.tenants s.networks pool)
  same_overlapping pool =
      (λ i. pool_refusal (map (λ h. (same_name h.tenant i, h.name)) (filter (λ h. overlaps pool h.network.pool) r.networks)))
      ∙ refusal_same (overlapping s.tenants r.networks pool) (overlapping s.tenants s.networks pool) (λ p. (moved r.networks s.networks same.networks p, moved s.networks r.networks (IsPermutation-sym r.networks s.networks same.networks) p)) where
        moved : (hs ks : List NetworkEntry) → IsPermutation hs ks → (p : Bytes × Bytes) → Has (overlapping s.tenants hs pool) p → Has (overlapping s.tenants ks pool) p
        moved hs ks perm p h =
            let x = from_map (λ k. (name_of s.tenants k.tenant, k.name)) (filter (λ k. overlaps pool k.network.pool) hs) p h in
            subst (Has (overlapping s.tenants ks pool)) x.2 (has_map (λ k. (name_of s.tenants k.tenant, k.name)) (filter (λ k. overlaps pool k.network.pool) ks) x.0 ((filter_same (λ k. overlaps pool k.network.pool) hs ks perm x.0).0 x.1))

  alike : (answer : Answer) → AreAlike (answer, r) (answer, s)
  alike answer = record { answer = refl; entries = same }

  put_same : (id : ℕ) (name : Bytes) (n : NetworkValue) → IsSame (put_network r id name n) (put_network s id name n)
  put_same id name n = record {
    tenants = same.tenants;
    tokens = same.tokens;
    readers = same.readers;
    networks = subst (λ xs. IsPermutation xs (with_network s.networks id name n)) (sym (put_is_map r.networks id name n good.slots))
        (subst (IsPermutation (map (put_in id name n) r.networks)) (sym (put_is_map s.networks id name n there.slots)) (IsPermutation-map (put_in id name n) r.networks s.networks same.networks));
  }

  acted_alike : (id : ℕ) (name : Bytes) (x : Result (Reply × NetworkValue) CommandRefusal) → AreAlike (acted r id name x) (acted s id name x)
  acted_alike id name (Err why) = alike (Declined why)
  acted_alike id name (Ok done) = record { answer = refl; entries = put_same id name done.1 }

  asked_alike : (now : ℕ) (command : Command) (id : ℕ) (name : Bytes) (n : Option NetworkValue) → AreAlike (asked now command r id name n) (asked now command s id name n)
  asked_alike now command id name None = alike NoSuchNetwork
  asked_alike now command id name (Some n) = acted_alike id name (act n now command)

  ask_alike : (digest name : Bytes) (now : ℕ) (command : Command) (token : Option ℕ) → AreAlike (ask r digest name now command token) (ask s digest name now command token)
  ask_alike digest name now command None = alike UnknownToken
  ask_alike digest name now command (Some id) = subst (λ right. AreAlike (ask r digest name now command (Some id)) (if allows right command then asked now command s id name (network_at s.networks id name) else (ReadOnly, s))) (same_right r s same good digest) (by_right (allows (right_of r.readers digest) command)) where
    by_right : (b : Bool) → AreAlike (if b then asked now command r id name (network_at r.networks id name) else (ReadOnly, r)) (if b then asked now command s id name (network_at s.networks id name) else (ReadOnly, s))
    by_right true = subst (λ n. AreAlike (asked now command r id name (network_at r.networks id name)) (asked now command s id name n)) (same_network r s same good id name) (asked_alike now command id name (network_at r.networks id name))
    by_right false = alike ReadOnly

  listed_alike : (token : Option ℕ) → AreAlike (listed r token) (listed s token)
  listed_alike None = alike UnknownToken
  listed_alike (Some id) = record { answer = ap (λ v. Listed (map_.entries v.networks)) (same_at r s same good (Some id)); entries = same }

  ordered_alike : (checks others : List (Option OrderRefusal)) (x y : Register) → first_refusal checks ≡ first_refusal others → IsSame x y → AreAlike (ordered checks r x) (ordered others s y)
  ordered_alike checks others x y e done = subst (λ why. AreAlike (ordered checks r x) (given why s y)) e (by_why (first_refusal checks)) where
    by_why : (why : Option OrderRefusal) → AreAlike (given why r x) (given why s y)
    by_why None = record { answer = refl; entries = done }
    by_why (Some why) = alike (Refused why)

  readers_alike : (right : Right) (digest : Bytes) → IsPermutation (with_reader right digest r.readers) (with_reader right digest s.readers)
  readers_alike Full digest = same.readers
  readers_alike Read digest = IsPermutation-cons digest r.readers s.readers same.readers

  readers_left : (digest : Bytes) → IsPermutation (without_reader digest r.readers) (without_reader digest s.readers)
  readers_left digest = reader_permutation (λ d. not (is_same digest d)) r.readers s.readers good.readers there.readers same.readers

  granted_alike : (digest : Bytes) (right : Right) (id : Option ℕ) → AreAlike (granted r digest right id) (granted s digest right id)
  granted_alike digest right None = alike (Refused NoSuchTenant)
  granted_alike digest right (Some id) = ordered_alike (grant_checks r digest) (grant_checks s digest) (with_token r digest id right) (with_token s digest id right)
      (ap₂ (λ a b. first_refusal (refuse a DigestHeld ∷ refuse b RegisterFull ∷ [])) (any_same (is_same digest) (λ t. t.digest) r.tokens s.tokens same.tokens) (full_same r.tokens s.tokens same.tokens))
      (record { tenants = same.tenants; tokens = IsPermutation-cons (record { digest = digest; tenant = id }) r.tokens s.tokens same.tokens; readers = readers_alike right digest; networks = same.networks })

  added_alike : (name : Bytes) (set : Settings) (new : ℕ) (id : Option ℕ) → AreAlike (network_added r name set new id) (network_added s name set new id)
  added_alike name set new None = alike (Refused NoSuchTenant)
  added_alike name set new (Some id) = ordered_alike (network_checks r id name set) (network_checks s id name set) (with_new_network r new id name (new_network set)) (with_new_network s new id name (new_network set))
      (λ i. first_refusal (refuse (slots i) NameHeld ∷ refuse (not (is_pool set.pool)) BadPool ∷ same_overlapping set.pool i ∷ refuse (ports i) PortHeld ∷ refuse (full_same r.networks s.networks same.networks i) RegisterFull ∷ []))
      (record { tenants = same.tenants; tokens = same.tokens; readers = same.readers; networks = IsPermutation-cons (record { id = new; tenant = id; name = name; network = new_network set }) r.networks s.networks same.networks }) where
        slots : has_slot r.networks id name ≡ has_slot s.networks id name
        slots = any_same (same_slot (id, name)) slot r.networks s.networks same.networks

        ports : has_endpoint r.networks (set.host, set.port) ≡ has_endpoint s.networks (set.host, set.port)
        ports = any_same (same_endpoint (set.host, set.port)) endpoint r.networks s.networks same.networks

  ended_alike : (name : Bytes) (id : Option ℕ) → AreAlike (network_ended r name id) (network_ended s name id)
  ended_alike name None = alike (Refused NoSuchTenant)
  ended_alike name (Some id) = ordered_alike (refuse (not (has_slot r.networks id name)) NoNetwork ∷ []) (refuse (not (has_slot s.networks id name)) NoNetwork ∷ []) (without_network r id name) (without_network s id name)
      (ap (λ b. first_refusal (refuse (not b) NoNetwork ∷ [])) (any_same (same_slot (id, name)) slot r.networks s.networks same.networks))
      (record { tenants = same.tenants; tokens = same.tokens; readers = same.readers; networks = filter_permutation slot same_slot slot_itself slot_sym (λ h. not (same_slot (id, name) (slot h))) r.networks s.networks good.slots there.slots same.networks }) where
        slot_itself : (a : ℕ × Bytes) → same_slot a a ≡ true
        slot_itself a = ap₂ (λ x y. x && y) (eqb_self a.0) (is_same_refl a.1)

  pub outcome_alike : (e : Event) (new : ℕ) → AreAlike (outcome r e new) (outcome s e new)
  outcome_alike (Decided digest reply) new = alike (Plain reply)
  outcome_alike (Ask digest name now command) new = subst (λ t. AreAlike (ask r digest name now command (tenant_of_token r.tokens digest)) (ask s digest name now command t)) (same_token digest) (ask_alike digest name now command (tenant_of_token r.tokens digest))
  outcome_alike (Networks digest) new = subst (λ t. AreAlike (listed r (tenant_of_token r.tokens digest)) (listed s t)) (same_token digest) (listed_alike (tenant_of_token r.tokens digest))
  outcome_alike (AddTenant name) new = ordered_alike (tenant_checks r name) (tenant_checks s name) (with_tenant r name new) (with_tenant s name new)
      (ap₂ (λ a b. first_refusal (refuse a NameHeld ∷ refuse b RegisterFull ∷ [])) (any_same (is_same name) (λ t. t.name) r.tenants s.tenants same.tenants) (full_same r.tenants s.tenants same.tenants))
      (record { tenants = IsPermutation-cons (record { id = new; name = name }) r.tenants s.tenants same.tenants; tokens = same.tokens; readers = same.readers; networks = same.networks })
  outcome_alike (Grant tenant digest right) new = subst (λ t. AreAlike (granted r digest right (id_of r.tenants tenant)) (granted s digest right t)) (same_id r s same good tenant) (granted_alike digest right (id_of r.tenants tenant))
  outcome_alike (EndToken digest) new = ordered_alike (refuse (not (has_digest r.tokens digest)) NoSuchToken ∷ []) (refuse (not (has_digest s.tokens digest)) NoSuchToken ∷ []) (without_token r digest) (without_token s digest)
      (ap (λ b. first_refusal (refuse (not b) NoSuchToken ∷ [])) (any_same (is_same digest) (λ t. t.digest) r.tokens s.tokens same.tokens))
      (record { tenants = same.tenants; tokens = filter_permutation (λ t. t.digest) is_same is_same_refl is_same_sym (λ t. not (is_same digest t.digest)) r.tokens s.tokens good.digests there.digests same.tokens; readers = readers_left digest; networks = same.networks })
  outcome_alike (AddNetwork tenant name settings) new = subst (λ t. AreAlike (network_added r name settings new (id_of r.tenants tenant)) (network_added s name settings new t)) (same_id r s same good tenant) (added_alike name settings new (id_of r.tenants tenant))
  outcome_alike (EndNetwork tenant name) new = subst (λ t. AreAlike (network_ended r name (id_of r.tenants tenant)) (network_ended s name t)) (same_id r s same good tenant) (ended_alike name (id_of r.tenants tenant))

  still_unused : (e : Event) (new : ℕ) → IsUnused r e new → IsUnused s e new
  still_unused (Decided digest reply) new is = tt
  still_unused (Ask digest name now command) new is = tt
  still_unused (Networks digest) new is = tt
  still_unused (AddTenant name) new is = (is.0, sym (any_same (nat_eq new) (λ t. t.id) r.tenants s.tenants same.tenants) ∙ is.1)
  still_unused (Grant tenant digest right) new is = tt
  still_unused (EndToken digest) new is = tt
  still_unused (AddNetwork tenant name settings) new is = (is.0, sym (any_same (nat_eq new) (λ h. h.id) r.networks s.networks same.networks) ∙ is.1)
  still_unused (EndNetwork tenant name) new is = tt

same_sym : (r s : Register) → IsSame r s → IsSame s r
same_sym r s same = record { tenants = IsPermutation-sym r.tenants s.tenants same.tenants; tokens = IsPermutation-sym r.tokens s.tokens same.tokens; readers = IsPermutation-sym r.readers s.readers same.readers; networks = IsPermutation-sym r.networks s.networks same.networks }

-- what is a step on some entries is one on the same entries in another order
pub order_is_no_account : OrderIsNoAccount
order_is_no_account r s e answer u same good step =
    let outcomes = outcome_alike r s same good e step.new in
    record {
      new = step.new;
      unused = λ done. still_unused r s same good e step.new (step.unused done);
      answered = step.answered ∙ outcomes.answer;
      rows = same_trans (outcome s e step.new).1 (outcome r e step.new).1 u (same_sym (outcome r e step.new).1 (outcome s e step.new).1 outcomes.entries) step.rows;
    }
