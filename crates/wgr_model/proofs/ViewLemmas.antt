-- What a view answers, and what each event makes of it.
use Rattle.std.proofs.Common.{◌≡◌, ℕ, Bool, true, false, cond, ◌&&◌, map, Some, None, Option, Result, Ok, Err, nat_eq, is_some, refl, sym, ap, ◌∙◌, arith}
use Rattle.std.specs.Prelude.{if◌then◌else◌}
use Rattle.std.specs.List.{list_any, IsDistinct}
use Rattle.std.specs.Ordering.{nat_cmp}
use Rattle.std.specs.Cmp.Lexicographic.{slice_cmp, nat_list_cmp_total}
use Rattle.std.specs.FinMap.{FinMap, get, insert, remove, same_map, get-from_entries, get-insert, get-remove}
use Rattle.std.proofs.lemmas.Bool.Decides.{nat_tests}
use Rattle.wgr_core.specs.Network.{NetworkValue}
use Rattle.wgr_core.specs.declared.command.Command.{Command}
use Rattle.wgr_core.specs.declared.refusal.CommandRefusal.{CommandRefusal}
use Rattle.wgr_core.specs.declared.reply.Reply.{Reply}
use Rattle.wgr_model.specs.Register.{Bytes, Register, View, digests_of, is_same, networks_of, right_of, rights_of, view_at}
use Rattle.wgr_model.specs.Steps.{EventOutcome, ReadOnly, act, acted, allows, ask, asked, network_at, put_network, tenant_of_token}
use Rattle.wgr_model.specs.Tenants.{after_acted, after_asked, knows, put_view}
use Rattle.wgr_model.proofs.LookLemmas.{bytes_differ, find_network, find_paired, is_id, is_same_is, network_put, token_in_view}

-- ---- what a view answers
pub get_view : (r : Register) (id : ℕ) (q : Bytes) → get (view_at r id).networks q ≡ network_at r.networks id q
get_view r id q = get-from_entries nat_list_cmp_total (networks_of r.networks id) q ∙ find_network r.networks id q

pub right_view : (r : Register) (id : ℕ) (d : Bytes) → get (view_at r id).rights d ≡ (if list_any (is_same d) (digests_of r.tokens id) then Some (right_of r.readers d) else None)
right_view r id d = get-from_entries nat_list_cmp_total (rights_of r.readers r.tokens id) d ∙ find_paired (right_of r.readers) (digests_of r.tokens id) d

pub right_token : (r : Register) (id : ℕ) (d : Bytes) → IsDistinct is_same (map (λ t. t.digest) r.tokens) → get (view_at r id).rights d ≡ (if is_id (tenant_of_token r.tokens d) id then Some (right_of r.readers d) else None)
right_token r id d u = right_view r id d ∙ ap (λ b. if b then Some (right_of r.readers d) else None) (token_in_view r.tokens id d u)

pub knows_token : (r : Register) (id : ℕ) (d : Bytes) → IsDistinct is_same (map (λ t. t.digest) r.tokens) → knows (view_at r id) d ≡ is_id (tenant_of_token r.tokens d) id
knows_token r id d u = ap is_some (right_token r id d u) ∙ by_test (is_id (tenant_of_token r.tokens d) id) where
  by_test : (b : Bool) → is_some (if b then Some (right_of r.readers d) else None) ≡ b
  by_test true = refl
  by_test false = refl

pub same_entries : {X : Type 0} (m n : FinMap (slice_cmp nat_cmp) X) → ((q : Bytes) → get m q ≡ get n q) → m ≡ n
same_entries m n h = same_map nat_list_cmp_total bytes_differ m n h

pub same_networks : (m n : FinMap (slice_cmp nat_cmp) NetworkValue) → ((q : Bytes) → get m q ≡ get n q) → m ≡ n
same_networks m n h = same_entries m n h

-- ---- a map that differs at one key
pub put_map : {X : Type 0} (b : Bool) (m m' : FinMap (slice_cmp nat_cmp) X) (key : Bytes) (x : X) → ((q : Bytes) → get m' q ≡ (if b && is_same q key then Some x else get m q)) → m' ≡ (if b then insert m key x else m)
put_map true m m' key x h = same_entries m' (insert m key x) (λ q. h q ∙ sym (get-insert nat_list_cmp_total m key x q ∙ ap (λ b. cond b (Some x) (get m q)) (is_same_is q key)))
put_map false m m' key x h = same_entries m' m h

pub gone_map : {X : Type 0} (b : Bool) (m m' : FinMap (slice_cmp nat_cmp) X) (key : Bytes) → ((q : Bytes) → get m' q ≡ (if b && is_same q key then None else get m q)) → m' ≡ (if b then remove m key else m)
gone_map true m m' key h = same_entries m' (remove m key) (λ q. h q ∙ sym (get-remove nat_list_cmp_total m key q ∙ ap (λ b. cond b None (get m q)) (is_same_is q key)))
gone_map false m m' key h = same_entries m' m h

-- ---- a network put, or ended
as_view : (r : Register) (i : ℕ) (m : FinMap (slice_cmp nat_cmp) NetworkValue) → (b : Bool) (other : FinMap (slice_cmp nat_cmp) NetworkValue) → m ≡ (if b then other else (view_at r i).networks) → ◌≡◌ {A = View} (record { rights = (view_at r i).rights; networks = m }) (if b then record (view_at r i) { networks = other } else view_at r i)
as_view r i m true other e = ap {B = View} (λ x. record { rights = (view_at r i).rights; networks = x }) e
as_view r i m false other e = ap {B = View} (λ x. record { rights = (view_at r i).rights; networks = x }) e

pub view_put : (r : Register) (t i : ℕ) (name : Bytes) (n old : NetworkValue) → network_at r.networks t name ≡ Some old → view_at (put_network r t name n) i ≡ (if nat_eq i t then put_view (view_at r i) name n else view_at r i)
view_put r t i name n old e =
    as_view r i (view_at (put_network r t name n) i).networks (nat_eq i t) (insert (view_at r i).networks name n)
    (put_map (nat_eq i t) (view_at r i).networks (view_at (put_network r t name n) i).networks name n (λ q.
    get_view (put_network r t name n) i q ∙ network_put r.networks t i name q n old e ∙ ap (λ x. if nat_eq i t && is_same q name then Some n else x) (sym (get_view r i q))))

-- ---- an ask
pub ask_tenants : (r : Register) (digest name : Bytes) (now : ℕ) (command : Command) (token : Option ℕ) → (ask r digest name now command token).1.tenants ≡ r.tenants
ask_tenants r digest name now command None = refl
ask_tenants r digest name now command (Some t) = by_right (allows (right_of r.readers digest) command) where
  done : (x : Result (Reply × NetworkValue) CommandRefusal) → (acted r t name x).1.tenants ≡ r.tenants
  done (Ok x) = refl
  done (Err why) = refl

  found : (n : Option NetworkValue) → (asked now command r t name n).1.tenants ≡ r.tenants
  found None = refl
  found (Some n) = done (act n now command)

  by_right : (b : Bool) → (if b then asked now command r t name (network_at r.networks t name) else (ReadOnly, r)).1.tenants ≡ r.tenants
  by_right true = found (network_at r.networks t name)
  by_right false = refl

acted_view : (r : Register) (t i : ℕ) (name : Bytes) (n : NetworkValue) → network_at r.networks t name ≡ Some n → (x : Result (Reply × NetworkValue) CommandRefusal) → view_at (acted r t name x).1 i ≡ (if nat_eq t i then after_acted (view_at r i) name x else view_at r i)
acted_view r t i name n e (Err why) = grind (arith, nat_tests)
acted_view r t i name n e (Ok x) = grind (arith, nat_tests, view_put r t i name x.1 n e)

asked_view : (r : Register) (t i : ℕ) (name : Bytes) (now : ℕ) (command : Command) (n : Option NetworkValue) → network_at r.networks t name ≡ n → view_at (asked now command r t name n).1 i ≡ (if nat_eq t i then after_asked (view_at r i) name now command (network_at r.networks i name) else view_at r i)
asked_view r t i name now command None e = grind (arith, nat_tests, e)
asked_view r t i name now command (Some n) e = grind (arith, nat_tests, e, acted_view r t i name n e (act n now command))

-- the view after it, where the right allows the command
pub ask_view : (r : Register) (i : ℕ) (digest name : Bytes) (now : ℕ) (command : Command) (token : Option ℕ)
    → view_at (ask r digest name now command token).1 i ≡ (if is_id token i then (if allows (right_of r.readers digest) command then after_asked (view_at r i) name now command (network_at r.networks i name) else view_at r i) else view_at r i)
ask_view r i digest name now command None = refl
ask_view r i digest name now command (Some t) = by_right (allows (right_of r.readers digest) command) (asked_view r t i name now command (network_at r.networks t name) refl) where
  after : View
  after = after_asked (view_at r i) name now command (network_at r.networks i name)

  whole : EventOutcome
  whole = asked now command r t name (network_at r.networks t name)

  by_right : (b : Bool) → view_at whole.1 i ≡ (if nat_eq t i then after else view_at r i) → view_at (if b then whole else (ReadOnly, r)).1 i ≡ (if nat_eq t i then (if b then after else view_at r i) else view_at r i)
  by_right true e = e
  by_right false e = stays (nat_eq t i) where
    stays : (b : Bool) → view_at r i ≡ (if b then view_at r i else view_at r i)
    stays true = refl
    stays false = refl
