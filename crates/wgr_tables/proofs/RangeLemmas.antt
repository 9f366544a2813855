-- Peers whose numbers follow one another: their rows go in one range as they would one by one.
use Rattle.std.proofs.Common.{◌≡◌, ◌+◌, ◌≤◌, ◌<◌, ℕ, suc, zero, List, [], ◌∷◌, length, get_or, nat_eq, nat_le, Bool, true, false, not, ◌&&◌, ◌||◌, cond, Ok, IsTrue, refl, sym, ap, ap₂, subst, ◌∙◌, arith}
use Rattle.std.specs.List.{filter, IsAllAdjacentAnswer}
use Rattle.std.proofs.lemmas.Bool.Decides.{nat_tests}
use Rattle.sqlite.specs.State.{State}
use Rattle.wgr_peers.specs.declared.peer.Peer.{Peer}
use Rattle.wgr_model.specs.Rows.{PeerRow, AllowedRow, Tables, peer_id}
use Rattle.wgr_sql.specs.Steps.{Each}
use Rattle.wgr_sql.specs.declared.fault.Fault.{Fault}
use Rattle.wgr_tables.specs.TableSteps.{AreFrom, PeerRowsGo, RangeGoes, is_peer, is_address_of, is_peer_within, is_address_within}
use Rattle.wgr_tables.specs.Standing.{StepsOn, StepsFrom}

-- ---- the numbers

-- each number is one more than the one before it
abbrev pub FollowOn : List Peer → Type 0
FollowOn peers = (k : ℕ) (d : Peer) → k + 1 < length peers → (get_or peers (k + 1) d).number ≡ (get_or peers k d).number + 1

pub follow_if : (peers : List Peer) (result : Bool) → IsAllAdjacentAnswer (λ p q b. b ≡ nat_eq q.number (p.number + 1)) peers result → IsTrue result → FollowOn peers
follow_if peers true next h = λ k d low. same (get_or peers (k + 1) d).number ((get_or peers k d).number + 1) (sym (next k d low))
  where
    same : (a b : ℕ) → nat_eq a b ≡ true → a ≡ b
    same a b is = grind (arith, nat_tests)
follow_if peers false next h = absurd cc

from_first : (p : Peer) (ps : List Peer) → FollowOn (p ∷ ps) → AreFrom p.number (p ∷ ps)
from_first p [] follow = (refl, tt)
from_first p (q ∷ qs) follow =
    let next : q.number ≡ p.number + 1 = follow 0 p (omega arith) in
    let one : q.number ≡ suc p.number = omega (arith, next) in
    (refl, subst (λ n. AreFrom n (q ∷ qs)) one (from_first q qs (λ k d low. let same : suc (k + 1) ≡ suc k + 1 = omega arith in ap (λ m. (get_or (p ∷ q ∷ qs) m d).number) same ∙ follow (suc k) d (omega (arith, low)))))

pub from_start : (peers : List Peer) (d : Peer) → 0 < length peers → FollowOn peers → AreFrom (get_or peers 0 d).number peers
from_start [] d low follow = absurd (omega (arith, low))
from_start (p ∷ ps) d low follow = from_first p ps follow

pub number_from : (first : ℕ) (ps : List Peer) (k : ℕ) (d : Peer) → AreFrom first ps → k < length ps → (get_or ps k d).number ≡ first + k
number_from first [] k d are low = absurd (omega (arith, low))
number_from first (p ∷ ps) zero d are low = let is = are.0 in omega (arith, is)
number_from first (p ∷ ps) (suc k) d are low = let later = number_from (suc first) ps k d are.1 (omega (arith, low)) in omega (arith, later)

-- ---- the rows

filter_twice : {X : Type 0} (p q r : X → Bool) (xs : List X) → ((x : X) → r x ≡ (p x && q x)) → filter q (filter p xs) ≡ filter r xs
filter_twice p q r [] both = refl
filter_twice p q r (x ∷ xs) both = go (p x) (filter_twice p q r xs both) ∙ ap (λ b. cond b (x ∷ filter r xs) (filter r xs)) (sym (both x))
  where
    go : (b : Bool) → filter q (filter p xs) ≡ filter r xs → filter q (cond b (x ∷ filter p xs) (filter p xs)) ≡ cond (b && q x) (x ∷ filter r xs) (filter r xs)
    go true later = ap (λ l. cond (q x) (x ∷ l) l) later
    go false later = later

filter_none : {X : Type 0} (p : X → Bool) (xs : List X) → ((x : X) → p x ≡ true) → xs ≡ filter p xs
filter_none p [] all = refl
filter_none p (x ∷ xs) all = ap (λ l. x ∷ l) (filter_none p xs all) ∙ ap (λ b. cond b (x ∷ filter p xs) (filter p xs)) (sym (all x))

-- an id of a range is its first, or of the rest
splits : (first next last id : ℕ) → next ≡ suc first → first ≤ last → (nat_le first id && nat_le id last) ≡ (nat_eq id first || (nat_le next id && nat_le id last))
splits first next last id is le = subst (λ n. (nat_le first id && nat_le id last) ≡ (nat_eq id first || (nat_le n id && nat_le id last))) (sym is) rest
  where
    rest : (nat_le first id && nat_le id last) ≡ (nat_eq id first || (nat_le (suc first) id && nat_le id last))
    rest = grind (arith, nat_tests)

none_within : (first last id : ℕ) → last < first → (nat_le first id && nat_le id last) ≡ false
none_within first last id low = grind (arith, nat_tests)

module _ (network : ℕ) where
  abbrev peers_left : ℕ → ℕ → List PeerRow → List PeerRow
  peers_left first last = filter (λ p. not (is_peer_within network (peer_id network first) (peer_id network last) p))

  abbrev allowed_left : ℕ → ℕ → List AllowedRow → List AllowedRow
  allowed_left first last = filter (λ a. not (is_address_within network (peer_id network first) (peer_id network last) a))

  abbrev left : ℕ → ℕ → Tables → Tables
  left first last t = record t { peers = peers_left first last t.peers; allowed = allowed_left first last t.allowed }

  each_goes : (first last : ℕ) (ps : List Peer) → AreFrom first ps → last + 1 ≡ first + length ps → (t : Tables) → Each (λ (p : Peer). PeerRowsGo network p.number) ps t (left first last t)
  each_goes first last [] are ends t =
      let low : peer_id network last < peer_id network first = omega (arith, ends) in
      ap₂ (λ ps rows. record t { peers = ps; allowed = rows })
      (filter_none (λ (p : PeerRow). not (is_peer_within network (peer_id network first) (peer_id network last) p)) t.peers (λ p. peer_stays (nat_eq p.network network) _ (none_within _ _ p.id low)))
      (filter_none (λ (a : AllowedRow). not (is_address_within network (peer_id network first) (peer_id network last) a)) t.allowed (λ a. address_stays (nat_eq a.network network) _ _ (not a.is_route) (none_within _ _ a.peer low)))
    where
      peer_stays : (a b : Bool) → b ≡ false → not (a && b) ≡ true
      peer_stays a b is = grind (arith, is)

      address_stays : (a b c d : Bool) → (b && c) ≡ false → not (a && (b && (c && d))) ≡ true
      address_stays a b c d is = grind (arith, is)
  each_goes first last (p ∷ ps) are ends t =
      let id = peer_id network first in
      let step : Tables = record t { peers = filter (λ q. not (is_peer network id q)) t.peers; allowed = filter (λ a. not (is_address_of network id a)) t.allowed } in
      let next : peer_id network (suc first) ≡ suc id = omega arith in
      let le : id ≤ peer_id network last = omega (arith, ends) in
      let twice : left (suc first) last step ≡ left first last t = ap₂ (λ ps rows. record t { peers = ps; allowed = rows })
      (filter_twice (λ (q : PeerRow). not (is_peer network id q)) (λ q. not (is_peer_within network (peer_id network (suc first)) (peer_id network last) q)) (λ q. not (is_peer_within network id (peer_id network last) q)) t.peers
      (λ q. peer_splits (nat_eq q.network network) _ _ _ (splits id (peer_id network (suc first)) (peer_id network last) q.id next le)))
      (filter_twice (λ (a : AllowedRow). not (is_address_of network id a)) (λ a. not (is_address_within network (peer_id network (suc first)) (peer_id network last) a)) (λ a. not (is_address_within network id (peer_id network last) a)) t.allowed
      (λ a. address_splits (nat_eq a.network network) _ _ _ _ (not a.is_route) (splits id (peer_id network (suc first)) (peer_id network last) a.peer next le))) in (
        step,
        subst (λ n. PeerRowsGo network n t step) (sym are.0) (record t { peers = filter (λ q. not (is_peer network id q)) t.peers }, refl, refl),
        subst (Each (λ (q : Peer). PeerRowsGo network q.number) ps step) twice (each_goes (suc first) last ps are.1 (omega (arith, ends)) step),
      )
    where
      peer_splits : (a b c d : Bool) → b ≡ (c || d) → not (a && b) ≡ (not (a && c) && not (a && d))
      peer_splits a b c d is = grind (arith, is)

      address_splits : (a b c d e f : Bool) → (b && c) ≡ (d || (e && c)) → not (a && (b && (c && f))) ≡ (not (a && (d && f)) && not (a && (e && (c && f))))
      address_splits a b c d e f is = grind (arith, is)

  pub range_goes : (first last : ℕ) (ps : List Peer) → AreFrom first ps → last + 1 ≡ first + length ps → (t u : Tables) → RangeGoes network first last t u → Each (λ (p : Peer). PeerRowsGo network p.number) ps t u
  range_goes first last ps are ends t u (m, peers, addresses) =
      let is : left first last t ≡ u = sym (addresses ∙ ap (λ (s : Tables). record s { allowed = allowed_left first last s.allowed }) peers) in
      subst (Each (λ (p : Peer). PeerRowsGo network p.number) ps t) is (each_goes first last ps are ends t)

-- ---- the step

-- a step is a chain of the steps that it does the work of
pub as_chain : {X Y : Type 0} (P Q : Tables → Tables → Type 0) → ((t u : Tables) → P t u → Q t u) → (a b : State) (x : X) (y : Y) → StepsOn {X = X} {E = Fault} P a b (Ok x) → StepsFrom {X = Y} {E = Fault} Q a b (Ok y)
as_chain P Q weaker a b x y step inside start =
    let it = step inside start in
    (it.0, (it.1.1.mode, λ live. (record { sound = it.1.0.sound; schema = it.1.0.schema; made = weaker _ _ it.1.0.made }, it.1.1)))
