-- The peer that has a key, and whether there is one.
use Rattle.std.proofs.Common.{◌≡◌, ℕ, inl, inr, Bool, true, false, ◌||◌, cond, nat_eq, List, [], ◌∷◌, ◌++◌, map, Some, is_some, refl, sym, ap, ◌∙◌, subst}
use Rattle.std.specs.List.{All, list_any}
use Rattle.std.proofs.lemmas.List.Elements.{All-head, All-tail}
use Rattle.std.proofs.lemmas.List.Folds.{list_any-append}
use Rattle.wgr_text.specs.declared.key.Key.{Key}
use Rattle.wgr_peers.specs.declared.peer.Peer.{Peer}
use Rattle.wgr_peers.specs.Peers.{peer_of, same_key}
use Rattle.wgr_core.specs.Adoption.{keyed_peer}
use Rattle.wgr_pool.proofs.Bools.{decide, or_left}

abbrev pub DifferInKey : Peer → Peer → Type 0
DifferInKey p q = same_key p.key q.key ≡ false

abbrev pub is_keyed : List Peer → Key → Bool
is_keyed peers key = list_any (λ p. same_key p.key key) peers

abbrev pub is_numbered : List Peer → ℕ → Bool
is_numbered peers i = list_any (λ p. nat_eq p.number i) peers

pub keyed_has : (P : Peer → Type 0) (peers : List Peer) (key : Key) (p : Peer) → All P peers → keyed_peer peers key ≡ Some p → P p × (same_key p.key key ≡ true)
keyed_has P [] key p all found = cc
keyed_has P (e ∷ peers) key p all found = elim (decide (same_key e.key key)) [
  | inl here ↦
      let some : Some e ≡ Some p = sym (ap (λ b. cond b (Some e) (keyed_peer peers key)) here) ∙ found in
      let is : e ≡ p = cc in
      (subst P is (All-head P e peers all), ap (λ (x : Peer). same_key x.key key) (sym is) ∙ here)
  | inr apart ↦ keyed_has P peers key p (All-tail P e peers all) (sym (ap (λ b. cond b (Some e) (keyed_peer peers key)) apart) ∙ found)
]

pub some_keyed : (peers : List Peer) (key : Key) → is_some (keyed_peer peers key) ≡ is_keyed peers key
some_keyed [] key = refl
some_keyed (e ∷ peers) key = elim (same_key e.key key) as (λ b. is_some (cond b (Some e) (keyed_peer peers key)) ≡ (b || is_keyed peers key)) [ true ↦ refl | false ↦ some_keyed peers key ]

pub some_numbered : (peers : List Peer) (i : ℕ) → is_some (peer_of peers i) ≡ is_numbered peers i
some_numbered [] i = refl
some_numbered (e ∷ peers) i = elim (nat_eq e.number i) as (λ b. is_some (cond b (Some e) (peer_of peers i)) ≡ (b || is_numbered peers i)) [ true ↦ refl | false ↦ some_numbered peers i ]

pub list_any-map : {X Y : Type 0} (q : Y → Bool) (f : X → Y) (xs : List X) → list_any q (map f xs) ≡ list_any (λ x. q (f x)) xs
list_any-map q f [] = refl
list_any-map q f (x ∷ xs) = ap (λ b. q (f x) || b) (list_any-map q f xs)

pub any_push : {X : Type 0} (q : X → Bool) (xs : List X) (x : X) → list_any q xs ≡ true → list_any q (xs ++ x ∷ []) ≡ true
any_push q xs x some = list_any-append q xs (x ∷ []) ∙ or_left (list_any q xs) (list_any q (x ∷ [])) some

pub any_last : {X : Type 0} (q : X → Bool) (xs : List X) (x : X) → q x ≡ true → list_any q (xs ++ x ∷ []) ≡ true
any_last q [] x here = or_left (q x) false here
any_last q (y ∷ xs) x here = elim (q y) as (λ b. (b || list_any q (xs ++ x ∷ [])) ≡ true) [ true ↦ refl | false ↦ any_last q xs x here ]
