-- The tests whether a table takes a peer.
use Rattle.std.proofs.Common.{◌≡◌, ℕ, suc, ◌-◌, ◌<◌, ◌↔◌, inl, inr, Bool, true, false, not, ◌||◌, cond, nat_lt, List, [], ◌∷◌, length, get_or, Option, Some, None, refl, sym, ap, subst, ◌∙◌, arith}
use Rattle.std.specs.Prelude.{IsTrue, is_some}
use Rattle.std.specs.List.{All, list_any}
use Rattle.std.proofs.lemmas.Bool.{cases_lt}
use Rattle.std.proofs.lemmas.Bool.Decides.{nat_tests}
use Rattle.std.proofs.lemmas.Cmp.{nat_list_eq_equiv}
use Rattle.std.proofs.lemmas.List.Elements.{All-cons}
use Rattle.std.proofs.lemmas.List.Folds.{list_any_none}
use Rattle.wgr_text.specs.declared.key.Key.{Key}
use Rattle.wgr_text.specs.Prefix.{AddrValue}
use Rattle.wgr_peers.specs.declared.peer.Peer.{Peer}
use Rattle.wgr_peers.specs.Peers.{addresses, is_at, is_own, key_holder, same_key, AreNumbered, IsApart}
use Rattle.wgr_pool.proofs.Bools.{decide, not_true}
use Rattle.wgr_pool.proofs.Lists.{list_any-none}
use Rattle.wgr_peers.proofs.PeerLemmas.{apart_turn}
use Rattle.wgr_peers.proofs.TableLemmas.{holder_absent}

-- all numbers are below one that is above the last
pub below_iff : (peers : List Peer) (last : Peer) (n : ℕ) → AreNumbered peers → 0 < length peers → ((d : Peer) → last ≡ get_or peers (length peers - 1) d) → IsTrue (nat_lt last.number n) ↔ All (λ q. q.number < n) peers
below_iff peers last n rise some is = (
  (λ h k d l. elim (cases_lt k (length peers - 1)) [
    | inl before ↦
        let up : (get_or peers k d).number < last.number = subst (λ (q : Peer). (get_or peers k d).number < q.number) (sym (is d)) (rise k (length peers - 1) d before (omega (arith, some))) in
        let under : last.number < n = tested last.number n h in
        omega (arith, up, under)
    | inr from ↦
        let at : length peers - 1 ≡ k = omega (arith, from, l) in
        subst (λ (q : Peer). q.number < n) (is d ∙ ap (λ (i : ℕ). get_or peers i d) at) (tested last.number n h)
  ]),
  (λ all. test last.number n (subst (λ (q : Peer). q.number < n) (sym (is last)) (all (length peers - 1) last (omega (arith, some))))),
)
  where
    tested : (a b : ℕ) → nat_lt a b ≡ true → a < b
    tested a b h = grind (arith, nat_tests)

    test : (a b : ℕ) → a < b → nat_lt a b ≡ true
    test a b l = grind (arith, nat_tests)

holder_none : (peers : List Peer) (key : Key) → key_holder peers key ≡ None → All (λ q. same_key q.key key ≡ false) peers
holder_none [] key none = λ k d l. absurd (omega (arith, l))
holder_none (q ∷ peers) key none = elim (decide (same_key q.key key)) [
  | inl same ↦ let bad : Some q.number ≡ None = sym (ap (λ b. cond b (Some q.number) (key_holder peers key)) same) ∙ none in cc
  | inr other ↦ All-cons (λ q. same_key q.key key ≡ false) q peers other (holder_none peers key (sym (ap (λ b. cond b (Some q.number) (key_holder peers key)) other) ∙ none))
]

own_absent : (peers : List Peer) (a : AddrValue) → All (λ q. is_at q a ≡ false) peers → is_own peers a ≡ false
own_absent peers a all = list_any_none (λ q. is_at q a) peers all

-- a peer stands apart where no peer has its key, and none an address of it
pub apart_iff : (peers : List Peer) (p : Peer) (owned : Bool) → is_some (key_holder peers p.key) ≡ false → owned ≡ list_any (is_own peers) (addresses p) → IsTrue (not owned) ↔ All (λ q. IsApart q p) peers
apart_iff peers p owned free is = (
  (λ h k d l.
      let none = list_any-none (is_own peers) (addresses p) (sym is ∙ not_true owned h) in
      let q = get_or peers k d in
      apart_turn p q (
        nat_list_eq_equiv.symm p.key.0 q.key.0 ∙ holder_none peers p.key (unheld (key_holder peers p.key) free) k d l,
        list_any_none (is_at q) (addresses p) (λ i a m. list_any-none (λ r. is_at r (get_or (addresses p) i a)) peers (none i a m) k d l),
      )),
  (λ all. ap not (is ∙ list_any_none (is_own peers) (addresses p) (λ i a m. own_absent peers (get_or (addresses p) i a) (λ k d l. list_any-none (is_at (get_or peers k d)) (addresses p) (apart_turn (get_or peers k d) p (all k d l)).1 i a m)))),
)
  where
    unheld : (o : Option ℕ) → is_some o ≡ false → o ≡ None
    unheld None h = refl
    unheld (Some n) h = cc

-- and not where a peer has its key
pub not_apart : (peers : List Peer) (p : Peer) → is_some (key_holder peers p.key) ≡ true → All (λ q. IsApart q p) peers → ⊥
not_apart peers p held all =
    let bad : true ≡ false = sym held ∙ ap is_some (holder_absent peers p.key (λ k d l. (all k d l).0)) in cc
