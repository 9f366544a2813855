-- The runs of the addresses for which a test of each peer holds: one more peer, one less, one in the place of another.
use Rattle.std.proofs.Common.{◌≡◌, ℕ, zero, suc, ◌<◌, inl, inr, Bool, true, false, ◌||◌, cond, set, List, [], ◌∷◌, ◌++◌, length, Option, refl, sym, ap, ◌∙◌, arith}
use Rattle.std.specs.List.{insert, list_any, remove}
use Rattle.std.specs.Prelude.{◌≤◌, ◌⊎◌, ◌↔◌, IsTrue}
use Rattle.std.proofs.lemmas.List.Folds.{list_any-append}
use Rattle.wgr_text.specs.declared.prefix.Span.{Span}
use Rattle.wgr_text.specs.Prefix.{AddrValue, IsAddr}
use Rattle.wgr_peers.specs.declared.peer.Peer.{Peer}
use Rattle.wgr_pool.specs.Spans.{IsHeld}
use Rattle.wgr_peers.specs.PeerIndex.{HasAllBut, HasAlso, HasMoved, HasSame, HasThose}
use Rattle.wgr_pool.proofs.Bools.{decide, or_cases, or_left, or_right}

-- ---- whether one passes

pub any_push : (q : Peer → Bool) (peers : List Peer) (p : Peer) → list_any q (peers ++ p ∷ []) ≡ (list_any q peers || q p)
any_push q peers p = list_any-append q peers (p ∷ []) ∙ ap (λ b. list_any q peers || b) (last (q p))
  where
    last : (b : Bool) → (b || false) ≡ b
    last true = refl
    last false = refl

turn : (x y z : Bool) → (x || (y || z)) ≡ (y || (x || z))
turn true true z = refl
turn true false z = refl
turn false y z = refl

pub any_set : (q : Peer → Bool) (peers : List Peer) (p : Peer) (at : ℕ) → at < length peers → list_any q (set peers at p) ≡ (q p || list_any q (remove peers at))
any_set q [] p at l = absurd (omega (arith, l))
any_set q (r ∷ peers) p zero l = refl
any_set q (r ∷ peers) p (suc at) l = ap (λ x. q r || x) (any_set q peers p at (omega (arith, l))) ∙ turn (q r) (q p) (list_any q (remove peers at))

pub any_insert : (q : Peer → Bool) (peers : List Peer) (p : Peer) (at : ℕ) → at ≤ length peers → list_any q (insert peers at p) ≡ (q p || list_any q peers)
any_insert q [] p zero l = refl
any_insert q [] p (suc at) l = absurd (omega (arith, l))
any_insert q (r ∷ peers) p zero l = refl
any_insert q (r ∷ peers) p (suc at) l = ap (λ x. q r || x) (any_insert q peers p at (omega (arith, l))) ∙ turn (q r) (q p) (list_any q peers)

-- one passes either test where one passes the first or one the second
pub any_either : (q r : Peer → Bool) (peers : List Peer) → list_any (λ p. q p || r p) peers ≡ (list_any q peers || list_any r peers)
any_either q r [] = refl
any_either q r (p ∷ peers) = ap (λ b. (q p || r p) || b) (any_either q r peers) ∙ by (q p) (r p) (list_any q peers) (list_any r peers)
  where
    by : (w x y z : Bool) → ((w || x) || (y || z)) ≡ ((w || y) || (x || z))
    by true x y z = refl
    by false true true z = refl
    by false true false z = refl
    by false false y z = refl

-- two tests of the same fact
pub tested : (b c : Bool) {X : Type 0} → IsTrue b ↔ X → X ↔ (c ≡ true) → b ≡ c
tested true c one other = sym (other.0 (one.0 refl))
tested false true one other = let bad : false ≡ true = one.1 (other.1 refl) in cc
tested false false one other = refl

-- ---- what the runs have

pub held_same : (test : Peer → AddrValue → Bool) (peers : List Peer) (runs runs' : List Span) → HasThose test peers runs → HasSame runs runs' → HasThose test peers runs'
held_same test peers runs runs' is same b fits = (
  (λ held. (is b fits).0 ((same b fits).0 held)),
  (λ own. (same b fits).1 ((is b fits).1 own)),
)

-- a list of peers of which the test says the same
pub held_alike : (test : Peer → AddrValue → Bool) (peers peers' : List Peer) (runs : List Span) → ((b : AddrValue) → list_any (λ q. test q b) peers' ≡ list_any (λ q. test q b) peers) → HasThose test peers runs → HasThose test peers' runs
held_alike test peers peers' runs same is b fits = (
  (λ held. same b ∙ (is b fits).0 held),
  (λ own. (is b fits).1 (sym (same b) ∙ own)),
)

-- one more peer
pub held_also : (test : Peer → AddrValue → Bool) (peers peers' : List Peer) (p : Peer) (runs runs' : List Span) → ((b : AddrValue) → list_any (λ q. test q b) peers' ≡ (test p b || list_any (λ q. test q b) peers))
    → HasThose test peers runs → HasAlso (test p) runs runs' → HasThose test peers' runs'
held_also test peers peers' p runs runs' more is also b fits =
    let any = list_any (λ (q : Peer). test q b) peers in (
      (λ held. more b ∙ elim ((also b fits).0 held) [
        | inl here ↦ or_left (test p b) any here
        | inr there ↦ or_right (test p b) any ((is b fits).0 there)
      ]),
      (λ own. (also b fits).1 (elim (or_cases (test p b) any (sym (more b) ∙ own)) [
        | inl here ↦ inl here
        | inr there ↦ inr ((is b fits).1 there)
      ])),
    )

pub held_push : (test : Peer → AddrValue → Bool) (peers : List Peer) (p : Peer) (runs runs' : List Span) → HasThose test peers runs → HasAlso (test p) runs runs' → HasThose test (peers ++ p ∷ []) runs'
held_push test peers p runs runs' is also =
    held_also test peers (peers ++ p ∷ []) p runs runs' (λ b. any_push (λ q. test q b) peers p ∙ swap (list_any (λ (q : Peer). test q b) peers) (test p b)) is also
  where
    swap : (x y : Bool) → (x || y) ≡ (y || x)
    swap true true = refl
    swap true false = refl
    swap false true = refl
    swap false false = refl

-- one peer less
pub held_but : (test : Peer → AddrValue → Bool) (peers peers' : List Peer) (p : Peer) (runs runs' : List Span) → ((b : AddrValue) → list_any (λ q. test q b) peers' ≡ cond (test p b) false (list_any (λ q. test q b) peers))
    → HasThose test peers runs → HasAllBut (test p) runs runs' → HasThose test peers' runs'
held_but test peers peers' p runs runs' less is but b fits =
    let any = list_any (λ (q : Peer). test q b) peers in (
      (λ held. let parts = (but b fits).0 held in less b ∙ ap (λ x. cond x false any) parts.0 ∙ (is b fits).0 parts.1),
      (λ own. elim (decide (test p b)) [
        | inl mine ↦ let bad : false ≡ true = sym (less b ∙ ap (λ x. cond x false any) mine) ∙ own in cc
        | inr other ↦ (but b fits).1 (other, (is b fits).1 (sym (less b ∙ ap (λ x. cond x false any) other) ∙ own))
      ]),
    )

-- a peer in the place of another
pub held_moved : (test : Peer → AddrValue → Bool) (peers : List Peer) (p old : Peer) (at : ℕ) (runs runs' : List Span) → at < length peers
    → ((b : AddrValue) → list_any (λ q. test q b) (remove peers at) ≡ cond (test old b) false (list_any (λ q. test q b) peers))
    → HasThose test peers runs → HasMoved (test old) (test p) runs runs'
    → HasThose test (set peers at p) runs'
held_moved test peers p old at runs runs' within left is with b fits =
    let any = list_any (λ (q : Peer). test q b) peers in
    let rest = list_any (λ (q : Peer). test q b) (remove peers at) in
    let own = any_set (λ q. test q b) peers p at within in (
      (λ h. own ∙ elim ((with b fits).0 h) [
        | inl here ↦ or_left (test p b) rest here
        | inr there ↦ or_right (test p b) rest (left b ∙ ap (λ x. cond x false any) there.0 ∙ (is b fits).0 there.1)
      ]),
      (λ h. (with b fits).1 (elim (or_cases (test p b) rest (sym own ∙ h)) [
        | inl here ↦ inl here
        | inr there ↦ inr (elim (decide (test old b)) [
          | inl mine ↦ let bad : false ≡ true = sym (left b ∙ ap (λ x. cond x false any) mine) ∙ there in cc
          | inr other ↦ (other, (is b fits).1 (sym (left b ∙ ap (λ x. cond x false any) other) ∙ there))
        ])
      ])),
    )
