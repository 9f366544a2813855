-- The indexes of a table that is made at once.
use Rattle.std.proofs.Common.{◌≡◌, ℕ, suc, ◌+◌, ◌<◌, ◌↔◌, inl, inr, Bool, true, ◌||◌, cond, List, [], ◌∷◌, ◌++◌, length, get_or, map, take, take-suc, drop, Some, None, refl, sym, ap, ◌∙◌, subst, arith}
use Rattle.std.specs.List.{All, AllPairs, flat_map, list_any}
use Rattle.std.specs.HashMap.{HashMap, get}
use Rattle.std.specs.declared.hash.FoldHasher.{FoldHasher}
use Rattle.std.specs.declared.hash.BuildHasherDefault.{BuildHasherDefault}
use Rattle.std.specs.Prelude.{option_to_list}
use Rattle.std.proofs.lemmas.List.{take-append-drop}
use Rattle.std.proofs.lemmas.List.Folds.{list_any-append}
use Rattle.wgr_text.specs.declared.key.Key.{Key}
use Rattle.wgr_text.specs.declared.prefix.Span.{Span}
use Rattle.wgr_text.specs.Prefix.{AddrValue, IsAddr}
use Rattle.wgr_peers.specs.declared.peer.Peer.{Peer}
use Rattle.wgr_pool.specs.PrefixTests.{same_address}
use Rattle.wgr_pool.specs.Spans.{IsHeld}
use Rattle.wgr_peers.specs.Peers.{is_first, is_second, key_holder, same_key, AreNumbered, IsApart, AreApart}
use Rattle.wgr_peers.specs.PeerIndex.{EndsFrom, HasThose, IsIndexed}
use Rattle.wgr_pool.proofs.Bools.{decide}
use Rattle.wgr_pool.proofs.Lists.{drop_next}
use Rattle.wgr_peers.proofs.TableLemmas.{holder_push_other, holder_push_same, new_key, same_key_is}

pub take_next : {X : Type 0} (xs : List X) (i : ℕ) (x : X) → i < length xs → x ≡ get_or xs i x → take (i + 1) xs ≡ take i xs ++ x ∷ []
take_next xs i x within is =
    subst (λ (k : ℕ). take k xs ≡ take i xs ++ get_or xs i x ∷ []) (later i) (take-suc xs i x within) ∙ ap (λ y. take i xs ++ y ∷ []) (sym is)
  where
    later : (i : ℕ) → suc i ≡ i + 1
    later i = omega arith

-- the next peer has a key that none before it has
pub holder_next : (peers : List Peer) (i : ℕ) (p : Peer) (key : Key) → AreApart peers → i < length peers → p ≡ get_or peers i p
    → key_holder (take (i + 1) peers) key ≡ cond (same_key p.key key) (Some p.number) (key_holder (take i peers) key)
holder_next peers i p key apart within is =
    let parts : peers ≡ take i peers ++ p ∷ drop (i + 1) peers = sym (take-append-drop i peers) ∙ ap (λ rest. take i peers ++ rest) (drop_next peers i p within is) in
    let none = new_key (take i peers) p (drop (i + 1) peers) (subst (AllPairs IsApart) parts apart) in
    ap (λ ps. key_holder ps key) (take_next peers i p within is)
    ∙ (elim (decide (same_key p.key key)) [
      | inl same ↦
          let unheld : key_holder (take i peers) key ≡ None = subst (λ k. key_holder (take i peers) k ≡ None) (same_key_is p.key key same) none in
          holder_push_same (take i peers) p key same unheld ∙ sym (ap (λ b. cond b (Some p.number) (key_holder (take i peers) key)) same)
      | inr other ↦ holder_push_other (take i peers) p key other ∙ sym (ap (λ b. cond b (Some p.number) (key_holder (take i peers) key)) other)
    ])

pub first_is : (peers : List Peer) (b : AddrValue) → list_any (λ a. same_address a b) (map (λ (p : Peer). p.address) peers) ≡ list_any (λ p. is_first p b) peers
first_is [] b = refl
first_is (p ∷ peers) b = ap (λ x. same_address p.address b || x) (first_is peers b)

second_is : (peers : List Peer) (b : AddrValue) → list_any (λ a. same_address a b) (flat_map (λ (p : Peer). option_to_list p.second) peers) ≡ list_any (λ p. is_second p b) peers
second_is [] b = refl
second_is (p ∷ peers) b =
    list_any-append (λ a. same_address a b) (option_to_list p.second) (flat_map (λ (q : Peer). option_to_list q.second) peers) ∙ ap (λ x. is_second p b || x) (second_is peers b)

-- the runs of a list of addresses
pub held_collected : (test : Peer → AddrValue → Bool) (peers : List Peer) (addresses : List AddrValue) (runs : List Span) → ((b : AddrValue) → list_any (λ a. same_address a b) addresses ≡ list_any (λ p. test p b) peers)
    → ((b : AddrValue) → IsAddr b → IsHeld runs b ↔ (list_any (λ a. same_address a b) addresses ≡ true)) → HasThose test peers runs
held_collected test peers addresses runs same held b fits = ((λ h. sym (same b) ∙ (held b fits).0 h), (λ h. (held b fits).1 (same b ∙ h)))

pub indexed_collected : (peers : List Peer) (addresses others : List AddrValue) (numbers : HashMap Key ℕ (BuildHasherDefault FoldHasher)) (runs seconds : List Span) (soonest : ℕ)
    → AreNumbered peers → addresses ≡ map (λ p. p.address) peers → others ≡ flat_map (λ p. option_to_list p.second) peers → ((key : Key) → get same_key numbers key ≡ key_holder peers key)
    → ((b : AddrValue) → IsAddr b → IsHeld runs b ↔ (list_any (λ a. same_address a b) addresses ≡ true))
    → ((b : AddrValue) → IsAddr b → IsHeld seconds b ↔ (list_any (λ a. same_address a b) others ≡ true)) → All (EndsFrom soonest) peers
    → IsIndexed peers numbers runs seconds soonest
indexed_collected peers addresses others numbers runs seconds soonest numbered are are_others by_key held held_second ends = record {
  in_order = numbered;
  by_key = by_key;
  by_address = held_collected is_first peers addresses runs (λ b. ap (list_any (λ (a : AddrValue). same_address a b)) are ∙ first_is peers b) held;
  by_second = held_collected is_second peers others seconds (λ b. ap (list_any (λ (a : AddrValue). same_address a b)) are_others ∙ second_is peers b) held_second;
  ends = ends;
}
