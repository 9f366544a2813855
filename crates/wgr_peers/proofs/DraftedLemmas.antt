-- The indexes of peers that grow in number: one more peer, and one in the place of another.
use Rattle.std.proofs.Common.{◌≡◌, ℕ, ◌<◌, ◌↔◌, ◌⊎◌, inl, inr, Bool, true, false, ◌||◌, ◌&&◌, cond, nat_eq, nat_lt, set, List, [], ◌∷◌, ◌++◌, Option, Some, None, refl, sym, ap, ◌∙◌, subst}
use Rattle.std.specs.List.{All, AllPairs, list_any}
use Rattle.std.specs.HashMap.{HashMap, get}
use Rattle.std.specs.HashSet.{contains}
use Rattle.std.specs.declared.hash.FoldHasher.{FoldHasher}
use Rattle.std.specs.declared.hash.BuildHasherDefault.{BuildHasherDefault}
use Rattle.std.proofs.lemmas.List.Quantifiers.{all_pairs_push}
use Rattle.wgr_text.specs.declared.addr.Family.{Family}
use Rattle.wgr_text.specs.declared.addr.Family.TheVariants.{V4, V6}
use Rattle.wgr_text.specs.declared.key.Key.{Key}
use Rattle.wgr_text.specs.declared.prefix.Span.{Span}
use Rattle.wgr_text.specs.Prefix.{AddrValue, width}
use Rattle.wgr_peers.specs.declared.peer.Peer.{Peer}
use Rattle.wgr_pool.specs.PrefixTests.{same_address, same_family}
use Rattle.wgr_pool.proofs.Bools.{decide}
use Rattle.wgr_peers.specs.Peers.{addresses, is_at, is_first, is_own, key_holder, same_key, IsNumberedBelow}
use Rattle.wgr_peers.specs.PeerIndex.{IsAlikeAt}
use Rattle.wgr_peers.specs.PeerDraft.{HasOneMore, HasRuns, HasSpots, IsDrafted, Owned, same_spot}
use Rattle.wgr_peers.proofs.HeldLemmas.{held_alike, held_push}
use Rattle.wgr_peers.proofs.OrderedLemmas.{put_pairs}
use Rattle.wgr_peers.proofs.PlaceLemmas.{peers_placed}
use Rattle.wgr_peers.proofs.TableLemmas.{alike_first, alike_holder, alike_own, alike_place, holder_push_other, holder_push_same, own_push, same_key_is}

abbrev Numbers : Type 0
Numbers = HashMap Key ℕ (BuildHasherDefault FoldHasher)

-- the width and the number tell addresses apart
spot_is : (a b : AddrValue) → same_spot (width a.family, a.number) (width b.family, b.number) ≡ same_address a b
spot_is a b = by_family a.family b.family (nat_eq a.number b.number)
  where
    by_family : (f g : Family) (same : Bool) → (nat_eq (width f) (width g) && same) ≡ (same_family f g && same)
    by_family V4 V4 same = refl
    by_family V4 V6 same = refl
    by_family V6 V4 same = refl
    by_family V6 V6 same = refl

turned : (x y : Bool) → (x || y) ≡ (y || x)
turned true true = refl
turned true false = refl
turned false true = refl
turned false false = refl

pub more_runs : (peers : List Peer) (p : Peer) (runs runs' : Option (List Span)) → HasOneMore p.address runs runs' → HasRuns peers runs → HasRuns (peers ++ p ∷ []) runs'
more_runs peers p None None more is = tt
more_runs peers p None (Some runs') more is = absurd more
more_runs peers p (Some runs) None more is = tt
more_runs peers p (Some runs) (Some runs') more is = held_push is_first peers p runs runs' is more

pub spots_first : (a : AddrValue) (old new : Owned) → ((q : ℕ × ℕ) → contains same_spot new q ≡ cond (same_spot (width a.family, a.number) q) true (contains same_spot old q)) → HasSpots (a ∷ []) old new
spots_first a old new with b = with (width b.family, b.number) ∙ ap (λ x. cond x true (contains same_spot old (width b.family, b.number))) (spot_is a b) ∙ by (same_address a b) (contains same_spot old (width b.family, b.number))
  where
    by : (x y : Bool) → cond x true y ≡ ((x || false) || y)
    by true y = refl
    by false y = refl

pub spots_both : (a s : AddrValue) (old one new : Owned) → HasSpots (a ∷ []) old one → HasSpots (s ∷ []) one new → HasSpots (a ∷ s ∷ []) old new
spots_both a s old one new first second b = second b ∙ ap (λ x. (same_address s b || false) || x) (first b) ∙ by (same_address s b) (same_address a b) (contains same_spot old (width b.family, b.number))
  where
    by : (x y z : Bool) → ((x || false) || ((y || false) || z)) ≡ ((y || (x || false)) || z)
    by true true z = refl
    by true false z = refl
    by false true z = refl
    by false false z = refl

pub drafted_push : (peers : List Peer) (numbers numbers' : Numbers) (owned owned' : Owned) (runs runs' : Option (List Span)) (p : Peer)
    → IsDrafted peers numbers owned runs → All (λ q. q.number < p.number) peers → key_holder peers p.key ≡ None
    → ((q : Key) → get same_key numbers' q ≡ cond (same_key p.key q) (Some p.number) (get same_key numbers q))
    → HasSpots (addresses p) owned owned'
    → HasRuns (peers ++ p ∷ []) runs'
    → IsDrafted (peers ++ p ∷ []) numbers' owned' runs'
drafted_push peers numbers numbers' owned owned' runs runs' p is above none by_key spots by_runs = record {
  in_order = all_pairs_push IsNumberedBelow peers p is.in_order above;
  by_key = λ key. elim (decide (same_key p.key key)) [
    | inl same ↦
        let unheld : key_holder peers key ≡ None = subst (λ k. key_holder peers k ≡ None) (same_key_is p.key key same) none in
        by_key key ∙ ap (λ b. cond b (Some p.number) (get same_key numbers key)) same ∙ sym (holder_push_same peers p key same unheld)
    | inr apart ↦
        by_key key ∙ ap (λ b. cond b (Some p.number) (get same_key numbers key)) apart ∙ is.by_key key ∙ sym (holder_push_other peers p key apart)
  ];
  by_address = λ b. spots b ∙ ap (λ y. is_at p b || y) (is.by_address b) ∙ turned (is_at p b) (is_own peers b) ∙ sym (own_push peers p b);
  by_runs = by_runs;
}

-- the same entries found anywhere
pub drafted_same : (peers peers' : List Peer) (numbers numbers' : Numbers) (owned owned' : Owned) (runs runs' : Option (List Span))
    → IsDrafted peers numbers owned runs → peers' ≡ peers → ((q : Key) → get same_key numbers' q ≡ get same_key numbers q) → ((q : ℕ × ℕ) → contains same_spot owned' q ≡ contains same_spot owned q)
    → HasRuns peers runs'
    → IsDrafted peers' numbers' owned' runs'
drafted_same peers peers' numbers numbers' owned owned' runs runs' is same_peers same_keys same_spots by_runs =
    subst (λ ps. IsDrafted ps numbers' owned' runs') (sym same_peers) (record {
      in_order = is.in_order;
      by_key = λ key. same_keys key ∙ is.by_key key;
      by_address = λ b. same_spots (width b.family, b.number) ∙ is.by_address b;
      by_runs = by_runs;
    })

runs_alike : (peers : List Peer) (p : Peer) (at : ℕ) (runs : Option (List Span)) → IsAlikeAt peers p at
    → HasRuns peers runs
    → HasRuns (set peers at p) runs
runs_alike peers p at None alike is = tt
runs_alike peers p at (Some runs) alike is = held_alike is_first peers (set peers at p) runs (λ b. alike_first peers p at b alike) is

pub drafted_alike : (peers : List Peer) (numbers : Numbers) (owned : Owned) (runs : Option (List Span)) (p : Peer) (at : ℕ) → IsDrafted peers numbers owned runs → IsAlikeAt peers p at → IsDrafted (set peers at p) numbers owned runs
drafted_alike peers numbers owned runs p at is alike =
    let placed = alike_place peers p at is.in_order alike in
    record {
      in_order = subst (AllPairs IsNumberedBelow) placed (put_pairs IsNumberedBelow (λ q. Unit {0}) (λ q. nat_lt q.number p.number) (λ q. nat_eq q.number p.number) peers p (peers_placed p) (λ k d h. tt) is.in_order);
      by_key = λ key. is.by_key key ∙ sym (alike_holder peers p at key alike);
      by_address = λ b. is.by_address b ∙ sym (alike_own peers p at b alike);
      by_runs = runs_alike peers p at runs alike is.by_runs;
    }
