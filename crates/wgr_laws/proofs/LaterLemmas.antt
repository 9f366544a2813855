-- Live peers, at one moment and at later ones.
use Rattle.std.proofs.Common.{◌≡◌, ℕ, zero, suc, ◌≤◌, ◌<◌, ◌⊎◌, ◌↔◌, inl, inr, Bool, true, false, not, ◌&&◌, List, Option, Some, None, is_some, refl, sym, ap, ◌∙◌, subst, arith}
use Rattle.std.specs.Prelude.{Ok, Err, IfOk}
use Rattle.std.specs.List.{filter}
use Rattle.std.proofs.lemmas.Bool.Decides.{nat_tests}
use Rattle.wgr_text.specs.Prefix.{PrefixValue}
use Rattle.wgr_peers.specs.declared.peer.Peer.{Peer}
use Rattle.wgr_core.specs.declared.command.Command.{Command}
use Rattle.wgr_peers.specs.Limits.{is_expired}
use Rattle.wgr_peers.specs.Peers.{is_live, peer_of}
use Rattle.wgr_peers.specs.Routes.{Routes}
use Rattle.wgr_core.specs.Network.{NetworkValue, IsNetwork, live_at}
use Rattle.wgr_core.specs.Outcome.{Outcome, is_reading, kept_if, live_outcome, outcome_of}
use Rattle.wgr_pool.proofs.Lists.{filter_twice}
use Rattle.wgr_core.proofs.LookLemmas.{absent_kept, found_kept}

pub live_is_found : (n : NetworkValue) (now i : ℕ) (p : Peer) → IsNetwork n → (peer_of (live_at n now).peers i ≡ Some p) ↔ ((peer_of n.peers i ≡ Some p) × (is_live now p ≡ true))
live_is_found n now i p is = found_kept (is_live now) n.peers i p is.numbered

pub live_until : (now : ℕ) (p : Peer) → (is_live now p ≡ true) ↔ ((p.until ≡ 0) ⊎ (now < p.until))
live_until now p = by_numbers p.until
  where
    by_numbers : (until : ℕ) → (not (is_expired now until) ≡ true) ↔ ((until ≡ 0) ⊎ (now < until))
    by_numbers zero = ((λ h. inl refl), (λ h. refl))
    by_numbers (suc k) = (
      (λ h. inr (grind (arith, nat_tests))),
      (λ h. elim h [ inl none ↦ absurd (omega (arith, none)) | inr later ↦ grind (arith, nat_tests) ]),
    )

-- ---- later moments

-- a lease that runs later runs now
runs_before : (now later until : ℕ) → now ≤ later → not (is_expired later until) ≡ true → not (is_expired now until) ≡ true
runs_before now later zero l h = refl
runs_before now later (suc k) l h = grind (arith, nat_tests)

both_where : (a b : Bool) → (b ≡ true → a ≡ true) → b ≡ (a && b)
both_where true b one = refl
both_where false true one = sym (one refl)
both_where false false one = refl

-- the end of leases may be seen to at any moment before
pub live_of_live : (n : NetworkValue) (now later : ℕ) → now ≤ later → live_at (live_at n now) later ≡ live_at n later
live_of_live n now later l =
    let first = filter (is_live now) n.peers in
    let peers : filter (is_live later) n.peers ≡ filter (is_live later) first =
    filter_twice (is_live now) (is_live later) (is_live later) (λ p. both_where (is_live now p) (is_live later p) (runs_before now later p.until l)) n.peers in
    let routes = filter_twice (λ (r : PrefixValue × ℕ). is_some (peer_of first r.1)) (λ r. is_some (peer_of (filter (is_live later) first) r.1)) (λ r. is_some (peer_of (filter (is_live later) first) r.1))
    (λ r. both_where (is_some (peer_of first r.1)) (is_some (peer_of (filter (is_live later) first) r.1)) (stands first r.1 (peer_of first r.1) refl)) n.routes in
    sym
    (ap (λ (ps : List Peer). record n { peers = ps; routes = filter (λ (r : PrefixValue × ℕ). is_some (peer_of ps r.1)) n.routes }) peers
    ∙ ap (λ (rs : Routes). record n { peers = filter (is_live later) first; routes = rs }) routes)
  where
    stands : (first : List Peer) (i : ℕ) (o : Option Peer) → peer_of first i ≡ o → is_some (peer_of (filter (is_live later) first) i) ≡ true → is_some o ≡ true
    stands first i (Some p) is h = refl
    stands first i None is h = let bad : false ≡ true = sym (ap is_some (absent_kept (is_live later) first i is)) ∙ h in cc

pub sweeps_are_unseen : (n : NetworkValue) (now later : ℕ) (asked : Command) → now ≤ later → is_reading asked ≡ false → outcome_of (live_at n now) later asked ≡ outcome_of n later asked
sweeps_are_unseen n now later asked l changes =
    ap (λ b. kept_if b (live_at n now) (live_outcome (live_at (live_at n now) later) later asked)) changes
    ∙ ap (λ (m : NetworkValue). kept_if false (live_at n now) (live_outcome m later asked)) (live_of_live n now later l)
    ∙ of_change (live_outcome (live_at n later) later asked)
    ∙ sym (ap (λ b. kept_if b n (live_outcome (live_at n later) later asked)) changes)
  where
    of_change : (o : Outcome) → kept_if false (live_at n now) o ≡ kept_if false n o
    of_change (Err why) = refl
    of_change (Ok done) = refl

-- ---- readings

pub reading_changes_nothing : (n : NetworkValue) (now : ℕ) (asked : Command) → is_reading asked ≡ true → IfOk (outcome_of n now asked) (λ done. done.1 ≡ n)
reading_changes_nothing n now asked reads = subst (λ b. IfOk (kept_if b n (live_outcome (live_at n now) now asked)) (λ done. done.1 ≡ n)) (sym reads) (unchanged (live_outcome (live_at n now) now asked))
  where
    unchanged : (o : Outcome) → IfOk (kept_if true n o) (λ done. done.1 ≡ n)
    unchanged (Err why) = tt
    unchanged (Ok done) = refl
