-- Servers' files that stay in memory.
use Rattle.std.proofs.Common.{◌≡◌, ℕ, true, false, not, List, [], ◌∷◌, ◌++◌, Some, cond, filter, nat_eq, is_some, flat_map, refl, sym, ap, ap₂, subst, ◌∙◌, arith, inl, inr, true≢false, eqb-true}
use Rattle.std.specs.List.{IsDistinct}
use Rattle.std.specs.Map.{keys_of, lookup, remove_entry}
use Rattle.std.proofs.lemmas.List.Elements.{filter-append}
use Rattle.lru.specs.LruCache.{LruCache, put_entries}
use Rattle.wgr_conf.specs.Files.{peer_section, server_config, server_interface}
use Rattle.wgr_core.specs.Network.{NetworkValue}
use Rattle.wgr_core.specs.declared.form.Form.{Form}
use Rattle.wgr_core.specs.declared.form.Form.TheVariants.{Quick, Wg}
use Rattle.wgr_model.specs.Rows.{IsFormed, Tables}
use Rattle.wgr_model.proofs.GatherLemmas.{eqb_self}
use Rattle.wgr_peers.specs.declared.peer.Peer.{Peer}
use Rattle.wgr_peers.specs.Limits.{is_expired}
use Rattle.wgr_peers.specs.Peers.{is_live, peer_of}
use Rattle.wgr_peers.specs.Routes.{routes_to}
use Rattle.wgr_register.specs.Cached.{AreCurrent, AreOthersCurrent, Cached, IsCurrent, file_key}
use Rattle.wgr_register.specs.declared.kept_file.KeptFile.{KeptFile}
use Rattle.wgr_register.proofs.CacheLemmas.{found_put, found_rest}

-- ---- keys

key_tells : (id other : ℕ) (form of : Form) → file_key id form ≡ file_key other of → (id ≡ other) × (form ≡ of)
key_tells id other Wg Wg same = (omega (arith, same), refl)
key_tells id other Wg Quick same = absurd (omega (arith, same))
key_tells id other Quick Wg same = absurd (omega (arith, same))
key_tells id other Quick Quick same = (omega (arith, same), refl)

-- ---- files come and go

pub none_current : (t : Tables) → AreCurrent [] t
none_current t id form e found = cc

pub rest_current : (key : ℕ) (files : Cached) (t : Tables) → IsDistinct nat_eq (keys_of files) → AreCurrent files t → AreCurrent (remove_entry (nat_eq key) files) t
rest_current key files t distinct current id form e found = current id form e (found_rest key (file_key id form) files distinct e found).1

pub put_current : (c : LruCache ℕ KeptFile) (id : ℕ) (form : Form) (file : KeptFile) (t : Tables) → AreCurrent c.entries t → IsCurrent t id form file → AreCurrent (put_entries nat_eq c (file_key id form) file) t
put_current c id form file t current own other of e found = elim (found_put c (file_key id form) file (file_key other of) e found) [
  | inl same ↦
      let keys = key_tells id other form of same.0 in
      subst (IsCurrent t other of) same.1 (subst (λ i. IsCurrent t i of file) keys.0 (subst (λ f. IsCurrent t id f file) keys.1 own))
  | inr was ↦ current other of e was.1
]

-- both files of a network go
pub dropped_current : (id : ℕ) (files : Cached) (t : Tables) → IsDistinct nat_eq (keys_of files) → IsDistinct nat_eq (keys_of (remove_entry (nat_eq (file_key id Wg)) files)) → AreOthersCurrent id files t
    → AreCurrent (remove_entry (nat_eq (file_key id Quick)) (remove_entry (nat_eq (file_key id Wg)) files)) t
dropped_current id files t distinct then_distinct others other form e found = (elim (nat_eq id other) as (λ b. nat_eq id other ≡ b → IsCurrent t other form e) [
  | true ↦ λ is. absurd (gone form (eqb-true id other is) long.0 short.0)
  | false ↦ λ off. others other form e off short.1
]) refl where
  long : (nat_eq (file_key id Quick) (file_key other form) ≡ false) × (lookup (nat_eq (file_key other form)) (remove_entry (nat_eq (file_key id Wg)) files) ≡ Some e)
  long = found_rest (file_key id Quick) (file_key other form) (remove_entry (nat_eq (file_key id Wg)) files) then_distinct e found

  short : (nat_eq (file_key id Wg) (file_key other form) ≡ false) × (lookup (nat_eq (file_key other form)) files ≡ Some e)
  short = found_rest (file_key id Wg) (file_key other form) files distinct e long.1

  gone : (of : Form) → id ≡ other → nat_eq (file_key id Quick) (file_key other of) ≡ false → nat_eq (file_key id Wg) (file_key other of) ≡ false → ⊥
  gone Wg same not_long not_short = true≢false (sym (eqb_self (file_key id Wg)) ∙ ap (λ i. nat_eq (file_key id Wg) (file_key i Wg)) same ∙ not_short)
  gone Quick same not_long not_short = true≢false (sym (eqb_self (file_key id Quick)) ∙ ap (λ i. nat_eq (file_key id Quick) (file_key i Quick)) same ∙ not_long)

-- the rows change, and the networks of others are formed as they were
pub current_after : (files : Cached) (t u : Tables) → ((id : ℕ) (n : NetworkValue) → IsFormed t id n → IsFormed u id n) → AreCurrent files t → AreCurrent files u
current_after files t u stays current id form e found = let it = current id form e found in (it.0, stays id it.0 it.1, it.2)

pub others_after : (id : ℕ) (files : Cached) (t u : Tables) → ((other : ℕ) (n : NetworkValue) → nat_eq id other ≡ false → IsFormed t other n → IsFormed u other n) → AreCurrent files t → AreOthersCurrent id files u
others_after id files t u stays current other form e off found = let it = current other form e found in (it.0, stays other it.0 off it.1, it.2)

-- ---- the same leases run

pub steady_push : (m now : ℕ) (peers : List Peer) (p : Peer) → filter (is_live m) peers ≡ filter (is_live now) peers → is_expired m p.until ≡ is_expired now p.until → filter (is_live m) (peers ++ p ∷ []) ≡ filter (is_live now) (peers ++ p ∷ [])
steady_push m now peers p so_far same =
    filter-append (is_live m) peers (p ∷ [])
    ∙ ap₂ (λ xs ys. xs ++ ys) so_far (ap (λ b. cond (not b) (p ∷ []) []) same)
    ∙ sym (filter-append (is_live now) peers (p ∷ []))

pub same_config : (n : NetworkValue) (m now : ℕ) (form : Form) → filter (is_live m) n.peers ≡ filter (is_live now) n.peers → server_config n m form ≡ server_config n now form
same_config n m now form same =
    ap (λ (peers : List Peer). server_interface n form ++ flat_map (λ p. peer_section p (routes_to (filter (λ r. is_some (peer_of peers r.1)) n.routes) p.number)) peers) same
