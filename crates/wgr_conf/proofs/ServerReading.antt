-- The laws of files.
use Rattle.std.proofs.Common.{◌≡◌, ℕ, ◌^◌, ◌<◌, ◌≤◌, List, [], ◌∷◌, get_or, flat_map, Option, refl, sym, ap, ap₂, ◌∙◌, subst, arith}
use Rattle.std.specs.List.{All}
use Rattle.std.proofs.lemmas.List.Elements.{All-filter, All-weaker}
use Rattle.wgr_text.specs.declared.addr.Family.{Family}
use Rattle.wgr_text.specs.declared.addr.Family.TheVariants.{V4, V6}
use Rattle.wgr_text.specs.declared.key.Key.{Key}
use Rattle.wgr_text.specs.Prefix.{PrefixValue, IsPrefix, mask, width}
use Rattle.wgr_text.proofs.KeyLemmas.{key_text_injective}
use Rattle.wgr_text.proofs.RoundTrips.{Spells_unique}
use Rattle.wgr_pool.specs.PrefixTests.{full}
use Rattle.wgr_peers.specs.declared.peer.Peer.{Peer}
use Rattle.wgr_peers.specs.Peers.{is_live}
use Rattle.wgr_peers.specs.Routes.{routes_to}
use Rattle.wgr_core.specs.declared.form.Form.{Form}
use Rattle.wgr_core.specs.Network.{NetworkValue, IsNetwork, live_at}
use Rattle.wgr_core.proofs.LiveLemmas.{live_is_network}
use Rattle.wgr_core.proofs.AllowedLemmas.{full_is_prefix}
use Rattle.wgr_conf.specs.Files.{peer_section, server_config}
use Rattle.wgr_conf.specs.Laws.{IsInRanges, allowed_peer_key}
use Rattle.wgr_conf.specs.Routing.{AreRows, IsRow, Text, cryptokey_routing, key_of, file_rows}
use Rattle.wgr_conf.proofs.Lacking.{IsShort}
use Rattle.wgr_conf.proofs.Reading.{read_interface, read_sections, section_rows}
use Rattle.wgr_conf.proofs.Assigned.{Assigned, IsMasked, all_assigned, last_assigned, sections_rows, to_peer}

short_length : (f : Family) (k : ℕ) → k ≤ width f → k < 2 ^ 64
short_length V4 k h = omega (arith, h)
short_length V6 k h = omega (arith, h)

short : (p : PrefixValue) → IsPrefix p → IsShort p
short p is = short_length p.address.family p.length is.0

pub server_file_routes : (n : NetworkValue) (now : ℕ) (form : Form) → IsNetwork n → All IsInRanges n.peers → cryptokey_routing (server_config n now form) (allowed_peer_key (live_at n now))
server_file_routes n now form is ranges =
    let m = live_at n now in
    let live = live_is_network n now is in
    let filled : All IsInRanges m.peers = All-filter (is_live now) IsInRanges n.peers ranges in
    let routes : Peer → List PrefixValue = λ p. routes_to m.routes p.number in
    let masked : All (λ p. All IsMasked (routes p)) m.peers = λ k d h. to_peer IsMasked m.routes (get_or m.peers k d).number (λ j e l same. (live.routes j e l).masked) in
    let rows : file_rows (server_config n now form) ≡ flat_map (λ p. section_rows p (routes p)) m.peers =
    read_interface n form (flat_map (λ p. peer_section p (routes p)) m.peers) (omega (arith, is.port.1)) (short n.pool is.pool.1)
    ∙ read_sections [] routes m.peers (λ k d h. omega (arith, (filled k d h).keepalive)) (λ k d h. short (full (get_or m.peers k d).address) (full_is_prefix (get_or m.peers k d).address))
    (λ k d h. All-weaker IsMasked IsShort (λ p is. short p is.1) (routes (get_or m.peers k d)) (masked k d h)) in
    record {
      assigned = all_assigned m;
      rows = subst (λ (rows : List (Text × Text)). AreRows rows (all_assigned m)) (sym rows)
          (sections_rows routes m.peers (λ k d h. (filled k d h).key) (λ k d h. ((filled k d h).address, full_is_prefix (get_or m.peers k d).address)) masked);
      last = last_assigned m live;
    }

-- ---- one reading

one_row : (row : Text × Text) (x y : PrefixValue × Key) → IsRow row x.0 x.1 → IsRow row y.0 y.1 → x ≡ y
one_row row x y s t =
    let spelled = Spells_unique row.0 s.address t.address s.bits t.bits s.spelled t.spelled in
    let prefixes : x.0 ≡ y.0 = s.masked ∙ ap₂ mask spelled.0 spelled.1 ∙ sym t.masked in
    let bytes : x.1.0 ≡ y.1.0 = key_text_injective x.1.0 y.1.0 s.bytes.1 t.bytes.1 (sym s.key_spelled ∙ t.key_spelled) in
    let key : List ℕ → Key = λ bytes. record { 0 = bytes } in
    let pair : PrefixValue → Key → PrefixValue × Key = λ p k. (p, k) in
    ap₂ pair prefixes (ap key bytes)

one_list : (rows : List (Text × Text)) (xs ys : Assigned) → AreRows rows xs → AreRows rows ys → xs ≡ ys
one_list [] [] [] h k = refl
one_list [] [] (y ∷ ys) h k = absurd k
one_list [] (x ∷ xs) ys h k = absurd h
one_list (r ∷ rows) [] ys h k = absurd h
one_list (r ∷ rows) (x ∷ xs) [] h k = absurd k
one_list (r ∷ rows) (x ∷ xs) (y ∷ ys) h k = ap₂ (λ (z : PrefixValue × Key) (zs : Assigned). z ∷ zs) (one_row r x y h.0 k.0) (one_list rows xs ys h.1 k.1)

pub routing_is_one : (file : Text) (one other : PrefixValue → Option Key) → cryptokey_routing file one → cryptokey_routing file other → (p : PrefixValue) → one p ≡ other p
routing_is_one file one other s t p = s.last p ∙ ap (λ (xs : Assigned). key_of xs p) (one_list (file_rows file) s.assigned t.assigned s.rows t.rows) ∙ sym (t.last p)
