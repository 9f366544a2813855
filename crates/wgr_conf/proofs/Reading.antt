-- What is read of the lines of a file.
use Rattle.std.proofs.Common.{◌≡◌, ℕ, ◌^◌, ◌<◌, inl, inr, true, false, ◌==◌, nat_eq, cond, List, [], ◌∷◌, ◌++◌, map, flat_map, codes, decimal, refl, ap, ap₂, ◌∙◌, append_assoc, append-nil, arith}
use Rattle.std.specs.List.{All}
use Rattle.std.proofs.lemmas.Bool.Decides.{nat_tests}
use Rattle.std.proofs.lemmas.List.Elements.{All-append, All-cons, All-head, All-nil, All-tail}
use Rattle.wgr_text.specs.KeyText.{key_text}
use Rattle.wgr_text.specs.Prefix.{PrefixValue}
use Rattle.wgr_text.specs.PrefixText.{canonical_text}
use Rattle.wgr_pool.specs.PrefixTests.{full}
use Rattle.wgr_pool.proofs.Bools.{decide}
use Rattle.wgr_peers.specs.declared.peer.Peer.{Peer}
use Rattle.wgr_core.specs.declared.form.Form.{Form}
use Rattle.wgr_core.specs.declared.form.Form.TheVariants.{Wg, Quick}
use Rattle.wgr_core.specs.Network.{NetworkValue, server_address}
use Rattle.wgr_conf.specs.Files.{address_line, allowed_line, further, keepalive_line, key_line, line, peer_section, port_line, section_head, server_address_line, server_interface}
use Rattle.wgr_conf.specs.Routing.{Text, before_first, key_after, rows_from, split, line_values, without_blank}
use Rattle.wgr_conf.proofs.Lacking.{IsShort, Lacks, from_decimal, from_prefix, lacks, lacks_key, literal}

-- ---- parts of a text

self : (at : ℕ) → (at == at) ≡ true
self at = grind (arith, nat_tests)

split_line : (at : ℕ) (x rest : Text) → Lacks at x → split at (x ++ at ∷ rest) ≡ x ∷ split at rest
split_line at [] rest none = ap (λ v. cond v ([] ∷ split at rest) (before_first at (split at rest))) (self at)
split_line at (b ∷ x) rest none =
    let first : (b == at) ≡ false = All-head (λ b. (b == at) ≡ false) b x none in
    let later = split_line at x rest (All-tail (λ b. (b == at) ≡ false) b x none) in
    rw (first, later) refl

split_whole : (at : ℕ) (x : Text) → Lacks at x → split at x ≡ x ∷ []
split_whole at [] none = refl
split_whole at (b ∷ x) none =
    let first : (b == at) ≡ false = All-head (λ b. (b == at) ≡ false) b x none in
    let later = split_whole at x (All-tail (λ b. (b == at) ≡ false) b x none) in
    rw (first, later) refl

pub read_line : (key x rest : Text) → Lacks 10 x
    → rows_from key (split 10 (line x ++ rest)) ≡ map (λ value. (value, key)) (line_values x) ++ rows_from (key_after key x) (split 10 rest)
unfolding line
read_line key x rest none = ap (rows_from key) (ap (split 10) (append_assoc x (10 ∷ []) rest) ∙ split_line 10 x rest none)

-- ---- the values of a line

split_list : (x : Text) (more : List PrefixValue) → Lacks 44 x → All IsShort more → split 44 (x ++ further more) ≡ x ∷ map (λ p. 32 ∷ canonical_text p) more
split_list x [] none short = ap (split 44) (append-nil x) ∙ split_whole 44 x none
split_list x (p ∷ more) none short =
    let text = canonical_text p in
    let next = All-cons (λ b. (b == 44) ≡ false) 32 text refl (lacks 44 text (omega arith) (from_prefix p (All-head IsShort p more short))) in
    split_line 44 x ((32 ∷ text) ++ further more) none ∙ ap (λ texts. x ∷ texts) (split_list (32 ∷ text) more next (All-tail IsShort p more short))

trimmed : (more : List PrefixValue) → map without_blank (map (λ p. 32 ∷ canonical_text p) more) ≡ map canonical_text more
trimmed [] = refl
trimmed (p ∷ more) = ap (λ texts. canonical_text p ∷ texts) (trimmed more)

no_blank : (x : Text) → Lacks 32 x → without_blank x ≡ x
no_blank [] none = refl
no_blank (b ∷ x) none = ap (λ v. cond v x (b ∷ x)) (All-head (λ b. (b == 32) ≡ false) b x none)

values : (p : PrefixValue) (more : List PrefixValue) → IsShort p → All IsShort more → line_values (codes "AllowedIPs = " ++ canonical_text p ++ further more) ≡ canonical_text p ∷ map canonical_text more
values p more short all =
    let text = canonical_text p in
    let from = from_prefix p short in
    ap (map without_blank) (split_list text more (lacks 44 text (omega arith) from) all)
    ∙ ap₂ (λ a b. a ∷ b) (no_blank text (lacks 32 text (omega arith) from)) (trimmed more)

-- ---- the section of a peer

-- the texts of a peer's prefixes, each with that of its key
abbrev pub section_rows : Peer → List PrefixValue → List (Text × Text)
section_rows p routes = map (λ value. (value, key_text p.key.0)) (canonical_text (full p.address) ∷ map canonical_text routes)

-- a name before a text
named : (name x : Text) → Lacks 10 name → Lacks 10 x → Lacks 10 (name ++ x)
named name x none none' = All-append (λ b. (b == 10) ≡ false) name x none none'

read_keepalive : (key : Text) (seconds : ℕ) (rest : Text) → seconds < 2 ^ 64 → rows_from key (split 10 (keepalive_line seconds ++ rest)) ≡ rows_from key (split 10 rest)
unfolding keepalive_line
read_keepalive key seconds rest small = elim (decide (nat_eq seconds 0)) [
  | inl none ↦ rw none refl
  | inr some ↦ rw some (read_line key (codes "PersistentKeepalive = " ++ decimal seconds) rest (named (codes "PersistentKeepalive = ") (decimal seconds) (literal (codes "PersistentKeepalive = ") refl) (lacks 10 (decimal seconds) (omega arith) (from_decimal seconds small))))
]

lacks_further : (routes : List PrefixValue) → All IsShort routes → Lacks 10 (further routes)
lacks_further [] all = All-nil (λ b. (b == 10) ≡ false)
lacks_further (p ∷ routes) all =
    let text = canonical_text p in
    let here = lacks 10 text (omega arith) (from_prefix p (All-head IsShort p routes all)) in
    named (codes ", " ++ text) (further routes) (named (codes ", ") text (literal (codes ", ") refl) here) (lacks_further routes (All-tail IsShort p routes all))

parts : (a b c d e rest : Text) → a ++ b ++ c ++ d ++ e ++ rest ≡ a ++ (b ++ (c ++ (d ++ (e ++ rest))))
parts a b c d e rest =
    append_assoc (a ++ b ++ c ++ d) e rest
    ∙ append_assoc (a ++ b ++ c) d (e ++ rest)
    ∙ append_assoc (a ++ b) c (d ++ (e ++ rest))
    ∙ append_assoc a b (c ++ (d ++ (e ++ rest)))

read_section : (key : Text) (p : Peer) (routes : List PrefixValue) (rest : Text) → p.keepalive < 2 ^ 64 → IsShort (full p.address) → All IsShort routes
    → rows_from key (split 10 (peer_section p routes ++ rest)) ≡ section_rows p routes ++ rows_from (key_text p.key.0) (split 10 rest)
unfolding section_head key_line allowed_line
read_section key p routes rest small short all =
    let text = key_text p.key.0 in
    let list = canonical_text (full p.address) ++ further routes in
    let five = keepalive_line p.keepalive ++ rest in
    let four = line (codes "AllowedIPs = " ++ canonical_text (full p.address) ++ further routes) ++ five in
    let three = line (codes "PublicKey = " ++ text) ++ four in
    let two = line (codes "[Peer]") ++ three in
    ap (λ t. rows_from key (split 10 t)) (parts (line []) (line (codes "[Peer]")) (line (codes "PublicKey = " ++ text)) (line (codes "AllowedIPs = " ++ canonical_text (full p.address) ++ further routes)) (keepalive_line p.keepalive) rest)
    ∙ read_line key [] two (All-nil (λ b. (b == 10) ≡ false))
    ∙ read_line key (codes "[Peer]") three (literal (codes "[Peer]") refl)
    ∙ read_line [] (codes "PublicKey = " ++ text) four (named (codes "PublicKey = ") text (literal (codes "PublicKey = ") refl) (lacks_key p.key.0))
    ∙ read_line text (codes "AllowedIPs = " ++ canonical_text (full p.address) ++ further routes) five (named (codes "AllowedIPs = ") list (literal (codes "AllowedIPs = ") refl) (All-append (λ b. (b == 10) ≡ false) (canonical_text (full p.address)) (further routes) (lacks 10 (canonical_text (full p.address)) (omega arith) (from_prefix (full p.address) short)) (lacks_further routes all)))
    ∙ ap₂ (λ texts rows. map (λ value. (value, text)) texts ++ rows) (values (full p.address) routes short all) (read_keepalive text p.keepalive rest small)

-- ---- all sections

pub read_sections : (key : Text) (routes : Peer → List PrefixValue) (peers : List Peer) → All (λ p. p.keepalive < 2 ^ 64) peers → All (λ p. IsShort (full p.address)) peers → All (λ p. All IsShort (routes p)) peers
    → rows_from key (split 10 (flat_map (λ p. peer_section p (routes p)) peers)) ≡ flat_map (λ p. section_rows p (routes p)) peers
read_sections key routes [] small short all = refl
read_sections key routes (p ∷ peers) small short all =
    read_section key p (routes p) (flat_map (λ p. peer_section p (routes p)) peers) (All-head (λ p. p.keepalive < 2 ^ 64) p peers small) (All-head (λ p. IsShort (full p.address)) p peers short) (All-head (λ p. All IsShort (routes p)) p peers all)
    ∙ ap (λ rows. section_rows p (routes p) ++ rows) (read_sections (key_text p.key.0) routes peers (All-tail (λ p. p.keepalive < 2 ^ 64) p peers small) (All-tail (λ p. IsShort (full p.address)) p peers short) (All-tail (λ p. All IsShort (routes p)) p peers all))

-- ---- the interface

read_address : (form : Form) (address : PrefixValue) (rest : Text) → IsShort address → rows_from [] (split 10 (address_line form address ++ rest)) ≡ rows_from [] (split 10 rest)
unfolding address_line
read_address Wg address rest short = refl
read_address Quick address rest short =
    read_line [] (codes "Address = " ++ canonical_text address) rest (named (codes "Address = ") (canonical_text address) (literal (codes "Address = ") refl) (lacks 10 (canonical_text address) (omega arith) (from_prefix address short)))

pub read_interface : (n : NetworkValue) (form : Form) (rest : Text) → n.port < 2 ^ 64 → n.pool.length < 2 ^ 64 → rows_from [] (split 10 (server_interface n form ++ rest)) ≡ rows_from [] (split 10 rest)
unfolding server_address_line port_line
read_interface n form rest port length =
    let address : PrefixValue = record { address = server_address n.pool; length = n.pool.length } in
    let last = line (codes "ListenPort = " ++ decimal n.port) in
    ap (λ t. rows_from [] (split 10 t)) (append_assoc (line (codes "[Interface]") ++ address_line form address) last rest ∙ append_assoc (line (codes "[Interface]")) (address_line form address) (last ++ rest))
    ∙ read_line [] (codes "[Interface]") (address_line form address ++ (last ++ rest)) (literal (codes "[Interface]") refl)
    ∙ read_address form address (last ++ rest) length
    ∙ read_line [] (codes "ListenPort = " ++ decimal n.port) rest (named (codes "ListenPort = ") (decimal n.port) (literal (codes "ListenPort = ") refl) (lacks 10 (decimal n.port) (omega arith) (from_decimal n.port port)))
