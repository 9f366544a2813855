-- Proofs of the laws.
use Rattle.std.proofs.Common.{◌≡◌, ◌==◌, ◌+◌, ℕ, suc, zero, Bool, true, false, cond, List, [], ◌∷◌, refl, sym, ap, subst, ◌∙◌, arith, ◌↔◌}
use Rattle.wgr_dump.specs.Dump.{InterfaceValue, LineValue, IsInterfaceLine, IsPeerLine, IsDump}
use Rattle.wgr_text.specs.Lines.{before_lines, lines_of, lines_or_one}
use Rattle.wgr_dump.specs.Fault.{AreOfForms, IsBadField, IsBadPeer, IsBadLine, IsFirstBad}
use Rattle.wgr_dump.specs.Fields.{Form, OneByOne, IsOf, a_key, a_key_or_none, a_port, a_word, prefixes, a_count, a_keepalive, fields_of, interface_forms, peer_forms}
use Rattle.wgr_dump.specs.Laws.{DifferInPrivateKey, DifferInPresharedKey, DifferInSecrets}
use Rattle.wgr_dump.proofs.LineLemmas.{good_not_bad, one_bad_field, interface_is_good, peer_is_good}

-- ---- one fault

peer_not_both : (lines : List (List ℕ)) (vs : List LineValue) (line n : ℕ) → OneByOne IsPeerLine lines vs → IsBadPeer lines line n → ⊥
peer_not_both [] vs line n each bad = bad
peer_not_both (l ∷ ls) [] line n each bad = each
peer_not_both (l ∷ ls) (v ∷ vs) zero n each bad = good_not_bad peer_forms (fields_of l) n (peer_is_good l v each.0) bad
peer_not_both (l ∷ ls) (v ∷ vs) (suc line) n each bad = peer_not_both ls vs line n each.1 bad.1

line_not_both : (first : List ℕ) (others : List (List ℕ)) (i : InterfaceValue) (vs : List LineValue) (line n : ℕ) → IsInterfaceLine first i → OneByOne IsPeerLine others vs → IsBadLine (first ∷ others) line n → ⊥
line_not_both first others i vs zero n good each bad = good_not_bad interface_forms (fields_of first) n (interface_is_good first i good) bad
line_not_both first others i vs (suc line) n good each bad = peer_not_both others vs line n each bad.1

pub not_both : (text : List ℕ) (i : InterfaceValue) (vs : List LineValue) (line field : ℕ) → IsDump text i vs → IsFirstBad text line field → ⊥
not_both text i vs line field d bad = line_not_both d.first d.others i vs bad.0 bad.1 d.interface d.peers (subst (λ lines. IsBadLine lines bad.0 bad.1) d.split bad.4)

one_bad_peer : (lines : List (List ℕ)) (k l m n : ℕ) → IsBadPeer lines k m → IsBadPeer lines l n → (k ≡ l) × (m ≡ n)
one_bad_peer [] k l m n a b = absurd a
one_bad_peer (x ∷ xs) zero zero m n a b = (refl, one_bad_field peer_forms (fields_of x) m n a b)
one_bad_peer (x ∷ xs) zero (suc l) m n a b = absurd (good_not_bad peer_forms (fields_of x) m b.0 a)
one_bad_peer (x ∷ xs) (suc k) zero m n a b = absurd (good_not_bad peer_forms (fields_of x) n a.0 b)
one_bad_peer (x ∷ xs) (suc k) (suc l) m n a b = let same = one_bad_peer xs k l m n a.1 b.1 in (ap (λ j. suc j) same.0, same.1)

one_bad_line : (lines : List (List ℕ)) (k l m n : ℕ) → IsBadLine lines k m → IsBadLine lines l n → (k ≡ l) × (m ≡ n)
one_bad_line [] k l m n a b = absurd a
one_bad_line (x ∷ xs) zero zero m n a b = (refl, one_bad_field interface_forms (fields_of x) m n a b)
one_bad_line (x ∷ xs) zero (suc l) m n a b = absurd (good_not_bad interface_forms (fields_of x) m b.0 a)
one_bad_line (x ∷ xs) (suc k) zero m n a b = absurd (good_not_bad interface_forms (fields_of x) n a.0 b)
one_bad_line (x ∷ xs) (suc k) (suc l) m n a b = let same = one_bad_peer xs k l m n a.1 b.1 in (ap (λ j. suc j) same.0, same.1)

pub one_fault : (text : List ℕ) (line field line' field' : ℕ) → IsFirstBad text line field → IsFirstBad text line' field' → (line ≡ line') × (field ≡ field')
one_fault text line field line' field' a b =
    let same = one_bad_line (lines_or_one text) a.0 b.0 a.1 b.1 a.4 b.4 in
    (omega (arith, same.0, a.2, b.2), omega (arith, same.1, a.3, b.3))

-- ---- a dump or a fault

good_or_bad : (forms : List Form) (fields : List (List ℕ)) → ¬ (AreOfForms forms fields) → ((n : ℕ) → ¬ (IsBadField forms fields n)) → ⊥
good_or_bad [] [] good bad = good tt
good_or_bad [] (field ∷ fields) good bad = bad 0 refl
good_or_bad (form ∷ forms) [] good bad = bad 0 refl
good_or_bad (form ∷ forms) (field ∷ fields) good bad =
    bad 0 (λ of. good_or_bad forms fields (λ rest. good (of, rest)) (λ n later. bad (suc n) (of, later)))

-- a line whose fields are of a peer's forms says something
peer_says : (line : List ℕ) (fields : List (List ℕ)) → fields_of line ≡ fields → AreOfForms peer_forms fields → (v : LineValue) × IsPeerLine line v
peer_says line [] is g = absurd g
peer_says line (a ∷ []) is g = absurd g.1
peer_says line (a ∷ b ∷ []) is g = absurd g.1.1
peer_says line (a ∷ b ∷ c ∷ []) is g = absurd g.1.1.1
peer_says line (a ∷ b ∷ c ∷ d ∷ []) is g = absurd g.1.1.1.1
peer_says line (a ∷ b ∷ c ∷ d ∷ e ∷ []) is g = absurd g.1.1.1.1.1
peer_says line (a ∷ b ∷ c ∷ d ∷ e ∷ f ∷ []) is g = absurd g.1.1.1.1.1.1
peer_says line (a ∷ b ∷ c ∷ d ∷ e ∷ f ∷ h ∷ []) is g = absurd g.1.1.1.1.1.1.1
peer_says line (a ∷ b ∷ c ∷ d ∷ e ∷ f ∷ h ∷ k ∷ []) is g =
    let counts = g.1.1.1.1 in (
      record { key = g.0.0; allowed = g.1.1.1.0.0; handshake = counts.0.0; received = counts.1.0.0; sent = counts.1.1.0.0; keepalive = counts.1.1.1.0.0 },
      record {
        key_field = a;
        preshared_field = b;
        endpoint_field = c;
        allowed_field = d;
        handshake_field = e;
        received_field = f;
        sent_field = h;
        keepalive_field = k;
        fields = is;
        key = g.0.1;
        preshared_key = g.1.0;
        endpoint = g.1.1.0;
        allowed = g.1.1.1.0.1;
        handshake = counts.0.1;
        received = counts.1.0.1;
        sent = counts.1.1.0.1;
        keepalive = counts.1.1.1.0.1;
      },
    )
peer_says line (a ∷ b ∷ c ∷ d ∷ e ∷ f ∷ h ∷ k ∷ x ∷ xs) is g = absurd g.1.1.1.1.1.1.1.1

interface_says : (line : List ℕ) (fields : List (List ℕ)) → fields_of line ≡ fields → AreOfForms interface_forms fields → (i : InterfaceValue) × IsInterfaceLine line i
interface_says line [] is g = absurd g
interface_says line (a ∷ []) is g = absurd g.1
interface_says line (a ∷ b ∷ []) is g = absurd g.1.1
interface_says line (a ∷ b ∷ c ∷ []) is g = absurd g.1.1.1
interface_says line (a ∷ b ∷ c ∷ d ∷ []) is g = (
  record { public_key = g.1.0.0; port = g.1.1.0.0 },
  record { private_field = a; public_field = b; port_field = c; mark_field = d; fields = is; private_key = g.0; public_key = g.1.0.1; port = g.1.1.0.1; mark = g.1.1.1.0 },
)
interface_says line (a ∷ b ∷ c ∷ d ∷ x ∷ xs) is g = absurd g.1.1.1.1

peers_or_bad : (lines : List (List ℕ)) → ((vs : List LineValue) → ¬ (OneByOne IsPeerLine lines vs)) → ((line n : ℕ) → ¬ (IsBadPeer lines line n)) → ⊥
peers_or_bad [] each bad = each [] tt
peers_or_bad (l ∷ ls) each bad =
    good_or_bad peer_forms (fields_of l)
    (λ good. let says = peer_says l (fields_of l) refl good in peers_or_bad ls (λ vs rest. each (says.0 ∷ vs) (says.1, rest)) (λ line n later. bad (suc line) n (good, later)))
    (λ n here. bad 0 n here)

-- there is a first line
pub some_first : (text : List ℕ) → (first : List ℕ) × (others : List (List ℕ)) × (lines_or_one text ≡ first ∷ others)
some_first [] = ([], [], refl)
some_first (b ∷ text) = by_case (b == 10) (lines_of text)
  where
    by_case : (v : Bool) (lines : List (List ℕ)) → (first : List ℕ) × (others : List (List ℕ)) × (cond v ([] ∷ lines) (before_lines b lines) ≡ first ∷ others)
    by_case true lines = ([], lines, refl)
    by_case false [] = (b ∷ [], [], refl)
    by_case false (line ∷ lines) = (b ∷ line, lines, refl)

pub not_neither : (text : List ℕ) → ((i : InterfaceValue) (vs : List LineValue) → ¬ (IsDump text i vs)) → ((line field : ℕ) → ¬ (IsFirstBad text line field)) → ⊥
not_neither text dump fault =
    let lines = some_first text in
    let bad : (line n : ℕ) → ¬ (IsBadLine (lines.0 ∷ lines.1) line n) = λ line n here. fault (line + 1) (n + 1) (line, n, refl, refl, subst (λ all. IsBadLine all line n) (sym lines.2) here) in
    good_or_bad interface_forms (fields_of lines.0)
    (λ good. let says = interface_says lines.0 (fields_of lines.0) refl good in
    peers_or_bad lines.1 (λ vs each. dump says.0 vs (record { first = lines.0; others = lines.1; split = lines.2; interface = says.1; peers = each })) (λ line n later. bad (suc line) n (good, later)))
    (λ n here. bad 0 n here)

-- ---- secrets

other_private : (line other : List ℕ) → DifferInPrivateKey line other → DifferInPrivateKey other line
other_private line other d = record { key = d.other_key; other_key = d.key; rest = d.rest; fields = d.other_fields; other_fields = d.fields; is_key = d.is_other_key; is_other_key = d.is_key }

other_preshared : (line other : List ℕ) → DifferInPresharedKey line other → DifferInPresharedKey other line
other_preshared line other d = record { peer = d.peer; key = d.other_key; other_key = d.key; rest = d.rest; fields = d.other_fields; other_fields = d.fields; is_key = d.is_other_key; is_other_key = d.is_key }

other_lines : (lines others : List (List ℕ)) → OneByOne DifferInPresharedKey lines others → OneByOne DifferInPresharedKey others lines
other_lines [] [] d = tt
other_lines [] (y ∷ ys) d = absurd d
other_lines (x ∷ xs) [] d = absurd d
other_lines (x ∷ xs) (y ∷ ys) d = (other_preshared x y d.0, other_lines xs ys d.1)

other_secrets : (text other : List ℕ) → DifferInSecrets text other → DifferInSecrets other text
other_secrets text other d = record { first = d.other_first; other_first = d.first; peers = d.other_peers; other_peers = d.peers; split = d.other_split; other_split = d.split; interface = other_private d.first d.other_first d.interface; lines = other_lines d.peers d.other_peers d.lines }

same_interface : (line other : List ℕ) (i : InterfaceValue) → DifferInPrivateKey line other → IsInterfaceLine line i → IsInterfaceLine other i
same_interface line other i d p =
    let e : d.key ∷ d.rest ≡ p.private_field ∷ p.public_field ∷ p.port_field ∷ p.mark_field ∷ [] = sym d.fields ∙ p.fields in
    let rest : d.rest ≡ p.public_field ∷ p.port_field ∷ p.mark_field ∷ [] = cc e in
    record { private_field = d.other_key; public_field = p.public_field; port_field = p.port_field; mark_field = p.mark_field; fields = d.other_fields ∙ ap (λ r. d.other_key ∷ r) rest; private_key = d.is_other_key; public_key = p.public_key; port = p.port; mark = p.mark }

same_peer : (line other : List ℕ) (v : LineValue) → DifferInPresharedKey line other → IsPeerLine line v → IsPeerLine other v
same_peer line other v d p =
    let e : d.peer ∷ d.key ∷ d.rest ≡ p.key_field ∷ p.preshared_field ∷ p.endpoint_field ∷ p.allowed_field ∷ p.handshake_field ∷ p.received_field ∷ p.sent_field ∷ p.keepalive_field ∷ [] = sym d.fields ∙ p.fields in
    let peer : d.peer ≡ p.key_field = cc e in
    let rest : d.rest ≡ p.endpoint_field ∷ p.allowed_field ∷ p.handshake_field ∷ p.received_field ∷ p.sent_field ∷ p.keepalive_field ∷ [] = cc e in
    record {
      key_field = p.key_field;
      preshared_field = d.other_key;
      endpoint_field = p.endpoint_field;
      allowed_field = p.allowed_field;
      handshake_field = p.handshake_field;
      received_field = p.received_field;
      sent_field = p.sent_field;
      keepalive_field = p.keepalive_field;
      fields = d.other_fields ∙ ap (λ f. f ∷ d.other_key ∷ d.rest) peer ∙ ap (λ r. p.key_field ∷ d.other_key ∷ r) rest;
      key = p.key;
      preshared_key = d.is_other_key;
      endpoint = p.endpoint;
      allowed = p.allowed;
      handshake = p.handshake;
      received = p.received;
      sent = p.sent;
      keepalive = p.keepalive;
    }

same_peers : (lines others : List (List ℕ)) (vs : List LineValue) → OneByOne DifferInPresharedKey lines others → OneByOne IsPeerLine lines vs → OneByOne IsPeerLine others vs
same_peers [] [] [] d p = tt
same_peers [] [] (v ∷ vs) d p = absurd p
same_peers [] (y ∷ ys) vs d p = absurd d
same_peers (x ∷ xs) [] vs d p = absurd d
same_peers (x ∷ xs) (y ∷ ys) [] d p = absurd p
same_peers (x ∷ xs) (y ∷ ys) (v ∷ vs) d p = (same_peer x y v d.0 p.0, same_peers xs ys vs d.1 p.1)

same_dump : (text other : List ℕ) → DifferInSecrets text other → (i : InterfaceValue) (vs : List LineValue) → IsDump text i vs → IsDump other i vs
same_dump text other d i vs p =
    let e : p.first ∷ p.others ≡ d.first ∷ d.peers = sym p.split ∙ d.split in
    let first : p.first ≡ d.first = cc e in
    let others : p.others ≡ d.peers = cc e in
    record {
      first = d.other_first;
      others = d.other_peers;
      split = d.other_split;
      interface = same_interface d.first d.other_first i d.interface (subst (λ line. IsInterfaceLine line i) first p.interface);
      peers = same_peers d.peers d.other_peers vs d.lines (subst (λ lines. OneByOne IsPeerLine lines vs) others p.peers);
    }

pub secrets_unread : (text other : List ℕ) → DifferInSecrets text other → (i : InterfaceValue) (vs : List LineValue) → IsDump text i vs ↔ IsDump other i vs
secrets_unread text other d i vs = (same_dump text other d i vs, same_dump other text (other_secrets text other d) i vs)

-- fields that differ in one of its form
same_good_first : (form : Form) (forms : List Form) (key other : List ℕ) (rest : List (List ℕ)) → IsOf form other → AreOfForms (form ∷ forms) (key ∷ rest) → AreOfForms (form ∷ forms) (other ∷ rest)
same_good_first form forms key other rest of g = (of, g.1)

same_bad_first : (form : Form) (forms : List Form) (key other : List ℕ) (rest : List (List ℕ)) (n : ℕ) → IsOf form key → IsOf form other → IsBadField (form ∷ forms) (key ∷ rest) n → IsBadField (form ∷ forms) (other ∷ rest) n
same_bad_first form forms key other rest zero is of b = absurd (b is)
same_bad_first form forms key other rest (suc n) is of b = (of, b.1)

same_bad_second : (first form : Form) (forms : List Form) (peer key other : List ℕ) (rest : List (List ℕ)) (n : ℕ) → IsOf form key → IsOf form other → IsBadField (first ∷ form ∷ forms) (peer ∷ key ∷ rest) n → IsBadField (first ∷ form ∷ forms) (peer ∷ other ∷ rest) n
same_bad_second first form forms peer key other rest zero is of b = b
same_bad_second first form forms peer key other rest (suc n) is of b = (b.0, same_bad_first form forms key other rest n is of b.1)

same_good_peer : (line other : List ℕ) → DifferInPresharedKey line other → AreOfForms peer_forms (fields_of line) → AreOfForms peer_forms (fields_of other)
same_good_peer line other d g =
    let here = subst (λ fields. AreOfForms peer_forms fields) d.fields g in
    subst (λ fields. AreOfForms peer_forms fields) (sym d.other_fields) (here.0, (d.is_other_key, here.1.1))

same_bad_field : (line other : List ℕ) (n : ℕ) → DifferInPresharedKey line other → IsBadField peer_forms (fields_of line) n → IsBadField peer_forms (fields_of other) n
same_bad_field line other n d b =
    let here = subst (λ fields. IsBadField peer_forms fields n) d.fields b in
    subst (λ fields. IsBadField peer_forms fields n) (sym d.other_fields) (same_bad_second a_key a_key_or_none (a_word ∷ prefixes ∷ a_count ∷ a_count ∷ a_count ∷ a_keepalive ∷ []) d.peer d.key d.other_key d.rest n d.is_key d.is_other_key here)

same_bad_peer : (lines others : List (List ℕ)) (line n : ℕ) → OneByOne DifferInPresharedKey lines others → IsBadPeer lines line n → IsBadPeer others line n
same_bad_peer [] others line n d b = absurd b
same_bad_peer (x ∷ xs) [] line n d b = absurd d
same_bad_peer (x ∷ xs) (y ∷ ys) zero n d b = same_bad_field x y n d.0 b
same_bad_peer (x ∷ xs) (y ∷ ys) (suc line) n d b = (same_good_peer x y d.0 b.0, same_bad_peer xs ys line n d.1 b.1)

same_bad_line : (first other : List ℕ) (lines others : List (List ℕ)) (line n : ℕ) → DifferInPrivateKey first other → OneByOne DifferInPresharedKey lines others → IsBadLine (first ∷ lines) line n → IsBadLine (other ∷ others) line n
same_bad_line first other lines others zero n d each b =
    let here = subst (λ fields. IsBadField interface_forms fields n) d.fields b in
    subst (λ fields. IsBadField interface_forms fields n) (sym d.other_fields) (same_bad_first a_key_or_none (a_key_or_none ∷ a_port ∷ a_word ∷ []) d.key d.other_key d.rest n d.is_key d.is_other_key here)
same_bad_line first other lines others (suc line) n d each b =
    let here = subst (λ fields. AreOfForms interface_forms fields) d.fields b.0 in
    (subst (λ fields. AreOfForms interface_forms fields) (sym d.other_fields) (d.is_other_key, here.1), same_bad_peer lines others line n each b.1)

same_fault : (text other : List ℕ) → DifferInSecrets text other → (line field : ℕ) → IsFirstBad text line field → IsFirstBad other line field
same_fault text other d line field b =
    (b.0, b.1, b.2, b.3, subst (λ lines. IsBadLine lines b.0 b.1) (sym d.other_split) (same_bad_line d.first d.other_first d.peers d.other_peers b.0 b.1 d.interface d.lines (subst (λ lines. IsBadLine lines b.0 b.1) d.split b.4)))

pub secrets_no_fault : (text other : List ℕ) → DifferInSecrets text other → (line field : ℕ) → IsFirstBad text line field ↔ IsFirstBad other line field
secrets_no_fault text other d line field = (same_fault text other d line field, same_fault other text (other_secrets text other d) line field)
