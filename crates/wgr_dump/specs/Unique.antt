-- A text says at most one thing.
use Rattle.std.proofs.Common.{◌≡◌, ℕ, List, [], ◌∷◌, length, Some, None, Option, refl, sym, ap, ap₂, subst, ◌∙◌, arith, inl, inr, codes}
use Rattle.std.proofs.lemmas.Str.Parse.{digit_at}
use Rattle.wgr_text.specs.declared.key.Key.{Key}
use Rattle.wgr_text.specs.KeyText.{SpellsKey}
use Rattle.wgr_text.specs.Prefix.{PrefixValue, mask}
use Rattle.wgr_text.proofs.KeyLemmas.{length-key_text, one_key}
use Rattle.wgr_text.proofs.RoundTrips.{Spells_unique}
use Rattle.wgr_peers.specs.Limits.{kept_count}
use Rattle.wgr_dump.specs.Dump.{InterfaceValue, LineValue, IsInterfaceLine, IsPeerLine, IsDump}
use Rattle.wgr_dump.specs.Fields.{OneByOne, none_text, SpellsOptionalKey, SpellsDecimal, SpellsPort, SpellsKeepalive, CountValue, SpellsCount, SpellsMasked, SpellsAllowed}

no_key : (key : Key) → SpellsKey none_text key → ⊥
no_key key s = let n : length key.0 ≡ 32 = s.0 in absurd (omega (arith, length-key_text key.0 n, ap length s.2))

pub one_optional_key : (field : List ℕ) (one other : Option Key) → SpellsOptionalKey field one → SpellsOptionalKey field other → one ≡ other
one_optional_key field None None s t = refl
one_optional_key field None (Some key) s t = absurd (no_key key (subst (λ f. SpellsKey f key) s t))
one_optional_key field (Some key) None s t = absurd (no_key key (subst (λ f. SpellsKey f key) t s))
one_optional_key field (Some one) (Some other) s t = ap (λ k. Some k) (one_key field one other s t)

pub one_number : (most : ℕ) (field : List ℕ) (m n : ℕ) → SpellsDecimal most field m → SpellsDecimal most field n → m ≡ n
one_number most field m n s t = s.2 ∙ sym t.2

pub one_port : (field : List ℕ) (m n : ℕ) → SpellsPort field m → SpellsPort field n → m ≡ n
one_port field m n s t = one_number 5 field m n s.0 t.0

off_is_no_number : (n : ℕ) → SpellsPort (codes "off") n → ⊥
off_is_no_number n s = let digit = digit_at (codes "off") 0 s.0.0.1 (omega arith) in omega (arith, digit.1)

pub one_keepalive : (field : List ℕ) (m n : ℕ) → SpellsKeepalive field m → SpellsKeepalive field n → m ≡ n
one_keepalive field m n (inl s) (inl t) = s.1 ∙ sym t.1
one_keepalive field m n (inl s) (inr t) = absurd (off_is_no_number n (subst (λ f. SpellsPort f n) s.0 t))
one_keepalive field m n (inr s) (inl t) = absurd (off_is_no_number m (subst (λ f. SpellsPort f m) t.0 s))
one_keepalive field m n (inr s) (inr t) = one_port field m n s t

pub one_count : (field : List ℕ) (one other : CountValue) → SpellsCount field one → SpellsCount field other → one ≡ other
one_count field one other s t =
    let digits = s.0 ∙ sym t.0 in
    let value = s.3 ∙ ap kept_count (one_number 20 field s.1 t.1 s.2 t.2) ∙ sym t.3 in
    λ k. record { digits = digits k; value = value k }

pub one_masked : (item : List ℕ) (p q : PrefixValue) → SpellsMasked item p → SpellsMasked item q → p ≡ q
one_masked item p q s t =
    let same = Spells_unique item s.0 t.0 s.1 t.1 s.2 t.2 in
    s.3 ∙ ap₂ mask same.0 same.1 ∙ sym t.3

-- what holds of one thing each holds of one list of things
pub one_each : {A B : Type 0} (R : A → B → Type 0) → ((x : A) (y z : B) → R x y → R x z → y ≡ z) → (xs : List A) (ys zs : List B) → OneByOne R xs ys → OneByOne R xs zs → ys ≡ zs
one_each R one [] [] [] a b = refl
one_each R one [] [] (z ∷ zs) a b = absurd b
one_each R one [] (y ∷ ys) zs a b = absurd a
one_each R one (x ∷ xs) [] zs a b = absurd a
one_each R one (x ∷ xs) (y ∷ ys) [] a b = absurd b
one_each R one (x ∷ xs) (y ∷ ys) (z ∷ zs) a b = ap₂ (λ h t. h ∷ t) (one x y z a.0 b.0) (one_each R one xs ys zs a.1 b.1)

pub one_allowed : (field : List ℕ) (ps qs : List PrefixValue) → SpellsAllowed field ps → SpellsAllowed field qs → ps ≡ qs
one_allowed field ps qs (inl s) (inl t) = s.1 ∙ sym t.1
one_allowed field ps qs (inl s) (inr t) = absurd (t.0 s.0)
one_allowed field ps qs (inr s) (inl t) = absurd (s.0 t.0)
one_allowed field ps qs (inr s) (inr t) = one_each SpellsMasked one_masked _ ps qs s.1 t.1

pub one_interface_line : (line : List ℕ) (i j : InterfaceValue) → IsInterfaceLine line i → IsInterfaceLine line j → i ≡ j
one_interface_line line i j a b =
    let e : a.private_field ∷ a.public_field ∷ a.port_field ∷ a.mark_field ∷ [] ≡ b.private_field ∷ b.public_field ∷ b.port_field ∷ b.mark_field ∷ [] = sym a.fields ∙ b.fields in
    let key_field : b.public_field ≡ a.public_field = cc e in
    let port_field : b.port_field ≡ a.port_field = cc e in
    let key = one_optional_key a.public_field i.public_key j.public_key a.public_key (subst (λ f. SpellsOptionalKey f j.public_key) key_field b.public_key) in
    let port = one_port a.port_field i.port j.port a.port (subst (λ f. SpellsPort f j.port) port_field b.port) in
    λ k. record { public_key = key k; port = port k }

pub one_peer_line : (line : List ℕ) (v w : LineValue) → IsPeerLine line v → IsPeerLine line w → v ≡ w
one_peer_line line v w a b =
    let e : a.key_field ∷ a.preshared_field ∷ a.endpoint_field ∷ a.allowed_field ∷ a.handshake_field ∷ a.received_field ∷ a.sent_field ∷ a.keepalive_field ∷ [] ≡ b.key_field ∷ b.preshared_field ∷ b.endpoint_field ∷ b.allowed_field ∷ b.handshake_field ∷ b.received_field ∷ b.sent_field ∷ b.keepalive_field ∷ [] = sym a.fields ∙ b.fields in
    let key_field : b.key_field ≡ a.key_field = cc e in
    let allowed_field : b.allowed_field ≡ a.allowed_field = cc e in
    let handshake_field : b.handshake_field ≡ a.handshake_field = cc e in
    let received_field : b.received_field ≡ a.received_field = cc e in
    let sent_field : b.sent_field ≡ a.sent_field = cc e in
    let keepalive_field : b.keepalive_field ≡ a.keepalive_field = cc e in
    let key = one_key a.key_field v.key w.key a.key (subst (λ f. SpellsKey f w.key) key_field b.key) in
    let allowed = one_allowed a.allowed_field v.allowed w.allowed a.allowed (subst (λ f. SpellsAllowed f w.allowed) allowed_field b.allowed) in
    let handshake = one_count a.handshake_field v.handshake w.handshake a.handshake (subst (λ f. SpellsCount f w.handshake) handshake_field b.handshake) in
    let received = one_count a.received_field v.received w.received a.received (subst (λ f. SpellsCount f w.received) received_field b.received) in
    let sent = one_count a.sent_field v.sent w.sent a.sent (subst (λ f. SpellsCount f w.sent) sent_field b.sent) in
    let keepalive = one_keepalive a.keepalive_field v.keepalive w.keepalive a.keepalive (subst (λ f. SpellsKeepalive f w.keepalive) keepalive_field b.keepalive) in
    λ k. record { key = key k; allowed = allowed k; handshake = handshake k; received = received k; sent = sent k; keepalive = keepalive k }

pub one_dump : (text : List ℕ) (i j : InterfaceValue) (ls ms : List LineValue) → IsDump text i ls → IsDump text j ms → (i ≡ j) × (ls ≡ ms)
one_dump text i j ls ms a b =
    let e : a.first ∷ a.others ≡ b.first ∷ b.others = sym a.split ∙ b.split in
    let first : b.first ≡ a.first = cc e in
    let others : b.others ≡ a.others = cc e in (
      one_interface_line a.first i j a.interface (subst (λ line. IsInterfaceLine line j) first b.interface),
      one_each IsPeerLine one_peer_line a.others ls ms a.peers (subst (λ lines. OneByOne IsPeerLine lines ms) others b.peers),
    )
