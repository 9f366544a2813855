-- No text of an address has a `/`.
use Rattle.std.proofs.Common.{◌≢◌, ℕ, ◌<◌, Bool, true, false, List, [], ◌∷◌, ◌++◌, decimal, sym, subst, arith, inl, inr}
use Rattle.std.proofs.lemmas.List.Elements.{All-nil, All-cons, All-append}
use Rattle.std.specs.Char.{digit_value}
use Rattle.std.specs.Net.Grammar.{IsDotted, IsGroupsAfter}
use Rattle.std.specs.Str.Parse.{AllDigits}
use Rattle.wgr_text.specs.declared.addr.Family.{Family}
use Rattle.wgr_text.specs.declared.addr.Family.TheVariants.{V4, V6}
use Rattle.wgr_text.specs.Prefix.{AddrValue}
use Rattle.wgr_text.specs.PrefixText.{HasNoSlash, SpellsNumber, SpellsAddr}
use Rattle.wgr_text.proofs.Slashes.{HasNoSlash-decimal}

join : (front back : List ℕ) → HasNoSlash front → HasNoSlash back → HasNoSlash (front ++ back)
join front back one other = All-append (λ c. c ≢ 47) front back one other

mark : (c : ℕ) → c ≢ 47 → HasNoSlash (c ∷ [])
mark c other = All-cons (λ c. c ≢ 47) c [] other (All-nil (λ c. c ≢ 47))

no_slash_digits : (text : List ℕ) → AllDigits 16 text → HasNoSlash text
no_slash_digits [] digits = All-nil (λ c. c ≢ 47)
no_slash_digits (c ∷ text) digits =
    let other : c ≢ 47 = λ slash. let high : 36 < 16 = subst (λ x. digit_value x < 16) slash digits.0 in omega arith in
    All-cons (λ c. c ≢ 47) c text other (no_slash_digits text digits.1)

no_slash_dotted : (text octets : List ℕ) → IsDotted text octets → HasNoSlash text
no_slash_dotted text octets h =
    let dot = mark 46 (λ e. omega arith) in
    let octet : (n : ℕ) → n < 256 → HasNoSlash (decimal n) = λ n fits. HasNoSlash-decimal n (omega arith) in
    let two = join _ _ (join _ _ (octet h.a h.fit.0) dot) (octet h.b h.fit.1) in
    let three = join _ _ (join _ _ two dot) (octet h.c h.fit.2) in
    subst HasNoSlash (sym h.spelled) (join _ _ (join _ _ three dot) (octet h.d h.fit.3))

no_slash_groups : (ipv4 : Bool) (groups lead text : List ℕ) → HasNoSlash lead → IsGroupsAfter ipv4 lead text groups → HasNoSlash text
no_slash_groups ipv4 [] lead text led h = subst HasNoSlash (sym h) (All-nil (λ c. c ≢ 47))
no_slash_groups ipv4 (g ∷ groups) lead text led (inl h) =
    let later = no_slash_groups ipv4 groups (58 ∷ []) h.1 (mark 58 (λ e. omega arith)) h.4 in
    subst HasNoSlash (sym h.2) (join _ _ (join _ _ led (no_slash_digits h.0 h.3.0.0.1)) later)
no_slash_groups ipv4 (g ∷ groups) lead text led (inr h) = subst HasNoSlash (sym h.3) (join _ _ led (no_slash_dotted h.0 h.1 h.4))

no_slash_number : (text : List ℕ) (f : Family) (n : ℕ) → SpellsNumber text f n → HasNoSlash text
no_slash_number text V4 n s = no_slash_dotted text s.0 s.1
no_slash_number text V6 n (groups, inl h, is) = no_slash_groups true groups [] text (All-nil (λ c. c ≢ 47)) h.0
no_slash_number text V6 n (groups, inr h, is) =
    let colons = join (58 ∷ []) (58 ∷ []) (mark 58 (λ e. omega arith)) (mark 58 (λ e. omega arith)) in
    let front = no_slash_groups false h.head [] h.head_text (All-nil (λ c. c ≢ 47)) h.head_groups in
    let back = no_slash_groups true h.tail [] h.tail_text (All-nil (λ c. c ≢ 47)) h.tail_groups in
    subst HasNoSlash (sym h.spelled) (join _ _ (join _ _ front colons) back)

pub HasNoSlash-address : (text : List ℕ) (a : AddrValue) → SpellsAddr text a → HasNoSlash text
HasNoSlash-address text a s = no_slash_number text a.family a.number s
