-- A target that hasn't ended.
use Rattle.std.proofs.Common.{◌≡◌, ◌≢◌, ℕ, ◌<◌, ◌≤◌, Bool, true, false, cond, List, [], ◌∷◌, ◌++◌, length, arith, refl, sym, ◌∙◌, ap, subst, append-nil, append_assoc, inl, inr, All}
use Rattle.std.specs.Prelude.{Option, Some, None, IfSome, IsSomeAnd, IsTrue, IsUtf8, ◌==◌}
use Rattle.std.proofs.lemmas.List.Elements.{All-append, All-cons, All-head, All-nil, All-tail, All-weaker}
use Rattle.std.proofs.lemmas.Str.{IsUtf8-append}
use Rattle.httparse.proofs.GrammarLemmas.{cons-append, print_request-append}
use Rattle.httparse.specs.Grammar.{IsField, LineEnd, crlf, lf, RequestHead, IsRequestHead, IsToken, AllPass, MayBecomeRequest, ReadsRequest, is_token_byte, is_uri_byte, print_blank, print_end, print_section, print_version}
use Rattle.wgr_http.specs.Head.{MayBecomeHead}
use Rattle.wgr_http.specs.Text.{IsContinuationByte, MayBecomeText, NeverBecomesText}
use Rattle.wgr_http.specs.Unfinished.{after_space, begun_lines, open_target, unended, unended_in}
use Rattle.wgr_http.proofs.RoomLemmas.{room_may, two_cuts}
use Rattle.wgr_http.proofs.TextLemmas.{one_byte}

-- ---- the first space

abbrev IsNoSpace : ℕ → Type 0
IsNoSpace b = b ≢ 32

token_no_space : (b : ℕ) → IsTrue (is_token_byte b) → IsNoSpace b
unfolding is_token_byte
token_no_space b is e = let bad = rw e at is in cc bad

uri_no_space : (b : ℕ) → IsTrue (is_uri_byte b) → IsNoSpace b
uri_no_space b is e = let bad = rw e at is in cc bad

end_no_space : (e : LineEnd) → All IsNoSpace (print_end e)
end_no_space crlf = All-cons IsNoSpace 13 (10 ∷ []) (λ e. omega (arith, e)) (All-cons IsNoSpace 10 [] (λ e. omega (arith, e)) (All-nil IsNoSpace))
end_no_space lf = All-cons IsNoSpace 10 [] (λ e. omega (arith, e)) (All-nil IsNoSpace)

blank_no_space : (ends : List LineEnd) → All IsNoSpace (print_blank ends)
blank_no_space [] = All-nil IsNoSpace
blank_no_space (e ∷ ends) = All-append IsNoSpace (print_end e) (print_blank ends) (end_no_space e) (blank_no_space ends)

method_no_space : (blank : List LineEnd) (method : List ℕ) → IsToken method → All IsNoSpace (print_blank blank ++ method)
method_no_space blank method is =
    All-append IsNoSpace (print_blank blank) method (blank_no_space blank) (All-weaker _ IsNoSpace token_no_space method is.1)

not_space : (b : ℕ) → IsNoSpace b → (b == 32) ≡ false
not_space b apart = grind (arith, apart)

first_space : (a x : List ℕ) → All IsNoSpace a → after_space (a ++ 32 ∷ x) ≡ Some x
first_space [] x are = refl
first_space (b ∷ a) x are = rw (not_space b (All-head IsNoSpace b a are)) (first_space a x (All-tail IsNoSpace b a are))

no_space : (a : List ℕ) → All IsNoSpace a → after_space a ≡ None
no_space [] are = refl
no_space (b ∷ a) are = rw (not_space b (All-head IsNoSpace b a are)) (no_space a (All-tail IsNoSpace b a are))

space_step : (c : Bool) (a more t : List ℕ) → cond c (Some a) (after_space a) ≡ Some t → (after_space a ≡ Some t → after_space (a ++ more) ≡ Some (t ++ more))
    → cond c (Some (a ++ more)) (after_space (a ++ more)) ≡ Some (t ++ more)
space_step true a more t is rec = (let same : a ≡ t = cc is in ap (λ (x : List ℕ). Some (x ++ more)) same)
space_step false a more t is rec = rec is

space_grows : (a more t : List ℕ) → after_space a ≡ Some t → after_space (a ++ more) ≡ Some (t ++ more)
space_grows [] more t is = cc is
space_grows (b ∷ a) more t is = space_step (b == 32) a more t is (space_grows a more t)

-- ---- the open target

open_after : (target t : List ℕ) (o : Option (List ℕ)) → unended target o ≡ Some t → (target ≡ t) × (o ≡ None)
open_after target t None is = (cc is, refl)
open_after target t (Some more) is = cc is

open_in : (o : Option (List ℕ)) (t : List ℕ) → unended_in o ≡ Some t → (o ≡ Some t) × (after_space t ≡ None)
open_in None t is = cc is
open_in (Some target) t is =
    let found = open_after target t (after_space target) is in
    (ap (λ (x : List ℕ). Some x) found.0, subst (λ (x : List ℕ). after_space x ≡ None) found.0 found.1)

open_is : (bytes t : List ℕ) → after_space bytes ≡ Some t → after_space t ≡ None → open_target bytes ≡ Some t
open_is bytes t is none = rw is (rw none refl)

-- ---- a target that never becomes text

text_ends : (t more z : List ℕ) (h : RequestHead) → IsRequestHead h → after_space t ≡ None → NeverBecomesText t → t ++ more ≡ h.target ++ 32 ∷ z → ⊥
text_ends t more z h is none never same = elim (two_cuts t more h.target (32 ∷ z) same) [
  | inl w ↦ ends w.0 w.1 w.2
  | inr w ↦ never w.0 (subst IsUtf8 w.1 is.target_text)
]
  where
    ends : (w : List ℕ) → t ≡ h.target ++ w → w ++ more ≡ 32 ∷ z → ⊥
    ends [] at rest = never [] (subst IsUtf8 (sym (ap (λ (x : List ℕ). x ++ []) at ∙ append-nil (h.target ++ []) ∙ append-nil h.target)) is.target_text)
    ends (b ∷ w) at rest =
        let space : b ≡ 32 = cc rest in
        let found : after_space t ≡ Some w =
        ap after_space (at ∙ ap (λ (x : ℕ). h.target ++ x ∷ w) space) ∙ first_space h.target w (All-weaker _ IsNoSpace uri_no_space h.target is.target.1) in
        cc (found, none)

some_is : (a b : List ℕ) → Some a ≡ Some b → a ≡ b
some_is a b e = cc e

target_is : (front more rest t : List ℕ) (h : RequestHead) → ReadsRequest (front ++ more) h rest → after_space front ≡ Some t → (z : List ℕ) × (t ++ more ≡ h.target ++ 32 ∷ z)
target_is front more rest t h reads is =
    let z : List ℕ = print_version h.minor ++ (print_end h.line_end ++ (print_section h.fields h.last ++ rest)) in
    let split : front ++ more ≡ (print_blank h.blank ++ h.method) ++ 32 ∷ (h.target ++ 32 ∷ z) =
    reads.1 ∙ print_request-append h rest ∙ sym (append_assoc (print_blank h.blank) h.method (32 ∷ (h.target ++ 32 ∷ z))) in
    let there : after_space (front ++ more) ≡ Some (h.target ++ 32 ∷ z) =
    ap after_space split ∙ first_space (print_blank h.blank ++ h.method) (h.target ++ 32 ∷ z) (method_no_space h.blank h.method reads.0.method) in
    (z, some_is _ _ (sym (space_grows front more t is) ∙ there))

never_in : (front : List ℕ) (o : Option (List ℕ)) → open_target front ≡ o → IsSomeAnd o NeverBecomesText → ¬ (MayBecomeHead front)
never_in front None is never (h, b) = never
never_in front (Some t) is never (h, b) =
    let open_yet = open_in (after_space front) t is in
    let found = target_is front b.more b.rest t h b.reads open_yet.0 in
    text_ends t b.more found.0 h b.reads.0 open_yet.1 never found.1

pub target_never : (front : List ℕ) → IsSomeAnd (open_target front) NeverBecomesText → ¬ (MayBecomeHead front)
target_never front never = never_in front (open_target front) refl never

-- ---- a target that may

continuation_byte : (b : ℕ) → IsContinuationByte b → IsTrue (is_uri_byte b)
continuation_byte b is = grind (arith, is.0, is.1)

slash : IsTrue (is_uri_byte 47)
slash = refl

abbrev ended : List LineEnd → List ℕ → List ℕ → RequestHead
ended blank method target = record { blank = blank; method = method; target = target; minor = 1; line_end = lf; fields = []; last = lf }

may_in : (front : List ℕ) (blank : List LineEnd) (method target : List ℕ) → IsToken method → AllPass is_uri_byte target
    → front ≡ print_blank blank ++ method ++ 32 ∷ target → MayBecomeText target → MayBecomeHead front
may_in front blank method target token uri is (more, continued, text) =
    let all : List ℕ = (target ++ more) ++ 47 ∷ [] in
    let h : RequestHead = ended blank method all in
    let rest : List ℕ = 32 ∷ (print_version 1 ++ (print_end lf ++ (print_section [] lf ++ []))) in
    let visible : ℕ → Type 0 = λ b. IsTrue (is_uri_byte b) in
    let are : AllPass is_uri_byte all =
    All-append visible (target ++ more) (47 ∷ []) (All-append visible target more uri (All-weaker IsContinuationByte visible continuation_byte more continued))
    (All-cons visible 47 [] slash (All-nil visible)) in (
      h,
      record {
        more = more ++ 47 ∷ rest;
        rest = [];
        reads = (
          record {
            method = token;
            target = (last_is (target ++ more), are);
            target_text = IsUtf8-append (target ++ more) (47 ∷ []) text (one_byte 47 (omega arith));
            minor = omega arith;
            fields = All-nil IsField;
          },
          ap (λ (x : List ℕ). x ++ (more ++ 47 ∷ rest)) is ∙ regroup (print_blank blank) method target more rest ∙ sym (print_request-append h []),
        );
        few = omega arith;
      },
    )
  where
    last_is : (a : List ℕ) → 0 < length (a ++ 47 ∷ [])
    last_is [] = omega arith
    last_is (b ∷ a) = omega arith

    regroup : (a b c d e : List ℕ) → (a ++ b ++ 32 ∷ c) ++ (d ++ 47 ∷ e) ≡ a ++ (b ++ 32 ∷ (((c ++ d) ++ 47 ∷ []) ++ e))
    regroup a b c d e = simp (append_assoc, cons-append)

some_of : {o : Option (List ℕ)} (t : List ℕ) → o ≡ Some t → IfSome o MayBecomeText → MayBecomeText t
some_of t is may = subst (λ (x : Option (List ℕ)). IfSome x MayBecomeText) is may

-- what httparse leaves open, settled
pub unfinished_may : (front : List ℕ) → MayBecomeRequest front → begun_lines true front ≤ 33 → IfSome (open_target front) MayBecomeText → MayBecomeHead front
unfinished_may front (inl (more, h, reads)) few text = room_may front more h reads few
unfinished_may front (inr (blank, method, target, token, uri, is)) few text =
    let found : after_space front ≡ Some target =
    ap after_space is ∙ first_space (print_blank blank ++ method) target (method_no_space blank method token) in
    let none : after_space target ≡ None = no_space target (All-weaker _ IsNoSpace uri_no_space target uri) in
    may_in front blank method target token uri is (some_of target (open_is front target found none) text)
