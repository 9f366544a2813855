-- More bytes after a message that is decided change nothing.
use Rattle.std.proofs.Common.{◌≡◌, ℕ, ◌≤◌, List, ◌++◌, length, take, drop, arith, refl, sym, ◌∙◌, ap, append_assoc, length-append, inl, inr}
use Rattle.std.specs.Prelude.{Option, Some, None, Result, Err}
use Rattle.std.proofs.lemmas.List.{take-append-le, take-append-drop}
use Rattle.std.proofs.lemmas.Bool.{cases_lt, lt-ltb, le-ltb}
use Rattle.httparse.specs.Grammar.{RequestHead, print_request}
use Rattle.httparse.proofs.GrammarLemmas.{request_unique}
use Rattle.wgr_http.specs.Extent.{asked_length, wanted}
use Rattle.wgr_http.specs.Field.{Occurrence, absent, once, repeated}
use Rattle.wgr_http.specs.Head.{HasHead, HasNoHead}
use Rattle.wgr_http.specs.Length.{length_value, max_body}
use Rattle.wgr_http.specs.Message.{Answers, headed, unheaded, MessageView, judged, sized, sized_by, token_given, with_body}
use Rattle.wgr_http.specs.declared.message.MessageFault.{MessageFault}
use Rattle.wgr_http.proofs.HeadLemmas.{reads_front}
use Rattle.wgr_http.proofs.Refused.{headless_unique}

-- a head stays the head
pub head_grows : (bytes more : List ℕ) (h : RequestHead) (rest : List ℕ) → HasHead bytes h rest → HasHead (bytes ++ more) h (rest ++ more)
head_grows bytes more h rest has = record {
  reads = (has.reads.0, rw has.reads.1 (append_assoc (print_request h) rest more));
  short = has.short;
  few = has.few;
}

-- where the first bytes have no head, none comes with more
pub no_head_grows : (bytes more : List ℕ) → 8192 ≤ length bytes → HasNoHead bytes → HasNoHead (bytes ++ more)
no_head_grows bytes more long none h rest has =
    let front = reads_front (bytes ++ more) h rest has in
    let same : take 8192 (bytes ++ more) ≡ take 8192 bytes = take-append-le 8192 bytes more long in
    let reads = rw same at front in
    none h _ (record {
      reads = (has.reads.0, sym (take-append-drop 8192 bytes) ∙ ap (λ (x : List ℕ). x ++ drop 8192 bytes) reads.1 ∙ append_assoc (print_request h) _ (drop 8192 bytes));
      short = has.short;
      few = has.few;
    })

-- two answers for the same bytes are equal
pub answers_unique : (bytes : List ℕ) (r s : Result MessageView MessageFault) → Answers bytes r → Answers bytes s → r ≡ s
answers_unique bytes r s (headed h rest a) (headed k rest2 b) =
    let same = request_unique bytes h k rest rest2 a.reads b.reads in
    rw (same.0, same.1) refl
answers_unique bytes r s (headed h rest a) (unheaded f none a2) = absurd (none h rest a)
answers_unique bytes r s (unheaded f none a) (headed k rest2 b) = absurd (none k rest2 b)
answers_unique bytes r s (unheaded f none a) (unheaded g none2 b) = ap (λ e. Err e) (headless_unique bytes f g a b)

sized_grows : (rest more : List ℕ) (n : ℕ) → asked_length (Some n) ≤ length rest → sized (rest ++ more) n ≡ sized rest n
sized_grows rest more n enough = elim (cases_lt max_body n) [
  | inl over ↦ rw (lt-ltb max_body n over) refl
  | inr within ↦
      let room : n ≤ length rest = rw (le-ltb max_body n within) at enough in
      let room2 : n ≤ length (rest ++ more) = omega (arith, length-append rest more) in
      rw (le-ltb max_body n within, le-ltb (length rest) n room, le-ltb (length (rest ++ more)) n room2, take-append-le n rest more room) refl
]

sized_by_grows : (rest more : List ℕ) (value : Option ℕ) → asked_length value ≤ length rest → sized_by (rest ++ more) value ≡ sized_by rest value
sized_by_grows rest more None enough = refl
sized_by_grows rest more (Some n) enough = sized_grows rest more n enough

-- the bytes that a head wants are there
pub judged_grows : (method target : List ℕ) (authorization size coding : Occurrence) (rest more : List ℕ)
    → wanted authorization size coding ≤ length rest
    → judged method target authorization size coding (rest ++ more) ≡ judged method target authorization size coding rest
judged_grows method target repeated size coding rest more enough = refl
judged_grows method target absent repeated coding rest more enough = refl
judged_grows method target absent absent absent rest more enough = refl
judged_grows method target absent absent (once e) rest more enough = refl
judged_grows method target absent absent repeated rest more enough = refl
judged_grows method target absent (once value) absent rest more enough =
    ap (with_body method target None) (sized_by_grows rest more (length_value value) enough)
judged_grows method target absent (once value) (once e) rest more enough = refl
judged_grows method target absent (once value) repeated rest more enough = refl
judged_grows method target (once a) repeated coding rest more enough = refl
judged_grows method target (once a) absent absent rest more enough = refl
judged_grows method target (once a) absent (once e) rest more enough = refl
judged_grows method target (once a) absent repeated rest more enough = refl
judged_grows method target (once a) (once value) absent rest more enough =
    ap (with_body method target (token_given (once a))) (sized_by_grows rest more (length_value value) enough)
judged_grows method target (once a) (once value) (once e) rest more enough = refl
judged_grows method target (once a) (once value) repeated rest more enough = refl
