-- From the front of a message to the message.
use Rattle.std.proofs.Common.{◌≡◌, ℕ, ◌+◌, ◌-◌, ◌≤◌, List, [], ◌++◌, length, take, drop, arith, sym, ◌∙◌, ap, subst, append_assoc}
use Rattle.std.proofs.lemmas.List.{take-append-drop, length-take-le, length-map, length-take, drop_at}
use Rattle.std.proofs.Math.Seq.{take-append-add}
use Rattle.std.specs.Prelude.{Result}
use Rattle.httparse.specs.declared.Error.{Error}
use Rattle.httparse.specs.declared.Status.{Status}
use Rattle.httparse.specs.declared.spans.HeaderSpan.{HeaderSpan}
use Rattle.httparse.specs.declared.spans.RequestSpans.{RequestSpans}
use Rattle.httparse.specs.Grammar.{RequestHead, ReadsRequest, print_request}
use Rattle.httparse.specs.Spans.{IsRequestAt, IsRequestOf, IsRequestWithin, header_bytes, name_and_value, FindsRequest}
use Rattle.httparse.specs.Outcome.{IsCompleteAnd}
use Rattle.httparse.proofs.GrammarLemmas.{ReadsRequest-append}
use Rattle.wgr_http.specs.Head.{HasHead, HasNoHead, MayBecomeHead}

-- a text of at most n bytes at the front of a list is at the front of its first n
pub front_split : (n : ℕ) (text rest : List ℕ) → length text ≤ n → take n (text ++ rest) ≡ text ++ take (n - length text) rest
front_split n text rest le =
    let e : n ≡ length text + (n - length text) = omega arith in
    subst (λ (k : ℕ). take k (text ++ rest) ≡ text ++ take (n - length text) rest) (sym e) (take-append-add text rest (n - length text))

-- a short head at the front of a message is at the front of its front
pub reads_front : (bytes : List ℕ) (h : RequestHead) (rest : List ℕ) → HasHead bytes h rest → ReadsRequest (take 8192 bytes) h (take (8192 - length (print_request h)) rest)
reads_front bytes h rest has =
    (has.reads.0, rw has.reads.1 (front_split 8192 (print_request h) rest has.short))

-- what the parser must find, it does not miss
pub no_head : (bytes : List ℕ) (room : ℕ) (headers : List HeaderSpan) (r : Result (Status RequestSpans) Error) → room ≡ 32
    → FindsRequest (take 8192 bytes) room headers r → (((h : RequestHead) → ¬ (IsCompleteAnd r (λ spans. IsRequestAt (take 8192 bytes) headers spans h)))) → HasNoHead bytes
no_head bytes room headers r is finds misses h rest has =
    let few : length h.fields ≤ room = omega (arith, has.few) in
    misses h (finds h (take (8192 - length (print_request h)) rest) (reads_front bytes h rest has) few)

-- the parser writes no more fields than there is room for
fields_fit : (front : List ℕ) (headers : List HeaderSpan) (r : RequestSpans) (h : RequestHead) → length headers ≡ 32 → IsRequestWithin front headers r
    → IsRequestAt front headers r h → length h.fields ≤ 32
fields_fit front headers r h room within at =
    let count : length h.fields ≡ r.headers =
    sym (length-map h.fields name_and_value) ∙ ap length (sym at.fields) ∙ length-map (take r.headers headers) (header_bytes front) ∙ length-take-le r.headers headers within.section.count_fits in
    omega (arith, within.section.count_fits)

-- a head is whole
pub whole_may : (front : List ℕ) (headers : List HeaderSpan) (r : RequestSpans) → length headers ≡ 32 → IsRequestWithin front headers r
    → IsRequestOf front headers r → MayBecomeHead front
whole_may front headers r room within (h, at) = (
  h,
  record {
    more = [];
    rest = drop r.len front ++ [];
    reads = ReadsRequest-append front h (drop r.len front) [] at.reads;
    few = fields_fit front headers r h room within at;
  },
)

-- and the other way round
pub head_from_front : (bytes : List ℕ) (headers : List HeaderSpan) (r : RequestSpans) (h : RequestHead) → length headers ≡ 32 → IsRequestWithin (take 8192 bytes) headers r
    → IsRequestAt (take 8192 bytes) headers r h → HasHead bytes h (drop r.len bytes)
head_from_front bytes headers r h room within at =
    let front : List ℕ = take 8192 bytes in
    let len : length (print_request h) ≡ r.len = sym at.len in
    let long : length front ≤ 8192 = omega (arith, length-take 8192 bytes) in
    let whole : bytes ≡ print_request h ++ (drop r.len front ++ drop 8192 bytes) =
    sym (take-append-drop 8192 bytes) ∙ ap (λ (x : List ℕ). x ++ drop 8192 bytes) at.reads.1 ∙ append_assoc (print_request h) (drop r.len front) (drop 8192 bytes) in
    let rest : drop r.len bytes ≡ drop r.len front ++ drop 8192 bytes =
    ap (drop r.len) whole ∙ drop_at (print_request h) (drop r.len front ++ drop 8192 bytes) r.len len in
    record {
      reads = (at.reads.0, rw rest whole);
      short = omega (arith, within.section.len_fits);
      few = fields_fit front headers r h room within at;
    }
