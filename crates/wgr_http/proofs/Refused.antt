-- What no bytes can make a head, and which fault bytes without a head have.
use Rattle.std.proofs.Common.{◌≡◌, ℕ, ◌-◌, ◌<◌, List, [], ◌++◌, length, take, arith, refl, sym, ◌∙◌, ap, subst, append-nil, append_assoc, length-append, codes, inl, inr}
use Rattle.std.specs.Prelude.{IsTrue}
use Rattle.std.proofs.lemmas.Bool.{cases_lt}
use Rattle.std.proofs.lemmas.List.{take-append-le, take_all}
use Rattle.std.proofs.lemmas.List.Elements.{All-nil, All-from_recursion}
use Rattle.httparse.proofs.GrammarLemmas.{ReadsRequest-append}
use Rattle.httparse.proofs.OnLiterals.{httparse_on_literals}
use Rattle.httparse.specs.Grammar.{IsField, RequestHead, ReadsRequest, is_token_byte, is_uri_byte, lf}
use Rattle.wgr_http.specs.Head.{BecomesHead, HasHead, HasNoHead, IsRefused, MayBecomeHead}
use Rattle.wgr_http.specs.Message.{IsHeadless, empty, refused, long, cut}
use Rattle.wgr_http.specs.declared.message.MessageFault.{MessageFault}
use Rattle.wgr_http.proofs.HeadLemmas.{front_split, reads_front}
use Rattle.wgr_http.proofs.TextLemmas.{one_byte}

-- what becomes of the longer bytes may become of the shorter ones
pub front_becomes : (front more : List ℕ) (h : RequestHead) → BecomesHead (front ++ more) h → BecomesHead front h
front_becomes front more h b = record {
  more = more ++ b.more;
  rest = b.rest;
  reads = subst (λ (x : List ℕ). ReadsRequest x h b.rest) (append_assoc front more b.more) b.reads;
  few = b.few;
}

front_grows : (bytes more : List ℕ) → (x : List ℕ) × (take 8192 (bytes ++ more) ≡ take 8192 bytes ++ x)
front_grows bytes more = elim (cases_lt (length bytes) 8192) [
  | inl lt ↦
      let all : take 8192 bytes ≡ bytes = take_all 8192 bytes (omega (arith, lt)) in
      (take (8192 - length bytes) more, front_split 8192 bytes more (omega (arith, lt)) ∙ ap (λ (x : List ℕ). x ++ take (8192 - length bytes) more) (sym all))
  | inr le ↦ ([], take-append-le 8192 bytes more le ∙ sym (append-nil (take 8192 bytes)))
]

pub refused_grows : (bytes more : List ℕ) → IsRefused bytes → IsRefused (bytes ++ more)
refused_grows bytes more never (h, b) =
    let grown = front_grows bytes more in
    never (h, front_becomes (take 8192 bytes) grown.0 h (subst (λ (x : List ℕ). BecomesHead x h) grown.1 b))

pub refused_none : (bytes : List ℕ) → IsRefused bytes → HasNoHead bytes
refused_none bytes never h rest has = never (
  h,
  record {
    more = [];
    rest = _;
    reads = ReadsRequest-append (take 8192 bytes) h _ [] (reads_front bytes h rest has);
    few = has.few;
  },
)

-- ---- no bytes at all aren't refused

abbrev pub least_head : RequestHead
least_head = record { blank = []; method = codes "GET"; target = codes "/"; minor = 1; line_end = lf; fields = []; last = lf }

abbrev pub least_text : List ℕ
least_text = codes "GET / HTTP/1.1\n\n"

pub least_reads : ReadsRequest least_text least_head []
unfolding httparse_on_literals
least_reads = (
  record {
    method = (omega arith, All-from_recursion (λ b. IsTrue (is_token_byte b)) (codes "GET") (refl, (refl, (refl, tt))));
    target = (omega arith, All-from_recursion (λ b. IsTrue (is_uri_byte b)) (codes "/") (refl, tt));
    target_text = one_byte 47 (omega arith);
    minor = omega arith;
    fields = All-nil IsField;
  },
  refl,
)

pub least_has : HasHead least_text least_head []
unfolding httparse_on_literals
least_has = record { reads = least_reads; short = omega arith; few = omega arith }

pub empty_may : MayBecomeHead []
empty_may = (least_head, record { more = least_text; rest = []; reads = least_reads; few = omega arith })

empty_is_open : (bytes : List ℕ) → bytes ≡ [] → ¬ (IsRefused bytes)
empty_is_open bytes is never = subst IsRefused is never empty_may

-- ---- one fault

no_length : (bytes : List ℕ) → bytes ≡ [] → length bytes ≡ 0
no_length bytes is = ap length is

pub headless_unique : (bytes : List ℕ) (f g : MessageFault) → IsHeadless bytes f → IsHeadless bytes g → f ≡ g
headless_unique bytes f g (empty e) (empty e2) = refl
headless_unique bytes f g (empty e) (refused r) = absurd (empty_is_open bytes e r)
headless_unique bytes f g (empty e) (long may lt) = absurd (omega (arith, lt, no_length bytes e))
headless_unique bytes f g (empty e) (cut some le) = absurd (omega (arith, some, no_length bytes e))
headless_unique bytes f g (refused r) (empty e) = absurd (empty_is_open bytes e r)
headless_unique bytes f g (refused r) (refused r2) = refl
headless_unique bytes f g (refused r) (long may lt) = absurd (r may)
headless_unique bytes f g (refused r) (cut some le) = refl
headless_unique bytes f g (long may lt) (empty e) = absurd (omega (arith, lt, no_length bytes e))
headless_unique bytes f g (long may lt) (refused r) = absurd (r may)
headless_unique bytes f g (long may lt) (long may2 lt2) = refl
headless_unique bytes f g (long may lt) (cut some le) = absurd (omega (arith, lt, le))
headless_unique bytes f g (cut some le) (empty e) = absurd (omega (arith, some, no_length bytes e))
headless_unique bytes f g (cut some le) (refused r) = refl
headless_unique bytes f g (cut some le) (long may lt) = absurd (omega (arith, lt, le))
headless_unique bytes f g (cut some le) (cut some2 le2) = refl

-- ---- the fault of more bytes

pub long_grows : (bytes more : List ℕ) (f : MessageFault) → 8192 < length bytes → IsHeadless bytes f → IsHeadless (bytes ++ more) f
long_grows bytes more f lt (empty e) = absurd (omega (arith, lt, no_length bytes e))
long_grows bytes more f lt (refused r) = refused (refused_grows bytes more r)
long_grows bytes more f lt (long may lt2) =
    let same : take 8192 (bytes ++ more) ≡ take 8192 bytes = take-append-le 8192 bytes more (omega (arith, lt)) in
    long (subst MayBecomeHead (sym same) may) (omega (arith, lt, length-append bytes more))
long_grows bytes more f lt (cut some le) = absurd (omega (arith, lt, le))
