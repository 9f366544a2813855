-- Which beginnings of a message decide it.
use Rattle.std.proofs.Common.{◌≡◌, ℕ, ◌+◌, ◌<◌, ◌≤◌, List, ◌++◌, length, drop, arith, sym, ◌∙◌, ap, subst, append-nil, length-append, inl, inr, ◌⊎◌, codes}
use Rattle.std.specs.Prelude.{Option, Some, None, Result, Err}
use Rattle.std.specs.Io.KnownBytes.{Consumes, IsAtEnd}
use Rattle.httparse.specs.Grammar.{RequestHead, print_request}
use Rattle.httparse.proofs.GrammarLemmas.{request_unique}
use Rattle.wgr_http.specs.Extent.{wanted, extent, HasExtent}
use Rattle.wgr_http.specs.Field.{Occurrence, in_head}
use Rattle.wgr_http.specs.Head.{HasHead, HasNoHead, IsRefused}
use Rattle.wgr_http.specs.Message.{message_of, refused, Answers, headed, unheaded, MessageView}
use Rattle.wgr_http.specs.Reading.{IsDecided, AnswersAs, IsNoMore}
use Rattle.wgr_http.specs.declared.message.MessageFault.{MessageFault}
use Rattle.wgr_http.specs.declared.message.MessageFault.TheVariants.{BadHead}
use Rattle.wgr_http.proofs.Growing.{head_grows, no_head_grows, answers_unique, judged_grows}
use Rattle.wgr_http.proofs.Refused.{long_grows, refused_grows, refused_none}

pub rest_length : (bytes : List ℕ) (h : RequestHead) (rest : List ℕ) → HasHead bytes h rest → length bytes ≡ length (print_request h) + length rest
rest_length bytes h rest has = ap length has.reads.1 ∙ length-append (print_request h) rest

-- a head, and the bytes that it wants
pub head_decides : (bytes : List ℕ) (h : RequestHead) (rest : List ℕ) → HasHead bytes h rest → extent h ≤ length bytes → IsDecided bytes
head_decides bytes h rest has le more r answers =
    let authorization : Occurrence = in_head (codes "authorization") h in
    let size : Occurrence = in_head (codes "content-length") h in
    let coding : Occurrence = in_head (codes "transfer-encoding") h in
    let room : wanted authorization size coding ≤ length rest = omega (arith, le, rest_length bytes h rest has) in
    let same : message_of h (rest ++ more) ≡ message_of h rest = judged_grows h.method h.target authorization size coding rest more room in
    let is : r ≡ message_of h rest = answers_unique bytes r (message_of h rest) answers (headed h rest has) in
    subst (Answers (bytes ++ more)) (same ∙ sym is) (headed h (rest ++ more) (head_grows bytes more h rest has))

pub extent_decides : (bytes more : List ℕ) (n : ℕ) → HasExtent bytes n → n ≤ length (bytes ++ more) → IsDecided (bytes ++ more)
extent_decides bytes more n e le =
    let has = head_grows bytes more e.0 (drop (length (print_request e.0)) bytes) e.1 in
    head_decides (bytes ++ more) e.0 (drop (length (print_request e.0)) bytes ++ more) has (omega (arith, le, e.2))

-- what no bytes can make a head
pub refused_decides : (bytes : List ℕ) → IsRefused bytes → IsDecided bytes
refused_decides bytes never more r answers =
    let is : r ≡ Err BadHead = answers_unique bytes r (Err BadHead) answers (unheaded BadHead (refused_none bytes never) (refused never)) in
    let still = refused_grows bytes more never in
    subst (Answers (bytes ++ more)) (sym is) (unheaded BadHead (refused_none (bytes ++ more) still) (refused still))

long_decides : (bytes more : List ℕ) (r : Result MessageView MessageFault) → HasNoHead bytes → 8192 < length bytes → Answers bytes r → Answers (bytes ++ more) r
long_decides bytes more r none lt (headed h rest has) = absurd (none h rest has)
long_decides bytes more r none lt (unheaded f none2 is) =
    unheaded f (no_head_grows bytes more (omega (arith, lt)) none) (long_grows bytes more f lt is)

-- no head in the first 8,192 bytes
pub no_head_decides : (bytes : List ℕ) → HasNoHead bytes → 8192 < length bytes → IsDecided bytes
no_head_decides bytes none lt more r = long_decides bytes more r none lt

-- what was read of a reader's bytes is decided, or is all of them
pub read_of : (old new : Option (List ℕ)) (bytes : List ℕ) → Consumes old new bytes → IsDecided bytes ⊎ IsAtEnd new → AnswersAs bytes old
read_of None new bytes took why = tt
read_of (Some all) None bytes took why = absurd took
read_of (Some all) (Some left) bytes took (inl is) = λ r answers. subst (λ (x : List ℕ). Answers x r) (sym took) (is left r answers)
read_of (Some all) (Some left) bytes took (inr end) =
    λ r answers. subst (λ (x : List ℕ). Answers x r) (sym (took ∙ ap (λ (x : List ℕ). bytes ++ x) end ∙ append-nil bytes)) answers

-- nothing is read that the head doesn't want, beyond the bytes in which a head is sought
pub no_more : (bytes more : List ℕ) (n : ℕ) → HasExtent bytes n → length bytes ≤ 8193
    → (length bytes < length (bytes ++ more) → length (bytes ++ more) ≤ n) → IsNoMore (bytes ++ more)
no_more bytes more n e short most =
    let has = head_grows bytes more e.0 (drop (length (print_request e.0)) bytes) e.1 in
    record {
      none = λ none. absurd (none e.0 _ has);
      head = λ h rest other lt. subst (λ (k : RequestHead). length (bytes ++ more) ≤ extent k) (sym (request_unique (bytes ++ more) h e.0 rest _ other.reads has.reads).0)
          (subst (λ (k : ℕ). length (bytes ++ more) ≤ k) e.2 (most (omega (arith, short, lt))));
    }
