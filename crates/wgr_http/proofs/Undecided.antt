-- Which beginnings of a message don't decide it.
use Rattle.std.proofs.Common.{◌≡◌, ℕ, ◌<◌, ◌≤◌, Bool, true, false, cond, List, [], ◌∷◌, ◌++◌, length, take, drop, arith, refl, sym, ap, subst, length-append, inl, inr, codes}
use Rattle.std.specs.Prelude.{Option, Some, None, Ok, Err, bytes_eq}
use Rattle.std.proofs.Math.ListN.{replicate}
use Rattle.std.proofs.lemmas.Bool.{cases_lt, lt-ltb, le-ltb}
use Rattle.std.proofs.lemmas.List.{take-append-drop, length-replicate}
use Rattle.httparse.specs.Grammar.{RequestHead, ReadsRequest, print_request}
use Rattle.httparse.proofs.GrammarLemmas.{request_unique}
use Rattle.wgr_http.specs.Extent.{asked_length, wanted, extent, HasExtent}
use Rattle.wgr_http.specs.Field.{Occurrence, absent, once, repeated, in_head}
use Rattle.wgr_http.specs.Head.{BecomesHead, HasHead, HasNoHead, MayBecomeHead}
use Rattle.wgr_http.specs.Length.{length_value, max_body}
use Rattle.wgr_http.specs.Message.{Answers, headed, unheaded, empty, long, cut, judged, message_of, sized_by, token_given, with_body}
use Rattle.wgr_http.specs.Reading.{IsDecided}
use Rattle.wgr_http.specs.declared.message.MessageFault.TheVariants.{BadHead, LengthRequired, TooLarge, Truncated}
use Rattle.wgr_http.proofs.Deciding.{rest_length}
use Rattle.wgr_http.proofs.Growing.{answers_unique, head_grows}
use Rattle.wgr_http.proofs.Refused.{least_head, least_text, least_has}

-- ---- without a head

-- no head makes a message BadHead
bodies_differ : (method target : List ℕ) (token : Option (List ℕ)) (rest : List ℕ) (value : Option ℕ) → with_body method target token (sized_by rest value) ≡ Err BadHead → ⊥
bodies_differ method target token rest None is = cc
bodies_differ method target token rest (Some n) is = elim (cases_lt max_body n) [
  | inl over ↦ (let bad = rw (lt-ltb max_body n over) at is in cc bad)
  | inr within ↦ elim (cases_lt (length rest) n) [
    | inl short ↦ (let bad = rw (le-ltb max_body n within, lt-ltb (length rest) n short) at is in cc bad)
    | inr room ↦ (let bad = rw (le-ltb max_body n within, le-ltb (length rest) n room) at is in cc bad)
  ]
]

lacks_length : (post : Bool) (method target : List ℕ) (token : Option (List ℕ)) → with_body method target token (cond post (Err LengthRequired) (Ok [])) ≡ Err BadHead → ⊥
lacks_length true method target token is = cc
lacks_length false method target token is = cc

heads_differ : (method target : List ℕ) (authorization size coding : Occurrence) (rest : List ℕ) → judged method target authorization size coding rest ≡ Err BadHead → ⊥
heads_differ method target repeated size coding rest is = cc
heads_differ method target absent repeated coding rest is = cc
heads_differ method target absent absent absent rest is = lacks_length (bytes_eq method (codes "POST")) method target None is
heads_differ method target absent absent (once e) rest is = cc
heads_differ method target absent absent repeated rest is = cc
heads_differ method target absent (once value) absent rest is = bodies_differ method target None rest (length_value value) is
heads_differ method target absent (once value) (once e) rest is = cc
heads_differ method target absent (once value) repeated rest is = cc
heads_differ method target (once a) repeated coding rest is = cc
heads_differ method target (once a) absent absent rest is = lacks_length (bytes_eq method (codes "POST")) method target (token_given (once a)) is
heads_differ method target (once a) absent (once e) rest is = cc
heads_differ method target (once a) absent repeated rest is = cc
heads_differ method target (once a) (once value) absent rest is = bodies_differ method target (token_given (once a)) rest (length_value value) is
heads_differ method target (once a) (once value) (once e) rest is = cc
heads_differ method target (once a) (once value) repeated rest is = cc

-- no bytes: a message may follow
empty_undecided : (bytes : List ℕ) → bytes ≡ [] → HasNoHead bytes → ¬ (IsDecided bytes)
empty_undecided bytes is no_head decided =
    let text : bytes ++ least_text ≡ least_text = ap (λ (x : List ℕ). x ++ least_text) is in
    let then_ = subst (λ (x : List ℕ). Answers x (Err Truncated)) text (decided least_text (Err Truncated) (unheaded Truncated no_head (empty is))) in
    let same = answers_unique least_text _ _ then_ (headed least_head [] least_has) in
    cc same

-- a head that becomes too long
long_becomes : (bytes : List ℕ) (h : RequestHead) (b : BecomesHead bytes h) → 8192 < length (print_request h) → Answers (bytes ++ b.more) (Err TooLarge)
long_becomes bytes h b over =
    let all : List ℕ = bytes ++ b.more in
    let split : all ≡ take 8192 all ++ drop 8192 all = sym (take-append-drop 8192 all) in
    unheaded TooLarge (λ k rest has.
    let same = (request_unique all h k b.rest rest b.reads has.reads).0 in
    absurd (omega (arith, over, has.short, ap (λ x. length (print_request x)) same)))
    (long (h, record { more = drop 8192 all; rest = b.rest; reads = subst (λ (x : List ℕ). ReadsRequest x h b.rest) split b.reads; few = b.few })
    (omega (arith, over, ap length b.reads.1, length-append (print_request h) b.rest)))

some_undecided : (bytes : List ℕ) → 0 < length bytes → HasNoHead bytes → MayBecomeHead bytes → length bytes ≤ 8192 → ¬ (IsDecided bytes)
some_undecided bytes some none (h, b) short decided =
    let still = decided b.more (Err BadHead) (unheaded BadHead none (cut some short)) in
    elim (cases_lt 8192 (length (print_request h))) [
      | inl over ↦ (let same = answers_unique (bytes ++ b.more) _ _ still (long_becomes bytes h b over) in cc same)
      | inr fits ↦
          let has : HasHead (bytes ++ b.more) h b.rest = record { reads = b.reads; short = fits; few = b.few } in
          heads_differ h.method h.target (in_head (codes "authorization") h) (in_head (codes "content-length") h) (in_head (codes "transfer-encoding") h) b.rest
          (answers_unique (bytes ++ b.more) _ _ (headed h b.rest has) still)
    ]

-- up to 8,192 bytes that may still become a head
pub no_head_undecided : (bytes : List ℕ) → HasNoHead bytes → MayBecomeHead bytes → length bytes ≤ 8192 → ¬ (IsDecided bytes)
no_head_undecided [] none may short = empty_undecided [] refl none
no_head_undecided (b ∷ bytes) none may short = some_undecided (b ∷ bytes) (omega arith) none may short

-- ---- with a head, and without its body

no_bytes_wanted : {P : Type 0} (rest : List ℕ) → length rest < 0 → P
no_bytes_wanted rest lt = absurd (omega (arith, lt))

-- more bytes give the body that was cut short
sized_opens : (method target : List ℕ) (token : Option (List ℕ)) (rest more : List ℕ) (value : Option ℕ) → length rest < asked_length value → asked_length value ≤ length (rest ++ more)
    → with_body method target token (sized_by (rest ++ more) value) ≡ with_body method target token (sized_by rest value) → ⊥
sized_opens method target token rest more None lt le same = no_bytes_wanted rest lt
sized_opens method target token rest more (Some n) lt le same = elim (cases_lt max_body n) [
  | inl over ↦ no_bytes_wanted rest (rw (lt-ltb max_body n over) at lt)
  | inr within ↦
      let short : length rest < n = rw (le-ltb max_body n within) at lt in
      let room : n ≤ length (rest ++ more) = rw (le-ltb max_body n within) at le in
      let bad = rw (le-ltb max_body n within, lt-ltb (length rest) n short, le-ltb (length (rest ++ more)) n room) at same in
      cc bad
]

judged_opens : (method target : List ℕ) (authorization size coding : Occurrence) (rest more : List ℕ)
    → length rest < wanted authorization size coding → wanted authorization size coding ≤ length (rest ++ more)
    → judged method target authorization size coding (rest ++ more) ≡ judged method target authorization size coding rest → ⊥
judged_opens method target repeated size coding rest more lt le same = no_bytes_wanted rest lt
judged_opens method target absent repeated coding rest more lt le same = no_bytes_wanted rest lt
judged_opens method target absent absent absent rest more lt le same = no_bytes_wanted rest lt
judged_opens method target absent absent (once e) rest more lt le same = no_bytes_wanted rest lt
judged_opens method target absent absent repeated rest more lt le same = no_bytes_wanted rest lt
judged_opens method target absent (once value) absent rest more lt le same = sized_opens method target None rest more (length_value value) lt le same
judged_opens method target absent (once value) (once e) rest more lt le same = no_bytes_wanted rest lt
judged_opens method target absent (once value) repeated rest more lt le same = no_bytes_wanted rest lt
judged_opens method target (once a) repeated coding rest more lt le same = no_bytes_wanted rest lt
judged_opens method target (once a) absent absent rest more lt le same = no_bytes_wanted rest lt
judged_opens method target (once a) absent (once e) rest more lt le same = no_bytes_wanted rest lt
judged_opens method target (once a) absent repeated rest more lt le same = no_bytes_wanted rest lt
judged_opens method target (once a) (once value) absent rest more lt le same =
    sized_opens method target (token_given (once a)) rest more (length_value value) lt le same
judged_opens method target (once a) (once value) (once e) rest more lt le same = no_bytes_wanted rest lt
judged_opens method target (once a) (once value) repeated rest more lt le same = no_bytes_wanted rest lt

-- a head without all bytes that it wants: with them it is a message
pub head_undecided : (bytes : List ℕ) (h : RequestHead) (rest : List ℕ) → HasHead bytes h rest → length bytes < extent h → ¬ (IsDecided bytes)
head_undecided bytes h rest has lt decided =
    let authorization : Occurrence = in_head (codes "authorization") h in
    let size : Occurrence = in_head (codes "content-length") h in
    let coding : Occurrence = in_head (codes "transfer-encoding") h in
    let n : ℕ = wanted authorization size coding in
    let zeros : List ℕ = replicate n 0 in
    let short : length rest < n = omega (arith, lt, rest_length bytes h rest has) in
    let room : n ≤ length (rest ++ zeros) = omega (arith, length-append rest zeros, length-replicate {A = ℕ} n 0) in
    let same = answers_unique (bytes ++ zeros) _ _ (decided zeros (message_of h rest) (headed h rest has)) (headed h (rest ++ zeros) (head_grows bytes zeros h rest has)) in
    judged_opens h.method h.target authorization size coding rest zeros short room (sym same)

pub extent_undecided : (bytes more : List ℕ) (n : ℕ) → HasExtent bytes n → length (bytes ++ more) < n → ¬ (IsDecided (bytes ++ more))
extent_undecided bytes more n e lt =
    let has = head_grows bytes more e.0 (drop (length (print_request e.0)) bytes) e.1 in
    head_undecided (bytes ++ more) e.0 (drop (length (print_request e.0)) bytes ++ more) has (omega (arith, lt, e.2))
