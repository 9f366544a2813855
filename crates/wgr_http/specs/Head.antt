-- The head of a request message (RFC 9112 sections 2.1 and 3), by httparse's grammar.
use Rattle.std.specs.Prelude.{ℕ, ◌≤◌, List, ◌++◌, length, take}
use Rattle.httparse.specs.Grammar.{RequestHead, ReadsRequest, print_request}

abbrev pub max_head : ℕ
max_head = 8192

abbrev pub max_headers : ℕ
max_headers = 32

-- the message begins with the head h, which isn't too long, and rest comes after it
pub record HasHead (bytes : List ℕ) (h : RequestHead) (rest : List ℕ) : Type 0 where
  pub reads : ReadsRequest bytes h rest
  pub short : length (print_request h) ≤ max_head
  pub few : length h.fields ≤ max_headers

abbrev pub HasNoHead : List ℕ → Type 0
HasNoHead bytes = (h : RequestHead) (rest : List ℕ) → ¬ (HasHead bytes h rest)

-- bytes can follow with which these begin with the head h, of any length
pub record BecomesHead (bytes : List ℕ) (h : RequestHead) : Type 0 where
  pub more : List ℕ
  pub rest : List ℕ
  pub reads : ReadsRequest (bytes ++ more) h rest
  pub few : length h.fields ≤ max_headers

abbrev pub MayBecomeHead : List ℕ → Type 0
MayBecomeHead bytes = (h : RequestHead) × BecomesHead bytes h

-- whatever bytes follow, the message has no head: its first bytes, as many as a head may have, become none
abbrev pub IsRefused : List ℕ → Type 0
IsRefused bytes = ¬ (MayBecomeHead (take max_head bytes))
