-- An order or a reading that is sent to a service, by its words and options, as the command on a file takes them: the
-- token is given apart, and an option stands only at its own word.
use Rattle.std.specs.Prelude.{ℕ, ◌≡◌, List, [], ◌∷◌, ◌++◌, ◌||◌, Bool, true, false, Option, Some, None, codes, if◌then◌else◌, is_some, option_map, IfSome}
use Rattle.std.specs.Str.{bytes_eq}
use Rattle.wgr_words.specs.Asked.{NetworkAsked, OrderAsked, DigestEnd, NetworkAdd, NetworkEnd, TenantAdd, TokenEnd, TokenGrant}
use Rattle.wgr_words.specs.Line.{line_in}
use Rattle.wgr_words.specs.Order.{wants_token}
use Rattle.wgr_words.specs.Reading.{ReadingAsked, Backup, Show, read_alone, reading_in}

-- ---- what the words ask for

pub data SentAsked : Type 0 where
  SentOrder : (order : OrderAsked) → SentAsked
  SentReading : (reading : ReadingAsked) → SentAsked

-- `token-end`, whose token is given apart; `status`, `show`
abbrev pub sent_alone : List ℕ → Option SentAsked
sent_alone word = if bytes_eq word (codes "token-end") then Some (SentOrder TokenEnd) else option_map SentReading (read_alone word)

-- `tenant-add NAME`; `token-grant TENANT`, whose token is given apart; `backup FILE`; `show TENANT`, where no line names a
-- tenant `--json`
abbrev pub sent_of_one : List ℕ → List ℕ → Option SentAsked
sent_of_one word a =
    if bytes_eq word (codes "tenant-add") then Some (SentOrder (TenantAdd a))
    else (if bytes_eq word (codes "token-grant") then Some (SentOrder (TokenGrant a None))
    else (if bytes_eq word (codes "backup") then Some (SentReading (Backup a))
    else (if bytes_eq word (codes "show") then (if bytes_eq a (codes "--json") then None else Some (SentReading (Show (Some a) false)))
    else None)))

-- whether the text is a right's; any other may be a token, and is never sent as a word
abbrev pub is_right : List ℕ → Bool
is_right text = bytes_eq text (codes "full") || bytes_eq text (codes "read")

-- `network-end TENANT NAME`; `token-grant TENANT RIGHT`, whose token is given apart
abbrev pub sent_of_two : List ℕ → List ℕ → List ℕ → Option SentAsked
sent_of_two word a b =
    if bytes_eq word (codes "network-end") then Some (SentOrder (NetworkEnd a b))
    else (if bytes_eq word (codes "token-grant") then (if is_right b then Some (SentOrder (TokenGrant a (Some b))) else None)
    else None)

-- `network-add` with its seven fields
abbrev pub sent_of_seven : List ℕ → NetworkAsked → Option SentAsked
sent_of_seven word w = if bytes_eq word (codes "network-add") then Some (SentOrder (NetworkAdd w)) else None

abbrev pub sent_without_option : List (List ℕ) → Option SentAsked
sent_without_option (word ∷ []) = sent_alone word
sent_without_option (word ∷ a ∷ []) = sent_of_one word a
sent_without_option (word ∷ a ∷ b ∷ []) = sent_of_two word a b
sent_without_option (word ∷ tenant ∷ name ∷ pool ∷ host ∷ port ∷ key ∷ capacity ∷ []) =
    sent_of_seven word (record { tenant = tenant; name = name; pool = pool; host = host; port = port; key = key; capacity = capacity })
sent_without_option others = None

-- `token-end --digest HEX`
abbrev pub sent_by_digest : List (List ℕ) → List ℕ → Option SentAsked
sent_by_digest (word ∷ []) digest = if bytes_eq word (codes "token-end") then Some (SentOrder (DigestEnd digest)) else None
sent_by_digest others digest = None

-- `show [TENANT] --json`
abbrev pub sent_as_json : List (List ℕ) → Option SentAsked
sent_as_json (word ∷ []) = if bytes_eq word (codes "show") then Some (SentReading (Show None true)) else None
sent_as_json (word ∷ a ∷ []) = if bytes_eq word (codes "show") then Some (SentReading (Show (Some a) true)) else None
sent_as_json others = None

-- what is asked for by these words, with the value of `--digest`, and with `--json` or without
abbrev pub sent_asked : List (List ℕ) → Option (List ℕ) → Bool → Option SentAsked
sent_asked words None false = sent_without_option words
sent_asked words None true = sent_as_json words
sent_asked words (Some digest) false = sent_by_digest words digest
sent_asked words (Some digest) true = None

abbrev pub may_be_sent : List (List ℕ) → Option (List ℕ) → Bool → Bool
may_be_sent words digest is_json = is_some (sent_asked words digest is_json)

-- ---- the line

-- whether the order has a token that isn't among the words
abbrev pub asks_token : List (List ℕ) → Option (List ℕ) → Bool
asks_token words (Some digest) = false
asks_token (word ∷ []) None = bytes_eq word (codes "token-end")
asks_token (word ∷ field ∷ []) None = bytes_eq word (codes "token-grant")
asks_token (word ∷ field ∷ right ∷ []) None = bytes_eq word (codes "token-grant")
asks_token words None = false

-- the option that is a line's last word, if it is given
abbrev pub option_words : Bool → List (List ℕ)
option_words is_json = if is_json then codes "--json" ∷ [] else []

-- the words of a line that has no such token
abbrev pub line_words : List (List ℕ) → Option (List ℕ) → Bool → List (List ℕ)
line_words words None is_json = words ++ option_words is_json
line_words words (Some digest) is_json = words ++ codes "--digest" ∷ digest ∷ option_words is_json

-- the words of the line, with this token where the order has one
abbrev pub sent_line : List (List ℕ) → Option (List ℕ) → Bool → List ℕ → List (List ℕ)
sent_line words digest is_json token = if asks_token words digest then words ++ token ∷ option_words is_json else line_words words digest is_json

-- ---- a law

-- these words of a line are read as what was asked for, with the token where it has one
abbrev pub IsLineReadAs : SentAsked → List ℕ → List (List ℕ) → Type 0
IsLineReadAs (SentOrder order) token line = line_in line ≡ Some (record { asked = order; token = if wants_token order then token else [] })
IsLineReadAs (SentReading reading) token line = reading_in line ≡ Some reading

-- a service reads what is sent as what its words and options ask for
abbrev pub SentAsAsked : Type 0
SentAsAsked = (words : List (List ℕ)) (digest : Option (List ℕ)) (is_json : Bool) (token : List ℕ)
    → IfSome (sent_asked words digest is_json) (λ asked. IsLineReadAs asked token (sent_line words digest is_json token))
