-- An operator's order as one line of text: its word and its fields, with one blank between any two, and its token last.
use Rattle.std.specs.Prelude.{ℕ, ◌≡◌, ◌⊎◌, ◌==◌, ◌&&◌, ◌+◌, ◌<◌, List, [], ◌∷◌, ◌++◌, Bool, true, Option, Some, None, IsUtf8, codes, if◌then◌else◌, nat_le, length, not, option_map, slice_index_or, take}
use Rattle.std.specs.List.{join_with_byte, list_all, slice_split}
use Rattle.std.specs.Str.{bytes_eq}
use Rattle.wgr_orders.specs.declared.order.Order.{Order}
use Rattle.wgr_words.specs.Asked.{NetworkAsked, OrderAsked, DigestEnd, NetworkAdd, NetworkEnd, TenantAdd, TokenEnd, TokenGrant, order_asked}
use Rattle.wgr_words.specs.Order.{IsFirstFault, MakesOrder, order_fields}
use Rattle.wgr_words.specs.declared.line.LineFault.{LineFault}
use Rattle.wgr_words.specs.declared.line.LineFault.TheVariants as fault
use Rattle.wgr_words.specs.declared.line.OrderLine.{OrderLine}
use Rattle.wgr_words.specs.declared.line.TheConstants.{LINE_MOST}

-- ---- the words of a line

-- an order, and the text of its token, which is empty if the line has none
pub record LineAsked : Type 0 where
  pub asked : OrderAsked
  pub token : List ℕ

abbrev pub line_asked : OrderLine → LineAsked
line_asked line = record { asked = order_asked line.words; token = line.token.now }

-- the words of a line: each blank stands between two, so where two blanks follow each other an empty word is between them
abbrev pub words_in : List ℕ → List (List ℕ)
words_in text = slice_split (λ b. b == 32) text

-- without a token
abbrev pub no_token : OrderAsked → Option LineAsked
no_token asked = Some (record { asked = asked; token = [] })

abbrev pub one_field : List ℕ → List ℕ → Option LineAsked
one_field word a =
    if bytes_eq word (codes "tenant-add") then no_token (TenantAdd a)
    else (if bytes_eq word (codes "token-end") then Some (record { asked = TokenEnd; token = a })
    else None)

abbrev pub two_fields : List ℕ → List ℕ → List ℕ → Option LineAsked
two_fields word a b =
    if bytes_eq word (codes "token-grant") then Some (record { asked = TokenGrant a None; token = b })
    else (if bytes_eq word (codes "network-end") then no_token (NetworkEnd a b)
    else (if bytes_eq word (codes "token-end") && bytes_eq a (codes "--digest") then no_token (DigestEnd b)
    else None))

abbrev pub three_fields : List ℕ → List ℕ → List ℕ → List ℕ → Option LineAsked
three_fields word a b c = if bytes_eq word (codes "token-grant") then Some (record { asked = TokenGrant a (Some b); token = c }) else None

abbrev pub seven_fields : List ℕ → NetworkAsked → Option LineAsked
seven_fields word w = if bytes_eq word (codes "network-add") then no_token (NetworkAdd w) else None

-- the order of these words
abbrev pub line_in : List (List ℕ) → Option LineAsked
line_in (word ∷ a ∷ []) = one_field word a
line_in (word ∷ a ∷ b ∷ []) = two_fields word a b
line_in (word ∷ a ∷ b ∷ c ∷ []) = three_fields word a b c
line_in (word ∷ tenant ∷ name ∷ pool ∷ host ∷ port ∷ key ∷ capacity ∷ []) =
    seven_fields word (record { tenant = tenant; name = name; pool = pool; host = host; port = port; key = key; capacity = capacity })
line_in others = None

-- ---- what a line spells

-- the order that a line spells
abbrev pub SpellsOrder : List ℕ → Order → Type 0
SpellsOrder line order = (l : LineAsked) × (line_in (words_in line) ≡ Some l) × MakesOrder l.asked l.token order

-- why a line spells no order; on lack of memory nothing is known
abbrev pub IsUnspelled : List ℕ → LineFault → Type 0
IsUnspelled line fault.NoOrder = (¬ (IsUtf8 line)) ⊎ (line_in (words_in line) ≡ None)
IsUnspelled line (fault.Field field) = (l : LineAsked) × (line_in (words_in line) ≡ Some l) × IsFirstFault field (order_fields l.asked l.token)
IsUnspelled line fault.NoMemory = Unit {0}

-- ---- the first line

-- what stands before the first newline
abbrev pub before_newline : List ℕ → Option (List ℕ)
before_newline [] = None
before_newline (byte ∷ text) = if byte == 10 then Some [] else option_map (λ line. byte ∷ line) (before_newline text)

-- the first line without its newline; none where the first 4,096 bytes have no newline
abbrev pub first_line : List ℕ → Option (List ℕ)
first_line all = before_newline (take LINE_MOST all)

-- some bytes, and no newline among them
abbrev pub IsNoEnd : List ℕ → Type 0
IsNoEnd piece = (0 < length piece) × (before_newline piece ≡ None)

-- each call but the last returned some bytes and no newline: no call was made after the line's end
abbrev pub EndAtNewline : List (List ℕ) → Type 0
EndAtNewline pieces = (k : ℕ) → k + 1 < length pieces → IsNoEnd (slice_index_or pieces k [])

-- ---- writing

-- the words with one blank between any two, and a newline
abbrev pub line_text : List (List ℕ) → List ℕ
line_text words = join_with_byte 32 words ++ codes "\n"

-- neither a blank nor a newline
abbrev pub is_inside : ℕ → Bool
is_inside byte = not (byte == 32) && not (byte == 10)

-- a word is not empty, and has neither a blank nor a newline
abbrev pub is_word : List ℕ → Bool
is_word word = not (length word == 0) && list_all is_inside word

-- there is a word, all are words, and they fit in one line
abbrev pub is_line : List (List ℕ) → Bool
is_line words = not (length words == 0) && list_all is_word words && nat_le (length (line_text words)) LINE_MOST

-- what is written of the words of a line is read again as the same words, whatever follows it
abbrev pub WrittenWordsAreRead : Type 0
WrittenWordsAreRead = (words : List (List ℕ)) (rest : List ℕ) → is_line words ≡ true
    → (text : List ℕ) × (first_line (line_text words ++ rest) ≡ Some text) × (words_in text ≡ words)
