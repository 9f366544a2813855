-- A line that spells a reading spells no order.
use Rattle.std.proofs.Common.{◌≡◌, ◌≢◌, ℕ, Bool, true, false, cond, List, [], ◌∷◌, None, codes, refl, sym}
use Rattle.std.specs.Str.{bytes_eq, is_utf8}
use Rattle.std.proofs.lemmas.Slice.Eq.{bytes_eq-Decides}
use Rattle.wgr_words.specs.Line.{line_in, one_field, two_fields, words_in}
use Rattle.wgr_words.specs.Reading.{ReadingsAreNoOrders, read_of_one, read_of_two, reading_in}

-- the words of a reading of one field are no order's
one_apart : (word a : List ℕ) → read_of_one word a ≢ None → one_field word a ≡ None
one_apart word a some = by_show (bytes_eq word (codes "show")) refl
  where
    by_backup : (is_backup : Bool) → is_backup ≡ bytes_eq word (codes "backup") → false ≡ bytes_eq word (codes "show") → one_field word a ≡ None
    by_backup true named other = rw ((bytes_eq-Decides word (codes "backup")).0 (sym named)) refl
    by_backup false named other = absurd (some (rw (← other, ← named) refl))

    by_show : (is_show : Bool) → is_show ≡ bytes_eq word (codes "show") → one_field word a ≡ None
    by_show true same = rw ((bytes_eq-Decides word (codes "show")).0 (sym same)) refl
    by_show false same = by_backup (bytes_eq word (codes "backup")) refl same

two_apart : (word a b : List ℕ) → read_of_two word a b ≢ None → two_fields word a b ≡ None
two_apart word a b some = by_show (bytes_eq word (codes "show")) refl
  where
    by_show : (is_show : Bool) → is_show ≡ bytes_eq word (codes "show") → two_fields word a b ≡ None
    by_show true same = rw ((bytes_eq-Decides word (codes "show")).0 (sym same)) refl
    by_show false same = absurd (some (rw (← same) refl))

apart : (words : List (List ℕ)) → reading_in words ≢ None → line_in words ≡ None
apart [] some = refl
apart (word ∷ []) some = refl
apart (word ∷ a ∷ []) some = one_apart word a some
apart (word ∷ a ∷ b ∷ []) some = two_apart word a b some
apart (word ∷ a ∷ b ∷ c ∷ more) some = absurd (some refl)

pub no_orders : ReadingsAreNoOrders
no_orders line some = by_text (is_utf8 line) some
  where
    by_text : (is_text : Bool) → cond is_text (reading_in (words_in line)) None ≢ None → line_in (words_in line) ≡ None
    by_text true some = apart (words_in line) some
    by_text false some = absurd (some refl)
