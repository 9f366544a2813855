-- What is sent is read as what its words and options ask for.
use Rattle.std.proofs.Common.{◌≡◌, ℕ, Bool, true, false, List, [], ◌∷◌, Option, Some, None, IfSome, codes, refl, sym, ap, if◌then◌else◌}
use Rattle.std.specs.Str.{bytes_eq}
use Rattle.std.proofs.lemmas.Slice.Eq.{bytes_eq-Decides}
use Rattle.wgr_words.specs.Reading.{Show}
use Rattle.wgr_words.specs.Sent.{IsLineReadAs, SentAsAsked, is_right, sent_asked, sent_line}

-- that of these words and options, and this token
abbrev ReadAsAsked : List (List ℕ) → Option (List ℕ) → Bool → List ℕ → Type 0
ReadAsAsked words digest is_json token = IfSome (sent_asked words digest is_json) (λ asked. IsLineReadAs asked token (sent_line words digest is_json token))

is_named : (word text : List ℕ) → true ≡ bytes_eq word text → word ≡ text
is_named word text same = (bytes_eq-Decides word text).0 (sym same)

alone : (word token : List ℕ) → ReadAsAsked (word ∷ []) None false token
alone word token = by_end (bytes_eq word (codes "token-end")) refl
  where
    by_show : (is_it : Bool) → is_it ≡ bytes_eq word (codes "show") → false ≡ bytes_eq word (codes "status") → false ≡ bytes_eq word (codes "token-end") → ReadAsAsked (word ∷ []) None false token
    by_show true same other_status other_end = rw (is_named word (codes "show") same) refl
    by_show false same other_status other_end = rw (← other_end, ← other_status, ← same) tt

    by_status : (is_it : Bool) → is_it ≡ bytes_eq word (codes "status") → false ≡ bytes_eq word (codes "token-end") → ReadAsAsked (word ∷ []) None false token
    by_status true same other_end = rw (is_named word (codes "status") same) refl
    by_status false same other_end = by_show (bytes_eq word (codes "show")) refl same other_end

    by_end : (is_it : Bool) → is_it ≡ bytes_eq word (codes "token-end") → ReadAsAsked (word ∷ []) None false token
    by_end true same = rw (is_named word (codes "token-end") same) refl
    by_end false same = by_status (bytes_eq word (codes "status")) refl same

shown : (a token : List ℕ) → ReadAsAsked (codes "show" ∷ a ∷ []) None false token
shown a token = by_option (bytes_eq a (codes "--json")) refl
  where
    by_option : (is_it : Bool) → is_it ≡ bytes_eq a (codes "--json") → ReadAsAsked (codes "show" ∷ a ∷ []) None false token
    by_option true same = rw (is_named a (codes "--json") same) tt
    by_option false same = rw (← same) (ap (λ is_it. Some (if is_it then Show None true else Show (Some a) false)) (sym same))

of_one : (word a token : List ℕ) → ReadAsAsked (word ∷ a ∷ []) None false token
of_one word a token = by_add (bytes_eq word (codes "tenant-add")) refl
  where
    by_show : (is_it : Bool) → is_it ≡ bytes_eq word (codes "show") → false ≡ bytes_eq word (codes "backup") → false ≡ bytes_eq word (codes "token-grant") → false ≡ bytes_eq word (codes "tenant-add") → ReadAsAsked (word ∷ a ∷ []) None false token
    by_show true same other_backup other_grant other_add = rw (is_named word (codes "show") same) (shown a token)
    by_show false same other_backup other_grant other_add = rw (← other_add, ← other_grant, ← other_backup, ← same) tt

    by_backup : (is_it : Bool) → is_it ≡ bytes_eq word (codes "backup") → false ≡ bytes_eq word (codes "token-grant") → false ≡ bytes_eq word (codes "tenant-add") → ReadAsAsked (word ∷ a ∷ []) None false token
    by_backup true same other_grant other_add = rw (is_named word (codes "backup") same) refl
    by_backup false same other_grant other_add = by_show (bytes_eq word (codes "show")) refl same other_grant other_add

    by_grant : (is_it : Bool) → is_it ≡ bytes_eq word (codes "token-grant") → false ≡ bytes_eq word (codes "tenant-add") → ReadAsAsked (word ∷ a ∷ []) None false token
    by_grant true same other_add = rw (is_named word (codes "token-grant") same) refl
    by_grant false same other_add = by_backup (bytes_eq word (codes "backup")) refl same other_add

    by_add : (is_it : Bool) → is_it ≡ bytes_eq word (codes "tenant-add") → ReadAsAsked (word ∷ a ∷ []) None false token
    by_add true same = rw (is_named word (codes "tenant-add") same) refl
    by_add false same = by_grant (bytes_eq word (codes "token-grant")) refl same

of_two : (word a b token : List ℕ) → ReadAsAsked (word ∷ a ∷ b ∷ []) None false token
of_two word a b token = by_end (bytes_eq word (codes "network-end")) refl
  where
    by_right : (is_it : Bool) → is_it ≡ is_right b → ReadAsAsked (codes "token-grant" ∷ a ∷ b ∷ []) None false token
    by_right true same = rw (← same) refl
    by_right false same = rw (← same) tt

    by_grant : (is_it : Bool) → is_it ≡ bytes_eq word (codes "token-grant") → false ≡ bytes_eq word (codes "network-end") → ReadAsAsked (word ∷ a ∷ b ∷ []) None false token
    by_grant true same other_end = rw (is_named word (codes "token-grant") same) (by_right (is_right b) refl)
    by_grant false same other_end = rw (← other_end, ← same) tt

    by_end : (is_it : Bool) → is_it ≡ bytes_eq word (codes "network-end") → ReadAsAsked (word ∷ a ∷ b ∷ []) None false token
    by_end true same = rw (is_named word (codes "network-end") same) refl
    by_end false same = by_grant (bytes_eq word (codes "token-grant")) refl same

of_seven : (word a b c d e f g token : List ℕ) → ReadAsAsked (word ∷ a ∷ b ∷ c ∷ d ∷ e ∷ f ∷ g ∷ []) None false token
of_seven word a b c d e f g token = by_add (bytes_eq word (codes "network-add")) refl
  where
    by_add : (is_it : Bool) → is_it ≡ bytes_eq word (codes "network-add") → ReadAsAsked (word ∷ a ∷ b ∷ c ∷ d ∷ e ∷ f ∷ g ∷ []) None false token
    by_add true same = rw (is_named word (codes "network-add") same) refl
    by_add false same = rw (← same) tt

by_digest : (word digest token : List ℕ) → ReadAsAsked (word ∷ []) (Some digest) false token
by_digest word digest token = by_end (bytes_eq word (codes "token-end")) refl
  where
    by_end : (is_it : Bool) → is_it ≡ bytes_eq word (codes "token-end") → ReadAsAsked (word ∷ []) (Some digest) false token
    by_end true same = rw (is_named word (codes "token-end") same) refl
    by_end false same = rw (← same) tt

all_as_json : (word token : List ℕ) → ReadAsAsked (word ∷ []) None true token
all_as_json word token = by_show (bytes_eq word (codes "show")) refl
  where
    by_show : (is_it : Bool) → is_it ≡ bytes_eq word (codes "show") → ReadAsAsked (word ∷ []) None true token
    by_show true same = rw (is_named word (codes "show") same) refl
    by_show false same = rw (← same) tt

one_as_json : (word a token : List ℕ) → ReadAsAsked (word ∷ a ∷ []) None true token
one_as_json word a token = by_show (bytes_eq word (codes "show")) refl
  where
    by_show : (is_it : Bool) → is_it ≡ bytes_eq word (codes "show") → ReadAsAsked (word ∷ a ∷ []) None true token
    by_show true same = rw (is_named word (codes "show") same) refl
    by_show false same = rw (← same) tt

plain : (words : List (List ℕ)) (token : List ℕ) → ReadAsAsked words None false token
plain [] token = tt
plain (word ∷ []) token = alone word token
plain (word ∷ a ∷ []) token = of_one word a token
plain (word ∷ a ∷ b ∷ []) token = of_two word a b token
plain (word ∷ a ∷ b ∷ c ∷ []) token = tt
plain (word ∷ a ∷ b ∷ c ∷ d ∷ []) token = tt
plain (word ∷ a ∷ b ∷ c ∷ d ∷ e ∷ []) token = tt
plain (word ∷ a ∷ b ∷ c ∷ d ∷ e ∷ f ∷ []) token = tt
plain (word ∷ a ∷ b ∷ c ∷ d ∷ e ∷ f ∷ g ∷ []) token = of_seven word a b c d e f g token
plain (word ∷ a ∷ b ∷ c ∷ d ∷ e ∷ f ∷ g ∷ h ∷ more) token = tt

pub read_as_asked : SentAsAsked
read_as_asked words None false token = plain words token
read_as_asked (word ∷ []) (Some digest) false token = by_digest word digest token
read_as_asked [] (Some digest) false token = tt
read_as_asked (word ∷ a ∷ more) (Some digest) false token = tt
read_as_asked [] None true token = tt
read_as_asked (word ∷ []) None true token = all_as_json word token
read_as_asked (word ∷ a ∷ []) None true token = one_as_json word a token
read_as_asked (word ∷ a ∷ b ∷ more) None true token = tt
read_as_asked words (Some digest) true token = tt
