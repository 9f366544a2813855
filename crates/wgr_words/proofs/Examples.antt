-- What lines of orders and of readings are, by computation.
use Rattle.std.proofs.Common.{◌≡◌, Bool, List, ℕ, [], ◌∷◌, ◌++◌, Option, Some, None, codes, false, inl, inr, refl, true}
use Rattle.std.specs.Char.{encode_utf8}
use Rattle.std.specs.List.{repeat}
use Rattle.std.specs.Str.{chars, is_utf8}
use Rattle.std.proofs.lemmas.Slice.Eq.{bytes_eq-Decides}
use Rattle.wgr_words.specs.Asked.{OrderAsked, DigestEnd, NetworkAdd, NetworkEnd, TenantAdd, TokenEnd, TokenGrant}
use Rattle.wgr_words.specs.Line.{LineAsked, first_line, is_line, line_in, line_text, words_in}
use Rattle.wgr_model.specs.declared.right.Right.{Right}
use Rattle.wgr_model.specs.declared.right.Right.TheVariants.{Full, Read}
use Rattle.wgr_words.specs.Order.{order_fields}
use Rattle.wgr_words.specs.Reading.{ReadingAsked, Backup, Show, Status, reading_in_line}
use Rattle.wgr_words.specs.Sent.{asks_token, line_words, may_be_sent, sent_line}
use Rattle.wgr_words.specs.Words.{SpellsRight}
use Rattle.wgr_words.specs.declared.field.WordField.TheVariants as of

-- the order of a line, and its token
abbrev read : List ℕ → Option LineAsked
read line = line_in (words_in line)

abbrev is : OrderAsked → List ℕ → Option LineAsked
is asked token = Some (record { asked = asked; token = token })

pub tenant_add : read (codes "tenant-add acme") ≡ is (TenantAdd (codes "acme")) []
tenant_add = refl

pub token_grant : read (codes "token-grant acme abc") ≡ is (TokenGrant (codes "acme") None) (codes "abc")
token_grant = refl

pub token_grant_to_read : read (codes "token-grant acme read abc") ≡ is (TokenGrant (codes "acme") (Some (codes "read"))) (codes "abc")
token_grant_to_read = refl

-- the token is the last word, so here it is `read`, and its right the full one
pub token_named_as_a_right : read (codes "token-grant acme read") ≡ is (TokenGrant (codes "acme") None) (codes "read")
token_named_as_a_right = refl

pub token_grant_with_two_rights : read (codes "token-grant acme read full abc") ≡ None
token_grant_with_two_rights = refl

-- the fields in the order of their tests
pub fields_of_a_grant : order_fields (TokenGrant (codes "acme") (Some (codes "Read"))) (codes "x") ≡ (of.Tenant, codes "acme") ∷ (of.Right, codes "Read") ∷ (of.Token, codes "x") ∷ []
fields_of_a_grant = refl

pub full_is_a_right : SpellsRight (Some (codes "full")) Full
full_is_a_right = inl (refl, refl)

pub read_is_a_right : SpellsRight (Some (codes "read")) Read
read_is_a_right = inr (refl, refl)

-- letters have their case, and an empty text is no right
pub other_case_is_no_right : (right : Right) → ¬ (SpellsRight (Some (codes "Read")) right)
other_case_is_no_right right (inl (same, is)) = cc ((bytes_eq-Decides (codes "Read") (codes "full")).1 same)
other_case_is_no_right right (inr (same, is)) = cc ((bytes_eq-Decides (codes "Read") (codes "read")).1 same)

pub no_text_is_no_right : (right : Right) → ¬ (SpellsRight (Some []) right)
no_text_is_no_right right (inl (same, is)) = cc same
no_text_is_no_right right (inr (same, is)) = cc same

pub token_end : read (codes "token-end abc") ≡ is TokenEnd (codes "abc")
token_end = refl

pub digest_end : read (codes "token-end --digest 00ff") ≡ is (DigestEnd (codes "00ff")) []
digest_end = refl

pub network_add : read (codes "network-add acme office 10.8.0.0/24 vpn.acme.example 51820 key 250")
    ≡ is (NetworkAdd (record { tenant = codes "acme"; name = codes "office"; pool = codes "10.8.0.0/24"; host = codes "vpn.acme.example"; port = codes "51820"; key = codes "key"; capacity = codes "250" })) []
network_add = refl

pub network_end : read (codes "network-end acme office") ≡ is (NetworkEnd (codes "acme") (codes "office")) []
network_end = refl

-- a second blank makes a word more
pub two_blanks : read (codes "tenant-add  acme") ≡ None
two_blanks = refl

-- or an empty field
pub blank_at_the_end : read (codes "tenant-add ") ≡ is (TenantAdd []) []
blank_at_the_end = refl

pub blank_before : read (codes " tenant-add acme") ≡ None
blank_before = refl

pub empty_line : read [] ≡ None
empty_line = refl

pub unknown_word : read (codes "tenant-end acme") ≡ None
unknown_word = refl

pub other_case : read (codes "Tenant-Add acme") ≡ None
other_case = refl

pub field_more : read (codes "tenant-add acme office") ≡ None
field_more = refl

pub field_less : read (codes "network-end acme") ≡ None
field_less = refl

pub other_option : read (codes "token-end --token abc") ≡ None
other_option = refl

-- ---- readings

abbrev shows : Option (List ℕ) → Bool → Option ReadingAsked
shows tenant is_json = Some (Show tenant is_json)

pub status : reading_in_line (codes "status") ≡ Some Status
unfolding is_utf8 chars encode_utf8
status = refl

pub show_all : reading_in_line (codes "show") ≡ shows None false
unfolding is_utf8 chars encode_utf8
show_all = refl

pub show_all_as_json : reading_in_line (codes "show --json") ≡ shows None true
unfolding is_utf8 chars encode_utf8
show_all_as_json = refl

pub show_one : reading_in_line (codes "show acme") ≡ shows (Some (codes "acme")) false
unfolding is_utf8 chars encode_utf8
show_one = refl

pub show_one_as_json : reading_in_line (codes "show acme --json") ≡ shows (Some (codes "acme")) true
unfolding is_utf8 chars encode_utf8
show_one_as_json = refl

-- the option is the last word, so before another it is a name
pub option_before_a_tenant : reading_in_line (codes "show --json acme") ≡ None
unfolding is_utf8 chars encode_utf8
option_before_a_tenant = refl

pub option_as_a_tenant : reading_in_line (codes "show --json --json") ≡ shows (Some (codes "--json")) true
unfolding is_utf8 chars encode_utf8
option_as_a_tenant = refl

pub show_two : reading_in_line (codes "show acme globex") ≡ None
unfolding is_utf8 chars encode_utf8
show_two = refl

pub backup : reading_in_line (codes "backup /var/backups/register.db") ≡ Some (Backup (codes "/var/backups/register.db"))
unfolding is_utf8 chars encode_utf8
backup = refl

-- the file's form is not checked here
pub backup_to_an_option : reading_in_line (codes "backup --json") ≡ Some (Backup (codes "--json"))
unfolding is_utf8 chars encode_utf8
backup_to_an_option = refl

pub backup_without_a_file : reading_in_line (codes "backup") ≡ None
unfolding is_utf8 chars encode_utf8
backup_without_a_file = refl

pub backup_to_two_files : reading_in_line (codes "backup /a /b") ≡ None
unfolding is_utf8 chars encode_utf8
backup_to_two_files = refl

pub status_of_a_tenant : reading_in_line (codes "status acme") ≡ None
unfolding is_utf8 chars encode_utf8
status_of_a_tenant = refl

pub status_in_capitals : reading_in_line (codes "STATUS") ≡ None
unfolding is_utf8 chars encode_utf8
status_in_capitals = refl

-- a blank at the end makes an empty name
pub blank_behind_show : reading_in_line (codes "show ") ≡ shows (Some []) false
unfolding is_utf8 chars encode_utf8
blank_behind_show = refl

pub no_reading : reading_in_line [] ≡ None
unfolding is_utf8 chars encode_utf8
no_reading = refl

pub an_order : reading_in_line (codes "tenant-add acme") ≡ None
unfolding is_utf8 chars encode_utf8
an_order = refl

-- `show ` and the byte 255, which is no text
pub not_text : reading_in_line (codes "show " ++ 255 ∷ []) ≡ None
unfolding is_utf8 chars encode_utf8
not_text = refl

-- ---- the first line

pub up_to_the_newline : first_line (codes "tenant-add acme\ntenant-add other\n") ≡ Some (codes "tenant-add acme")
up_to_the_newline = refl

pub empty_first_line : first_line (codes "\ntenant-add acme\n") ≡ Some []
empty_first_line = refl

pub return_stays : first_line (codes "tenant-add acme\r\n") ≡ Some (codes "tenant-add acme\r")
return_stays = refl

pub no_newline : first_line (codes "tenant-add acme") ≡ None
no_newline = refl

pub nothing : first_line [] ≡ None
nothing = refl

-- 4,096 bytes with the newline, and one more
pub longest : first_line (repeat 4095 (codes "a") ++ codes "\n") ≡ Some (repeat 4095 (codes "a"))
longest = refl

pub too_long : first_line (repeat 4096 (codes "a") ++ codes "\n") ≡ None
too_long = refl

-- ---- writing

pub one_blank_between : line_text (codes "token-end" ∷ codes "abc" ∷ []) ≡ codes "token-end abc\n"
one_blank_between = refl

pub words_are_a_line : is_line (codes "token-end" ∷ codes "abc" ∷ []) ≡ true
words_are_a_line = refl

pub no_words : is_line [] ≡ false
no_words = refl

pub empty_word : is_line (codes "token-end" ∷ [] ∷ []) ≡ false
empty_word = refl

pub word_with_a_blank : is_line (codes "tenant-add" ∷ codes "a b" ∷ []) ≡ false
word_with_a_blank = refl

pub word_with_a_newline : is_line (codes "tenant-add" ∷ codes "a\nb" ∷ []) ≡ false
word_with_a_newline = refl

pub longest_is_a_line : is_line (repeat 4095 (codes "a") ∷ []) ≡ true
longest_is_a_line = refl

pub longer_is_none : is_line (repeat 4096 (codes "a") ∷ []) ≡ false
longer_is_none = refl

-- ---- sending

pub token_is_apart : may_be_sent (codes "token-grant" ∷ codes "acme" ∷ []) None false ≡ true
token_is_apart = refl

pub token_among_the_words : may_be_sent (codes "token-grant" ∷ codes "acme" ∷ codes "secret" ∷ []) None false ≡ false
token_among_the_words = refl

pub right_among_the_words : may_be_sent (codes "token-grant" ∷ codes "acme" ∷ codes "read" ∷ []) None false ≡ true
right_among_the_words = refl

pub token_behind_a_right : may_be_sent (codes "token-grant" ∷ codes "acme" ∷ codes "read" ∷ codes "secret" ∷ []) None false ≡ false
token_behind_a_right = refl

pub ended_token_among_the_words : may_be_sent (codes "token-end" ∷ codes "secret" ∷ []) None false ≡ false
ended_token_among_the_words = refl

pub digest_by_its_option : may_be_sent (codes "token-end" ∷ []) (Some (codes "00ff")) false ≡ true
digest_by_its_option = refl

pub option_of_another_word : may_be_sent (codes "tenant-add" ∷ []) None true ≡ false
option_of_another_word = refl

-- behind `--`, where it is a name
pub name_like_an_option : may_be_sent (codes "tenant-add" ∷ codes "--json" ∷ []) None false ≡ true
name_like_an_option = refl

pub option_for_a_tenant : may_be_sent (codes "show" ∷ codes "--json" ∷ []) None false ≡ false
option_for_a_tenant = refl

pub tenant_as_json : sent_line (codes "show" ∷ codes "acme" ∷ []) None true [] ≡ codes "show" ∷ codes "acme" ∷ codes "--json" ∷ []
tenant_as_json = refl

pub token_behind_the_words : sent_line (codes "token-grant" ∷ codes "acme" ∷ []) None false (codes "secret") ≡ codes "token-grant" ∷ codes "acme" ∷ codes "secret" ∷ []
token_behind_the_words = refl

pub token_behind_the_right : sent_line (codes "token-grant" ∷ codes "acme" ∷ codes "read" ∷ []) None false (codes "secret")
    ≡ codes "token-grant" ∷ codes "acme" ∷ codes "read" ∷ codes "secret" ∷ []
token_behind_the_right = refl

-- the token is read only where the words have none and name none by its digest
pub token_to_end : asks_token (codes "token-end" ∷ []) None ≡ true
token_to_end = refl

pub end_by_digest : asks_token (codes "token-end" ∷ []) (Some (codes "00ff")) ≡ false
end_by_digest = refl

pub grant_with_a_right : asks_token (codes "token-grant" ∷ codes "acme" ∷ codes "read" ∷ []) None ≡ true
grant_with_a_right = refl

pub another_word_of_one_field : asks_token (codes "tenant-add" ∷ codes "acme" ∷ []) None ≡ false
another_word_of_one_field = refl

pub another_word_of_two_fields : asks_token (codes "network-end" ∷ codes "acme" ∷ codes "office" ∷ []) None ≡ false
another_word_of_two_fields = refl

pub digest_behind_its_option : line_words (codes "token-end" ∷ []) (Some (codes "00ff")) false ≡ codes "token-end" ∷ codes "--digest" ∷ codes "00ff" ∷ []
digest_behind_its_option = refl

pub json_behind_all : line_words (codes "show" ∷ []) None true ≡ codes "show" ∷ codes "--json" ∷ []
json_behind_all = refl
