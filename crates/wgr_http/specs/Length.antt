-- The value of Content-Length (RFC 9110 section 8.6).
use Rattle.std.specs.Prelude.{ℕ, List, length, cond, ◌&&◌, nat_lt, nat_le, Option, Some, None}
use Rattle.std.specs.List.{list_all}
use Rattle.std.specs.Char.{is_ascii_digit}
use Rattle.std.specs.Str.Parse.{digits_value}

abbrev pub max_body : ℕ
max_body = 2097152

-- the number that 1 to 20 decimal digits represent
abbrev pub length_value : List ℕ → Option ℕ
length_value text =
    cond (nat_lt 0 (length text) && nat_le (length text) 20 && list_all is_ascii_digit text) (Some (digits_value 10 text)) None
