-- The token of a request, in the scheme Bearer (RFC 6750 section 2.1).
use Rattle.std.specs.Prelude.{ℕ, List, [], ◌∷◌, length, take, drop, slice_index, cond, ◌==◌, ◌&&◌, Bool, nat_lt, nat_le, codes, Option, Some, None}
use Rattle.std.specs.List.{list_all}
use Rattle.std.specs.Str.{str_eq_ignore_ascii_case}

-- 1 to 128 bytes from '!' to '~'
abbrev pub token_test : List ℕ → Bool
token_test text = nat_lt 0 (length text) && nat_le (length text) 128 && list_all (λ b. nat_le 33 b && nat_le b 126) text

-- the bytes from the first that isn't a space
abbrev pub skip_spaces : List ℕ → List ℕ
skip_spaces [] = []
skip_spaces (b ∷ bs) = cond (b == 32) (skip_spaces bs) (b ∷ bs)

abbrev pub token_if : List ℕ → Option (List ℕ)
token_if text = cond (token_test text) (Some text) None

-- the token of credentials: the case-insensitive scheme, one or more spaces, and the token
abbrev pub bearer_token : List ℕ → Option (List ℕ)
bearer_token credentials =
    cond (nat_le 8 (length credentials) && str_eq_ignore_ascii_case (take 6 credentials) (codes "bearer") && (slice_index credentials 6 == 32))
    (token_if (skip_spaces (drop 7 credentials))) None
