-- The digest by which a token is known.
use Rattle.std.specs.Prelude.{ℕ, List, cond, Option, Some, None}
use Rattle.sha2.specs.Sha256.{sha256}
use Rattle.wgr_http.specs.Token.{token_test}

-- the SHA-256 of a token; other bytes have none
abbrev pub digest_of : List ℕ → Option (List ℕ)
digest_of token = cond (token_test token) (Some (sha256 token)) None
