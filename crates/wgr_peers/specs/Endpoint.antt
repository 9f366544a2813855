-- The text of an endpoint.
use Rattle.std.specs.Prelude.{ℕ, ◌==◌, List, ◌++◌, cond, codes, decimal}
use Rattle.std.specs.List.{list_any}

-- a host before a port (RFC 3986, section 3.2.2): one with a colon (58) is an IPv6 address, and is in brackets
abbrev pub bracketed : List ℕ → List ℕ
bracketed host = cond (list_any (λ b. b == 58) host) (codes "[" ++ host ++ codes "]") host

-- host and port
abbrev pub endpoint_text : List ℕ → ℕ → List ℕ
endpoint_text host port = bracketed host ++ codes ":" ++ decimal port
