-- How many of the most recently used values stay in memory.
use Rattle.std.specs.Prelude.{ℕ}

-- at most so many networks, and at most so many servers' files, of all tenants together
abbrev pub max_recent : ℕ
max_recent = 64
