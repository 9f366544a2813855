-- Labels of peers.
use Rattle.std.specs.Prelude.{ℕ, ◌≤◌, List, All, length}
use Rattle.wgr_peers.specs.Limits.{max_label}

-- few characters of ASCII, from the blank to the tilde
pub record IsLabel (text : List ℕ) : Type 0 where
  pub short : length text ≤ max_label
  pub printable : All (λ b. (32 ≤ b) × (b ≤ 126)) text
