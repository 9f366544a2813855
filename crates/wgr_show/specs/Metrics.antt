-- Lines of a Prometheus text file.
use Rattle.std.specs.Prelude.{ℕ, List, ◌++◌, codes, decimal}

-- the name, a blank and the value in decimal
abbrev pub metric_line : List ℕ → ℕ → List ℕ
metric_line name value = name ++ codes " " ++ decimal value ++ codes "\n"
