-- Arrays that are sent item by item.
use Rattle.std.proofs.Common.{◌≡◌, suc, List, [], ◌∷◌, length, map, refl, ap}
use Rattle.serde_json.specs.Data.{Data}
use Rattle.serde_json.specs.Events.{items_len}
use Rattle.serde_json.specs.View.{items_of}

pub items_shown : {A : Type 0} (show : A → Data) (xs : List A) → items_len (items_of (map show xs)) ≡ length xs
items_shown show [] = refl
items_shown show (x ∷ xs) = ap suc (items_shown show xs)
