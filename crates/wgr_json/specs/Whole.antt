-- No number of an array is a float where none of its items has one.
use Rattle.std.proofs.Common.{◌≡◌, List, [], ◌∷◌, false, map, refl}
use Rattle.serde_json.specs.Data.{Data}
use Rattle.serde_json.specs.Written.{has_float}
use Rattle.wgr_json.specs.Values.{array_of}

pub array_whole : {A : Type 0} (show : A → Data) → ((x : A) → has_float (show x) ≡ false) → (xs : List A) → has_float (array_of (map show xs)) ≡ false
array_whole show whole [] = refl
array_whole show whole (x ∷ xs) = rw (whole x) (array_whole show whole xs)
