-- The names of an object's members, and those that are listed.
use Rattle.std.proofs.Common.{◌≡◌, ℕ, List, [], ◌∷◌, Bool, ◌||◌, map, refl, ap, String, string_bytes, Global}
use Rattle.std.specs.Borrow.{Bor}
use Rattle.std.specs.Prelude.{bytes_eq}
use Rattle.std.specs.List.{list_all, list_any}
use Rattle.serde_json.specs.View.{members_view}
use Rattle.serde_json.specs.declared.value.Value.{Value}
use Rattle.wgr_request.specs.Bodies.{names}

same_any : (name : List ℕ) (listed : List (Bor (List ℕ))) → list_any (λ n. bytes_eq name n.now) listed ≡ list_any (λ other. bytes_eq name other) (map (λ n. n.now) listed)
same_any name [] = refl
same_any name (n ∷ listed) = ap (λ (b : Bool). bytes_eq name n.now || b) (same_any name listed)

pub same_names : (listed : List (Bor (List ℕ))) (es : List (String Global × Value))
    → list_all (λ k. list_any (λ n. bytes_eq (string_bytes k) n.now) listed) (map (λ (m : String Global × Value). m.0) es)
    ≡ list_all (λ name. list_any (λ other. bytes_eq name other) (map (λ n. n.now) listed)) (names (members_view es))
same_names listed [] = refl
same_names listed (e ∷ es) = rw (same_any (string_bytes e.0) listed, same_names listed es) refl
