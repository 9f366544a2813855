-- The method by which a target was found is one of its path.
use Rattle.std.proofs.Common.{◌≡◌, ℕ, List, [], ◌∷◌, ◌⊎◌, inl, inr, Bool, true, false, cond, ◌||◌, Option, Some, None, Ok, Err, codes, refl, sym, ap, ◌∙◌}
use Rattle.std.specs.Prelude.{option_map, option_and_then, bytes_eq}
use Rattle.std.specs.List.{list_any}
use Rattle.std.proofs.lemmas.Slice.Eq.{bytes_eq-Decides}
use Rattle.matchit.specs.Router.{RouteOf}
use Rattle.matchit.specs.Seek.{first}
use Rattle.wgr_request.specs.Paths.{has_method, methods, route_rows}
use Rattle.wgr_request.specs.Target.{TargetValue, PathParts, as_ascii, at_route, both, form_of, found_at, peer_number_of, numbered, parts_at, resolved, target_of, with_method}
use Rattle.wgr_request.specs.Target as target
use Rattle.wgr_request.specs.declared.fault.RequestFault.{RequestFault}
use Rattle.wgr_request.specs.declared.fault.RequestFault.TheVariants.{WrongMethod}
use Rattle.wgr_request.specs.declared.paths.Methods.TheVariants.{Get, GetOrPost, Post, Delete}
use Rattle.wgr_request.specs.declared.paths.Place.{Place}
use Rattle.wgr_request.specs.declared.paths.Place.TheVariants as place

-- ---- options

mapped : {A B : Type 0} (f : A → B) (o : Option A) (t : B) → option_map f o ≡ Some t → (x : A) × (t ≡ f x)
mapped f None t e = cc e
mapped f (Some x) t e = (x, cc e)

bound : {A B : Type 0} (f : A → Option B) (o : Option A) (t : B) → option_and_then f o ≡ Some t → (x : A) × (f x ≡ Some t)
bound f None t e = cc e
bound f (Some x) t e = (x, e)

paired : {A B C : Type 0} (make : A → B → C) (a : Option A) (b : Option B) (t : C) → both make a b ≡ Some t → (x : A) × (y : B) × (t ≡ make x y)
paired make None b t e = cc e
paired make (Some x) b t e = let is = mapped (make x) b t e in (x, is.0, is.1)

-- ---- where a target stands

abbrev pub place_of : TargetValue → Place
place_of target.networks = place.Networks
place_of (target.peers name) = place.Peers
place_of (target.peer name number) = place.Peer
place_of (target.address name number) = place.Address
place_of (target.routes name number) = place.Routes
place_of (target.lease name number) = place.Lease
place_of (target.peer_file name number form) = place.PeerFile
place_of (target.unroute name) = place.Unroute
place_of (target.dump name) = place.Dump
place_of (target.owner name text) = place.Owner
place_of (target.server_file name form) = place.ServerFile

placed : (at : Place) (p : PathParts) (t : TargetValue) → target_of at p ≡ Some t → place_of t ≡ at
placed place.Networks p t e = let is : t ≡ target.networks = cc e in ap place_of is
placed place.Peers p t e = ap place_of (mapped target.peers p.name t e).1
placed place.Peer p t e = ap place_of (paired target.peer p.name (option_and_then peer_number_of p.number) t e).2
placed place.Address p t e = ap place_of (paired target.address p.name (option_and_then peer_number_of p.number) t e).2
placed place.Routes p t e = ap place_of (paired target.routes p.name (option_and_then peer_number_of p.number) t e).2
placed place.Lease p t e = ap place_of (paired target.lease p.name (option_and_then peer_number_of p.number) t e).2
placed place.PeerFile p t e =
    let form = bound (λ form. numbered (λ name number. target.peer_file name number form) p) (option_and_then form_of p.form) t e in
    ap place_of (paired (λ name number. target.peer_file name number form.0) p.name (option_and_then peer_number_of p.number) t form.1).2
placed place.Unroute p t e = ap place_of (mapped target.unroute p.name t e).1
placed place.Dump p t e = ap place_of (mapped target.dump p.name t e).1
placed place.Owner p t e = ap place_of (paired target.owner p.name p.address t e).2
placed place.ServerFile p t e = ap place_of (paired target.server_file p.name (option_and_then form_of p.form) t e).2

some_if : {A : Type 0} (f : TargetValue → A) (o : Option TargetValue) (x : A) → option_map f o ≡ Some x → (t : TargetValue) × (o ≡ Some t) × (x ≡ f t)
some_if f None x e = cc e
some_if f (Some t) x e = (t, refl, cc e)

placed_at : (path : List ℕ) (r : Option (RouteOf Place)) (found : Place × TargetValue) → at_route path r ≡ Some found → place_of found.1 ≡ found.0
placed_at path None found e = cc e
placed_at path (Some r) found e =
    let is = some_if (λ t. (r.value, t)) (target_of r.value (parts_at path r)) found e in
    ap (λ x. place_of x.1) is.2 ∙ placed r.value (parts_at path r) is.0 is.1 ∙ ap (λ x. x.0) (sym is.2)

placed_of : (path : List ℕ) (found : Place × TargetValue) → found_at path ≡ Some found → place_of found.1 ≡ found.0
placed_of path found e =
    let at = bound (λ p. at_route p (first route_rows p)) (as_ascii path) found e in
    placed_at at.0 (first route_rows at.0) found at.1

ok_if : (b : Bool) (x t : TargetValue) (why : RequestFault) → cond b (Ok x) (Err why) ≡ Ok t → (b ≡ true) × (x ≡ t)
ok_if true x t why e = (refl, cc e)
ok_if false x t why e = cc e

found_by : (method : List ℕ) (f : Option (Place × TargetValue)) (t : TargetValue) → with_method method f ≡ Ok t
    → (found : Place × TargetValue) × (f ≡ Some found) × (has_method (methods found.0) method ≡ true) × (found.1 ≡ t)
found_by method None t e = cc e
found_by method (Some found) t e =
    let is = ok_if (has_method (methods found.0) method) found.1 t (WrongMethod (methods found.0)) e in
    (found, refl, is.0, is.1)

-- its method is one of those of its path
pub by_its_method : (method path : List ℕ) (t : TargetValue) → resolved method path ≡ Ok t → has_method (methods (place_of t)) method ≡ true
by_its_method method path t e =
    let is = found_by method (found_at path) t e in
    let at : place_of t ≡ is.0.0 = ap place_of (sym is.3) ∙ placed_of path is.0 is.1 in
    ap (λ p. has_method (methods p) method) at ∙ is.2

-- ---- methods

either : (a b : Bool) → (a || b) ≡ true → (a ≡ true) ⊎ (b ≡ true)
either true b e = inl refl
either false b e = inr e

one_name : (method name : List ℕ) → list_any (bytes_eq method) (name ∷ []) ≡ true → method ≡ name
one_name method name e = elim (either (bytes_eq method name) false e) [
  | inl same ↦ (bytes_eq-Decides method name).0 same
  | inr none ↦ cc none
]

pub is_get : (method : List ℕ) → has_method Get method ≡ true → method ≡ codes "GET"
is_get method e = one_name method (codes "GET") e

pub is_post : (method : List ℕ) → has_method Post method ≡ true → method ≡ codes "POST"
is_post method e = one_name method (codes "POST") e

pub is_delete : (method : List ℕ) → has_method Delete method ≡ true → method ≡ codes "DELETE"
is_delete method e = one_name method (codes "DELETE") e

pub is_get_or_post : (method : List ℕ) → has_method GetOrPost method ≡ true → (method ≡ codes "GET") ⊎ (method ≡ codes "POST")
is_get_or_post method e = elim (either (bytes_eq method (codes "GET")) (list_any (bytes_eq method) (codes "POST" ∷ [])) e) [
  | inl same ↦ inl ((bytes_eq-Decides method (codes "GET")).0 same)
  | inr other ↦ inr (one_name method (codes "POST") other)
]
