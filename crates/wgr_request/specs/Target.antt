-- What the target of a request names. The whole target is the path.
use Rattle.std.specs.Prelude.{ℕ, Bool, ◌&&◌, nat_le, nat_lt, cond, List, codes, bytes_eq, decimal, Option, Some, None, option_map, option_and_then, Result, Ok, Err}
use Rattle.std.specs.List.{list_all}
use Rattle.std.specs.Str.Parse.{digits_value}
use Rattle.matchit.specs.Params.{AllText, named, walk}
use Rattle.matchit.specs.Router.{RouteOf}
use Rattle.matchit.specs.Seek.{first}
use Rattle.wgr_core.specs.declared.form.Form.{Form}
use Rattle.wgr_core.specs.declared.form.Form.TheVariants.{Wg, Quick}
use Rattle.wgr_request.specs.Paths.{has_method, methods, route_rows}
use Rattle.wgr_request.specs.declared.fault.RequestFault.{RequestFault}
use Rattle.wgr_request.specs.declared.fault.RequestFault.TheVariants.{NoSuchPath, WrongMethod}
use Rattle.wgr_request.specs.declared.paths.Place.{Place}
use Rattle.wgr_request.specs.declared.paths.Place.TheVariants as place
use Rattle.wgr_request.specs.declared.target.Found.{Found}
use Rattle.wgr_request.specs.declared.target.PathTexts.{PathTexts}
use Rattle.wgr_request.specs.declared.target.Target.{Target}
use Rattle.wgr_request.specs.declared.target.Target.TheVariants as target
use Rattle.wgr_peers.specs.Limits.{max_number}

pub data TargetValue : Type 0 where
  networks : TargetValue
  peers : (name : List ℕ) → TargetValue
  peer : (name : List ℕ) (number : ℕ) → TargetValue
  address : (name : List ℕ) (number : ℕ) → TargetValue
  routes : (name : List ℕ) (number : ℕ) → TargetValue
  lease : (name : List ℕ) (number : ℕ) → TargetValue
  peer_file : (name : List ℕ) (number : ℕ) (form : Form) → TargetValue
  unroute : (name : List ℕ) → TargetValue
  dump : (name : List ℕ) → TargetValue
  owner : (name address : List ℕ) → TargetValue
  server_file : (name : List ℕ) (form : Form) → TargetValue

abbrev pub target_view : Target → TargetValue
target_view target.Networks = networks
target_view (target.Peers name) = peers name.now
target_view (target.Peer name number) = peer name.now number
target_view (target.Address name number) = address name.now number
target_view (target.Routes name number) = routes name.now number
target_view (target.Lease name number) = lease name.now number
target_view (target.PeerFile name number form) = peer_file name.now number form
target_view (target.Unroute name) = unroute name.now
target_view (target.Dump name) = dump name.now
target_view (target.Owner name text) = owner name.now text.now
target_view (target.ServerFile name form) = server_file name.now form

abbrev pub found_view : Found → Place × TargetValue
found_view f = (f.place, target_view f.target)

-- the parts of a path that match names in braces
pub record PathParts : Type 0 where
  pub name : Option (List ℕ)
  pub number : Option (List ℕ)
  pub form : Option (List ℕ)
  pub address : Option (List ℕ)

abbrev pub parts_view : PathTexts → PathParts
parts_view p = record {
  name = option_map (λ t. t.now) p.name;
  number = option_map (λ t. t.now) p.number;
  form = option_map (λ t. t.now) p.form;
  address = option_map (λ t. t.now) p.address;
}

-- those of a path, by matchit's choice
abbrev pub parts_in : List ℕ → List ℕ → List ℕ → List (ℕ × ℕ) → PathParts
parts_in pattern text path names =
    let taken = walk pattern text path names 0 0 in
    record { name = named (codes "name") taken; number = named (codes "number") taken; form = named (codes "form") taken; address = named (codes "address") taken }

abbrev pub ArePartsTexts : List ℕ → List ℕ → List ℕ → List (ℕ × ℕ) → Type 0
ArePartsTexts pattern text path names = AllText (walk pattern text path names 0 0)

abbrev pub parts_at : List ℕ → RouteOf Place → PathParts
parts_at path r = parts_in r.pattern r.text path r.names

-- the number of a peer: 1 to 1,000,000 in decimal, without leading zeros
abbrev pub peer_number_of : List ℕ → Option ℕ
peer_number_of text =
    let n = digits_value 10 text in
    cond (nat_le 1 n && nat_le n max_number && bytes_eq text (decimal n)) (Some n) None

abbrev pub form_of : List ℕ → Option Form
form_of text = cond (bytes_eq text (codes "wg")) (Some Wg) (cond (bytes_eq text (codes "quick")) (Some Quick) None)

abbrev pub both : {A B C : Type 0} → (A → B → C) → Option A → Option B → Option C
both make None b = None
both make (Some a) b = option_map (make a) b

abbrev pub numbered : (List ℕ → ℕ → TargetValue) → PathParts → Option TargetValue
numbered make p = both make p.name (option_and_then peer_number_of p.number)

-- what the parts name, if the number and the form are of their forms
abbrev pub target_of : Place → PathParts → Option TargetValue
target_of place.Networks p = Some networks
target_of place.Peers p = option_map peers p.name
target_of place.Peer p = numbered peer p
target_of place.Address p = numbered address p
target_of place.Routes p = numbered routes p
target_of place.Lease p = numbered lease p
target_of place.PeerFile p = option_and_then (λ form. numbered (λ name number. peer_file name number form) p) (option_and_then form_of p.form)
target_of place.Unroute p = option_map unroute p.name
target_of place.Dump p = option_map dump p.name
target_of place.Owner p = both owner p.name p.address
target_of place.ServerFile p = both server_file p.name (option_and_then form_of p.form)

abbrev pub all_ascii : List ℕ → Bool
all_ascii path = list_all (λ b. nat_lt b 128) path

abbrev pub as_ascii : List ℕ → Option (List ℕ)
as_ascii path = cond (all_ascii path) (Some path) None

abbrev pub at_route : List ℕ → Option (RouteOf Place) → Option (Place × TargetValue)
at_route path None = None
at_route path (Some r) = option_map (λ t. (r.value, t)) (target_of r.value (parts_at path r))

-- what a target names, and where; a byte above 0x7F is in no path that is served
abbrev pub found_at : List ℕ → Option (Place × TargetValue)
found_at path = option_and_then (λ p. at_route p (first route_rows p)) (as_ascii path)

abbrev pub resolved_view : Result Target RequestFault → Result TargetValue RequestFault
resolved_view (Ok t) = Ok (target_view t)
resolved_view (Err why) = Err why

-- the path is reported first, then the method
abbrev pub with_method : List ℕ → Option (Place × TargetValue) → Result TargetValue RequestFault
with_method method None = Err NoSuchPath
with_method method (Some found) = cond (has_method (methods found.0) method) (Ok found.1) (Err (WrongMethod (methods found.0)))

-- what a target names for a method, or why it names nothing
abbrev pub resolved : List ℕ → List ℕ → Result TargetValue RequestFault
resolved method path = with_method method (found_at path)
