-- The paths that are served, and the methods of each.
use Rattle.std.specs.Prelude.{ℕ, Bool, List, [], ◌∷◌, ◌++◌, codes, bytes_eq, Result, Ok, Err}
use Rattle.std.specs.List.{list_any}
use Rattle.matchit.specs.Rows.{RowsOf}
use Rattle.matchit.specs.Order.{placed}
use Rattle.matchit.specs.Route.{Scan, parse_route}
use Rattle.matchit.specs.Router.{RouteOf, route_from}
use Rattle.matchit.specs.declared.error.InsertError.{InsertError}
use Rattle.wgr_request.specs.declared.paths.Methods.{Methods}
use Rattle.wgr_request.specs.declared.paths.Methods.TheVariants.{Get, GetOrPost, Post, Delete}
use Rattle.wgr_request.specs.declared.paths.Place.{Place}
use Rattle.wgr_request.specs.declared.paths.Place.TheVariants.{Networks, Peers, Peer, Address, Routes, Lease, PeerFile, Unroute, Dump, Owner, ServerFile}

-- a path, what is at it, and its methods
pub record Row : Type 0 where
  pub path : List ℕ
  pub place : Place
  pub methods : Methods

abbrev at : List ℕ → Place → Methods → Row
at path place methods = record { path = path; place = place; methods = methods }

-- all paths; a part in braces matches one or more bytes without `/`
abbrev pub row : Place → Row
row Networks = at (codes "/networks") Networks Get
row Peers = at (codes "/networks/{name}/peers") Peers GetOrPost
row Peer = at (codes "/networks/{name}/peers/{number}") Peer Delete
row Address = at (codes "/networks/{name}/peers/{number}/address") Address Post
row Routes = at (codes "/networks/{name}/peers/{number}/routes") Routes Post
row Lease = at (codes "/networks/{name}/peers/{number}/lease") Lease Post
row PeerFile = at (codes "/networks/{name}/peers/{number}/file/{form}") PeerFile Get
row Unroute = at (codes "/networks/{name}/unroute") Unroute Post
row Dump = at (codes "/networks/{name}/dump") Dump Post
row Owner = at (codes "/networks/{name}/owner/{address}") Owner Get
row ServerFile = at (codes "/networks/{name}/server/{form}") ServerFile Get

abbrev pub methods : Place → Methods
methods place = (row place).methods

-- the names of methods, in the order in which a reply lists them
abbrev pub method_names : Methods → List (List ℕ)
method_names Get = codes "GET" ∷ []
method_names GetOrPost = codes "GET" ∷ codes "POST" ∷ []
method_names Post = codes "POST" ∷ []
method_names Delete = codes "DELETE" ∷ []

-- methods are compared exactly (RFC 9110 section 9.1)
abbrev pub has_method : Methods → List ℕ → Bool
has_method methods name = list_any (bytes_eq name) (method_names methods)

abbrev pub joined_names : List (List ℕ) → List ℕ
joined_names [] = []
joined_names (name ∷ []) = name
joined_names (name ∷ other ∷ names) = name ++ codes ", " ++ joined_names (other ∷ names)

-- the value of the field Allow (RFC 9110 section 10.2.1)
abbrev pub allow_text : Methods → List ℕ
allow_text methods = joined_names (method_names methods)

-- ---- the router

-- the rows with one more route, if its text reads as one
abbrev pub with_route : Result Scan InsertError → Place → RowsOf (RouteOf Place) → RowsOf (RouteOf Place)
with_route (Ok s) place rows = placed ((route_from s place).pattern, route_from s place) rows
with_route (Err e) place rows = rows

abbrev pub with_rows : List Place → RowsOf (RouteOf Place) → RowsOf (RouteOf Place)
with_rows [] rows = rows
with_rows (place ∷ places) rows = with_rows places (with_route (parse_route (row place).path) place rows)

-- the routes of all paths, as a router keeps them
unfoldable pub route_rows : RowsOf (RouteOf Place)
route_rows = with_rows (Networks ∷ Peers ∷ Peer ∷ Address ∷ Routes ∷ Lease ∷ PeerFile ∷ Unroute ∷ Dump ∷ Owner ∷ ServerFile ∷ []) []
