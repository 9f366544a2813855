-- What the statements mean, whatever stands after the register's tables.
use Rattle.std.proofs.Common.{List, ℕ, codes, [], ◌∷◌, refl}
use Rattle.sqlite.specs.declared.types.Value.TheVariants.{Null, Text}
use Rattle.sqlite.specs.Command.TheVariants.{Update, Delete, Insert, Select}
use Rattle.sqlite.specs.Source.TheVariants.{Values}
use Rattle.sqlite.specs.Term.{Term, lit, col, op2}
use Rattle.sqlite.specs.Collation.TheVariants.{Binary}
use Rattle.sqlite_sql.specs.declared.ops.BinaryOp.TheVariants.{Compare}
use Rattle.sqlite_sql.specs.declared.ops.CompareOp.{CompareOp}
use Rattle.sqlite_sql.specs.declared.ops.CompareOp.TheVariants.{Eq, Ge, Le, Ne}
use Rattle.sqlite_tied.specs.Compute.{everything}
use Rattle.sqlite.specs.Listing.{understood}
use Rattle.wgr_sql.specs.Effects.{plain_query}
use Rattle.wgr_columns.specs.Layout.{Others}
use Rattle.wgr_columns.specs.Texts.{select_networks}
use Rattle.wgr_columns.proofs.Statements.{Asks, Means, equal_to, network_names, network_places, rising}
use Rattle.wgr_tables.proofs.FirstRow.{first_of}

-- ---- DELETE

abbrev pub drop_peer_text : List ℕ
drop_peer_text = codes "DELETE FROM peer WHERE network = ?1 AND id = ?2"

abbrev pub of_peer_row : List Term
of_peer_row = equal_to 2 0 ∷ equal_to 0 1 ∷ []

abbrev pub drop_allowed_text : List ℕ
drop_allowed_text = codes "DELETE FROM allowed WHERE network = ?1 AND peer = ?2"

abbrev pub of_peer : List Term
of_peer = equal_to 1 0 ∷ equal_to 6 1 ∷ []

abbrev pub drop_address_text : List ℕ
drop_address_text = codes "DELETE FROM allowed WHERE network = ?1 AND peer = ?2 AND kind <> 'route'"

abbrev pub of_address : List Term
of_address = equal_to 1 0 ∷ equal_to 6 1 ∷ op2 (Compare Ne Binary) (col 1 7) (lit (Text (codes "route"))) ∷ []

abbrev pub compared_to : CompareOp → ℕ → ℕ → Term
compared_to op place given = op2 (Compare op Binary) (col 1 place) (col 0 given)

abbrev pub drop_peer_range_text : List ℕ
drop_peer_range_text = codes "DELETE FROM peer WHERE network = ?1 AND id >= ?2 AND id <= ?3"

abbrev pub of_peer_range : List Term
of_peer_range = equal_to 2 0 ∷ compared_to Ge 0 1 ∷ compared_to Le 0 2 ∷ []

abbrev pub drop_address_range_text : List ℕ
drop_address_range_text = codes "DELETE FROM allowed WHERE network = ?1 AND peer >= ?2 AND peer <= ?3 AND kind <> 'route'"

abbrev pub of_address_range : List Term
of_address_range = equal_to 1 0 ∷ compared_to Ge 6 1 ∷ compared_to Le 6 2 ∷ op2 (Compare Ne Binary) (col 1 7) (lit (Text (codes "route"))) ∷ []

abbrev pub drop_route_text : List ℕ
drop_route_text = codes "DELETE FROM allowed WHERE network = ?1 AND family = ?2 AND lo = ?3 AND length = ?4 AND kind = 'route'"

abbrev pub of_route : List Term
of_route = equal_to 1 0 ∷ equal_to 2 1 ∷ equal_to 3 2 ∷ equal_to 4 3 ∷ op2 (Compare Eq Binary) (col 1 7) (lit (Text (codes "route"))) ∷ []

-- ---- INSERT

abbrev pub insert_peer_text : List ℕ
insert_peer_text = codes "INSERT INTO peer (id, network, key, label, until, keepalive, handshake, received, sent) VALUES (?1, ?2, ?3, ?4, ?5, ?6, ?7, ?8, ?9)"

abbrev pub peer_values : List Term
peer_values = col 0 0 ∷ lit Null ∷ col 0 1 ∷ col 0 2 ∷ col 0 3 ∷ col 0 4 ∷ col 0 5 ∷ col 0 6 ∷ col 0 7 ∷ col 0 8 ∷ []

abbrev pub insert_address_text : List ℕ
insert_address_text = codes "INSERT INTO allowed (network, family, lo, length, hi, peer, kind) VALUES (?1, ?2, ?3, ?4, ?5, ?6, 'address')"

abbrev pub allowed_values : List ℕ → List Term
allowed_values kind = lit Null ∷ col 0 0 ∷ col 0 1 ∷ col 0 2 ∷ col 0 3 ∷ col 0 4 ∷ col 0 5 ∷ lit (Text kind) ∷ []

abbrev pub insert_route_text : List ℕ
insert_route_text = codes "INSERT INTO allowed (network, family, lo, length, hi, peer, kind) VALUES (?1, ?2, ?3, ?4, ?5, ?6, 'route')"

-- ---- UPDATE

abbrev pub by_id : List Term
by_id = equal_to 0 0 ∷ []

abbrev pub next_terms : List Term
next_terms = lit Null ∷ col 1 2 ∷ col 1 3 ∷ col 1 4 ∷ col 1 5 ∷ col 1 6 ∷ col 1 7 ∷ col 1 8 ∷ col 1 9 ∷ col 1 10 ∷ col 0 1 ∷ []

abbrev pub set_next_text : List ℕ
set_next_text = codes "UPDATE network SET next = ?2 WHERE id = ?1"

-- ---- SELECT, with all places of a row

abbrev pub peers_text : List ℕ
peers_text = codes "SELECT id, NULL, network, key, label, until, keepalive, handshake, received, sent FROM peer WHERE network = ?1 ORDER BY id"

abbrev pub peer_places : List Term
peer_places = col 1 0 ∷ lit Null ∷ col 1 2 ∷ col 1 3 ∷ col 1 4 ∷ col 1 5 ∷ col 1 6 ∷ col 1 7 ∷ col 1 8 ∷ col 1 9 ∷ []

abbrev pub of_network : ℕ → List Term
of_network place = equal_to place 0 ∷ []

abbrev pub addresses_text : List ℕ
addresses_text = codes "SELECT NULL, network, family, lo, length, hi, peer, kind FROM allowed WHERE network = ?1 AND kind <> 'route'"

abbrev pub allowed_places : List Term
allowed_places = lit Null ∷ col 1 1 ∷ col 1 2 ∷ col 1 3 ∷ col 1 4 ∷ col 1 5 ∷ col 1 6 ∷ col 1 7 ∷ []

abbrev pub of_addresses : List Term
of_addresses = equal_to 1 0 ∷ op2 (Compare Ne Binary) (col 1 7) (lit (Text (codes "route"))) ∷ []

abbrev pub routes_text : List ℕ
routes_text = codes "SELECT NULL, network, family, lo, length, hi, peer, kind FROM allowed WHERE network = ?1 AND kind = 'route' ORDER BY family, lo, length"

abbrev pub of_routes : List Term
of_routes = equal_to 1 0 ∷ op2 (Compare Eq Binary) (col 1 7) (lit (Text (codes "route"))) ∷ []

abbrev pub first_route_text : List ℕ
first_route_text = codes "SELECT peer FROM allowed WHERE network = ?1 AND kind = 'route' LIMIT 1"

abbrev pub route_place : List Term
route_place = col 1 6 ∷ []

abbrev pub network_text : List ℕ
network_text = select_networks (codes " WHERE id = ?1")

module _ (others : Others) where
  pub drop_peer_means : Means others drop_peer_text (Delete 4 (record { lets = []; body = plain_query 8 of_peer_row (col 1 0 ∷ []) [] }))
  unfolding understood everything
  drop_peer_means = record { command_is = refl; plain = (refl, refl) }

  pub drop_allowed_means : Means others drop_allowed_text (Delete 5 (record { lets = []; body = plain_query 10 of_peer (col 1 0 ∷ []) [] }))
  unfolding understood everything
  drop_allowed_means = record { command_is = refl; plain = (refl, refl) }

  pub drop_address_means : Means others drop_address_text (Delete 5 (record { lets = []; body = plain_query 10 of_address (col 1 0 ∷ []) [] }))
  unfolding understood everything
  drop_address_means = record { command_is = refl; plain = (refl, refl) }

  pub drop_peer_range_means : Means others drop_peer_range_text (Delete 4 (record { lets = []; body = plain_query 8 of_peer_range (col 1 0 ∷ []) [] }))
  unfolding understood everything
  drop_peer_range_means = record { command_is = refl; plain = (refl, refl) }

  pub drop_address_range_means : Means others drop_address_range_text (Delete 5 (record { lets = []; body = plain_query 10 of_address_range (col 1 0 ∷ []) [] }))
  unfolding understood everything
  drop_address_range_means = record { command_is = refl; plain = (refl, refl) }

  pub drop_route_means : Means others drop_route_text (Delete 5 (record { lets = []; body = plain_query 10 of_route (col 1 0 ∷ []) [] }))
  unfolding understood everything
  drop_route_means = record { command_is = refl; plain = (refl, refl) }

  pub insert_peer_means : Means others insert_peer_text (Insert 4 (Values peer_values 10))
  unfolding understood everything
  insert_peer_means = record { command_is = refl; plain = (refl, refl) }

  pub insert_address_means : Means others insert_address_text (Insert 5 (Values (allowed_values (codes "address")) 8))
  unfolding understood everything
  insert_address_means = record { command_is = refl; plain = (refl, refl) }

  pub insert_route_means : Means others insert_route_text (Insert 5 (Values (allowed_values (codes "route")) 8))
  unfolding understood everything
  insert_route_means = record { command_is = refl; plain = (refl, refl) }

  pub set_next_means : Means others set_next_text (Update 3 (record { lets = []; body = plain_query 5 by_id (col 1 0 ∷ col 1 0 ∷ next_terms) [] }))
  unfolding understood everything
  set_next_means = record { command_is = refl; plain = (refl, refl) }

  pub peers_asks : Asks others peers_text (Select (record { lets = []; body = plain_query 8 (of_network 2) peer_places (rising 0 ∷ []) }) (codes "id" ∷ codes "NULL" ∷ codes "network" ∷ codes "key" ∷ codes "label" ∷ codes "until" ∷ codes "keepalive" ∷ codes "handshake" ∷ codes "received" ∷ codes "sent" ∷ []))
  unfolding understood everything
  peers_asks = record { means = record { command_is = refl; plain = (refl, refl) }; unlisted = refl }

  pub addresses_asks : Asks others addresses_text (Select (record { lets = []; body = plain_query 10 of_addresses allowed_places [] }) (codes "NULL" ∷ codes "network" ∷ codes "family" ∷ codes "lo" ∷ codes "length" ∷ codes "hi" ∷ codes "peer" ∷ codes "kind" ∷ []))
  unfolding understood everything
  addresses_asks = record { means = record { command_is = refl; plain = (refl, refl) }; unlisted = refl }

  pub routes_asks : Asks others routes_text (Select (record { lets = []; body = plain_query 10 of_routes allowed_places (rising 2 ∷ rising 3 ∷ rising 4 ∷ []) }) (codes "NULL" ∷ codes "network" ∷ codes "family" ∷ codes "lo" ∷ codes "length" ∷ codes "hi" ∷ codes "peer" ∷ codes "kind" ∷ []))
  unfolding understood everything
  routes_asks = record { means = record { command_is = refl; plain = (refl, refl) }; unlisted = refl }

  pub first_route_asks : Asks others first_route_text (Select (record { lets = []; body = first_of 10 of_routes route_place }) (codes "peer" ∷ []))
  unfolding understood everything
  first_route_asks = record { means = record { command_is = refl; plain = (refl, refl) }; unlisted = refl }

  pub network_asks : Asks others network_text (Select (record { lets = []; body = plain_query 5 by_id network_places [] }) network_names)
  unfolding understood everything
  network_asks = record { means = record { command_is = refl; plain = (refl, refl) }; unlisted = refl }
