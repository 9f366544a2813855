-- When a change of the register fails: the database refuses one of its statements.
use Rattle.std.specs.Prelude.{◌≡◌, ◌⊎◌, ◌+◌, ℕ, pos, IsTrue, List, [], ◌∷◌, length, codes, None, Result, IfErr}
use Rattle.sqlite_value.specs.Order.{Row}
use Rattle.sqlite.specs.declared.types.Value.{Value}
use Rattle.sqlite.specs.declared.types.Value.TheVariants.{Int, Text, Blob}
use Rattle.sqlite.specs.Effect.{Database}
use Rattle.sqlite.specs.State.{State}
use Rattle.sqlite.specs.Values.{bound}
use Rattle.wgr_text.specs.Prefix.{PrefixValue}
use Rattle.wgr_peers.specs.declared.peer.Peer.{Peer}
use Rattle.wgr_core.specs.declared.change.Change.{Change}
use Rattle.wgr_model.specs.Rows.{AllowedRow, PeerRow, Tables, address_row, family_number, peer_id, peer_row, route_row}
use Rattle.wgr_sql.specs.Causes.{HasCauseOr, Refuses}
use Rattle.wgr_sql.specs.Steps.{Each}
use Rattle.wgr_sql.specs.declared.fault.Fault.{Fault}
use Rattle.wgr_columns.specs.Decode.{IsRegister, bytes_of, tables_of}
use Rattle.wgr_columns.specs.Parameters.{status_value}
use Rattle.wgr_tables.specs.TableSteps.{AreFrom, PeerGoes, PeerLeaves, PeerComes, PeerRowComes, PeerRowsGo, PeersGo, PeersPut, RouteComes, RouteGoes, RoutePuts}

-- on a register of these rows
abbrev pub IsStatementRefused : List ℕ → Row → Tables → Type 0
IsStatementRefused text params t = (db : Database) × IsRegister db × (tables_of db ≡ t) × Refuses None db text params

-- If a step of a transaction fails, that has a cause, or the step stops so at the rows that it began with.
abbrev pub FailsBy : {X : Type 0} → (Tables → Type 0) → State → State → Result X Fault → Type 0
FailsBy stops old new r = IsTrue old.in_transaction → (IsTrue old.is_open → IsRegister old.now) → IfErr r (HasCauseOr (stops (tables_of old.now)) old new)

-- the first of two steps stops, or the second stops on the rows that the first leaves
abbrev pub OneOfTwo : (Tables → Type 0) → (Tables → Tables → Type 0) → (Tables → Type 0) → Tables → Type 0
OneOfTwo first step second t = first t ⊎ ((u : Tables) × step t u × second u)

-- the same for a list of steps: one of them stops
abbrev pub OneOfEach : {X : Type 0} → (X → Tables → Tables → Type 0) → (X → Tables → Type 0) → List X → Tables → Type 0
OneOfEach step stops [] t = ⊥
OneOfEach step stops (x ∷ xs) t = stops x t ⊎ ((u : Tables) × step x t u × OneOfEach step stops xs u)

-- ---- statements

abbrev pub number : ℕ → Value
number n = Int (pos n)

abbrev pub PeerRowStays : ℕ → ℕ → Tables → Type 0
PeerRowStays network id = IsStatementRefused (codes "DELETE FROM peer WHERE network = ?1 AND id = ?2") (number network ∷ number id ∷ [])

abbrev pub AllowedStays : ℕ → ℕ → Tables → Type 0
AllowedStays network id = IsStatementRefused (codes "DELETE FROM allowed WHERE network = ?1 AND peer = ?2") (number network ∷ number id ∷ [])

abbrev pub AddressStays : ℕ → ℕ → Tables → Type 0
AddressStays network id = IsStatementRefused (codes "DELETE FROM allowed WHERE network = ?1 AND peer = ?2 AND kind <> 'route'") (number network ∷ number id ∷ [])

abbrev pub PeerRangeStays : ℕ → ℕ → ℕ → Tables → Type 0
PeerRangeStays network first last = IsStatementRefused (codes "DELETE FROM peer WHERE network = ?1 AND id >= ?2 AND id <= ?3") (number network ∷ number first ∷ number last ∷ [])

abbrev pub AddressRangeStays : ℕ → ℕ → ℕ → Tables → Type 0
AddressRangeStays network first last = IsStatementRefused (codes "DELETE FROM allowed WHERE network = ?1 AND peer >= ?2 AND peer <= ?3 AND kind <> 'route'") (number network ∷ number first ∷ number last ∷ [])

abbrev pub RouteStays : ℕ → PrefixValue → Tables → Type 0
RouteStays network p = IsStatementRefused (codes "DELETE FROM allowed WHERE network = ?1 AND family = ?2 AND lo = ?3 AND length = ?4 AND kind = 'route'")
    (number network ∷ number (family_number p.address.family) ∷ Blob (bytes_of p.address.number) ∷ number p.length ∷ [])

abbrev pub NextStays : ℕ → ℕ → Tables → Type 0
NextStays network next = IsStatementRefused (codes "UPDATE network SET next = ?2 WHERE id = ?1") (number network ∷ number next ∷ [])

abbrev pub PeerRowStaysOut : PeerRow → Tables → Type 0
PeerRowStaysOut p = IsStatementRefused (codes "INSERT INTO peer (id, network, key, label, until, keepalive, handshake, received, sent) VALUES (?1, ?2, ?3, ?4, ?5, ?6, ?7, ?8, ?9)")
    (number p.id ∷ number p.network ∷ Blob p.key.0 ∷ Text p.label ∷ number p.until ∷ number p.keepalive
    ∷ bound (status_value (λ s. s.handshake) p.status ∷ status_value (λ s. s.received) p.status ∷ status_value (λ s. s.sent) p.status ∷ []))

abbrev pub allowed_parameters : AllowedRow → Row
allowed_parameters a = number a.network ∷ number (family_number a.prefix.address.family) ∷ Blob (bytes_of a.prefix.address.number) ∷ number a.prefix.length ∷ Blob (bytes_of a.last.number) ∷ number a.peer ∷ []

abbrev pub AddressStaysOut : AllowedRow → Tables → Type 0
AddressStaysOut a = IsStatementRefused (codes "INSERT INTO allowed (network, family, lo, length, hi, peer, kind) VALUES (?1, ?2, ?3, ?4, ?5, ?6, 'address')") (allowed_parameters a)

abbrev pub RouteStaysOut : ℕ → PrefixValue × ℕ → Tables → Type 0
RouteStaysOut network r = IsStatementRefused (codes "INSERT INTO allowed (network, family, lo, length, hi, peer, kind) VALUES (?1, ?2, ?3, ?4, ?5, ?6, 'route')") (allowed_parameters (route_row network r))

-- ---- steps made of these statements

abbrev pub PeerStays : ℕ → ℕ → Tables → Type 0
PeerStays network k = OneOfTwo (PeerRowStays network (peer_id network k)) (PeerGoes network (peer_id network k)) (AllowedStays network (peer_id network k))

abbrev pub PeerRowsStay : ℕ → ℕ → Tables → Type 0
PeerRowsStay network k = OneOfTwo (PeerRowStays network (peer_id network k)) (PeerGoes network (peer_id network k)) (AddressStays network (peer_id network k))

abbrev pub RangeStays : ℕ → ℕ → ℕ → Tables → Type 0
RangeStays network first last = OneOfTwo (PeerRangeStays network (peer_id network first) (peer_id network last)) (PeersGo network (peer_id network first) (peer_id network last)) (AddressRangeStays network (peer_id network first) (peer_id network last))

-- the rows of these peers are deleted one by one, or by a range if their numbers are consecutive
abbrev pub AllRowsStay : ℕ → List Peer → Tables → Type 0
AllRowsStay network ps t =
    OneOfEach (λ p. PeerRowsGo network p.number) (λ p. PeerRowsStay network p.number) ps t
    ⊎ ((first : ℕ) × (last : ℕ) × AreFrom first ps × (last + 1 ≡ first + length ps) × RangeStays network first last t)

abbrev pub PeerStaysOut : ℕ → Peer → Tables → Type 0
PeerStaysOut network p = OneOfTwo (PeerRowStaysOut (peer_row network p)) (PeerRowComes (peer_row network p)) (AddressStaysOut (address_row network p))

abbrev pub PeersStayOut : ℕ → List Peer → Tables → Type 0
PeersStayOut network ps = OneOfTwo (AllRowsStay network ps) (Each (λ p. PeerRowsGo network p.number) ps) (OneOfEach (PeerComes network) (PeerStaysOut network) ps)

abbrev pub RouteIsNotPut : ℕ → PrefixValue × ℕ → Tables → Type 0
RouteIsNotPut network r = OneOfTwo (RouteStays network r.0) (RouteGoes network r.0) (RouteStaysOut network r)

-- routes are replaced one by one, or added if there are none
abbrev pub RoutesAreNotPut : ℕ → List (PrefixValue × ℕ) → Tables → Type 0
RoutesAreNotPut network rs t = OneOfEach (RoutePuts network) (RouteIsNotPut network) rs t ⊎ OneOfEach (RouteComes network) (RouteStaysOut network) rs t

-- a change of the network of this id isn't written
abbrev pub ChangeStops : ℕ → Change → Tables → Type 0
ChangeStops id c =
    OneOfTwo (OneOfEach (PeerLeaves id) (PeerStays id) c.removed) (Each (PeerLeaves id) c.removed)
    (OneOfTwo (OneOfEach (RouteGoes id) (RouteStays id) c.routes_gone) (Each (RouteGoes id) c.routes_gone)
    (OneOfTwo (PeersStayOut id c.peers) (PeersPut id c.peers)
    (OneOfTwo (RoutesAreNotPut id c.routes_put) (Each (RoutePuts id) c.routes_put) (NextStays id c.next))))
