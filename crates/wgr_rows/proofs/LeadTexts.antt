-- The queries by a prefix and by a peer's id, and that they are answered.
use Rattle.std.proofs.Common.{ℕ, pos, List, codes, [], ◌∷◌, refl, arith}
use Rattle.sqlite.specs.declared.types.Value.TheVariants.{Int, Blob}
use Rattle.sqlite.specs.Command.TheVariants.{Select}
use Rattle.sqlite.specs.Order.{Row}
use Rattle.sqlite.specs.Term.{Term}
use Rattle.sqlite.specs.Listing.{understood}
use Rattle.sqlite_tied.specs.Compute.{everything}
use Rattle.wgr_text.specs.Prefix.{PrefixValue}
use Rattle.wgr_model.specs.Rows.{family_number}
use Rattle.wgr_sql.specs.Causes.{IsAnswered}
use Rattle.wgr_sql.specs.Effects.{plain_query}
use Rattle.wgr_columns.specs.Decode.{bytes_of}
use Rattle.wgr_columns.specs.Layout.{Others, schema_with}
use Rattle.wgr_columns.proofs.Statements.{Asks, equal_to, never_refused}
use Rattle.wgr_tables.proofs.Meanings.{allowed_places, by_id, peer_places}

abbrev pub prefix_text : List ℕ
prefix_text = codes "SELECT NULL, network, family, lo, length, hi, peer, kind FROM allowed WHERE network = ?1 AND family = ?2 AND lo = ?3 AND length = ?4"

abbrev pub of_prefix : List Term
of_prefix = equal_to 1 0 ∷ equal_to 2 1 ∷ equal_to 3 2 ∷ equal_to 4 3 ∷ []

abbrev pub prefix_params : ℕ → PrefixValue → Row
prefix_params network p = Int (pos network) ∷ Int (pos (family_number p.address.family)) ∷ Blob (bytes_of p.address.number) ∷ Int (pos p.length) ∷ []

abbrev pub peer_text : List ℕ
peer_text = codes "SELECT id, NULL, network, key, label, until, keepalive, handshake, received, sent FROM peer WHERE id = ?1"

module _ (others : Others) where
  pub prefix_asks : Asks others prefix_text (Select (record { lets = []; body = plain_query 10 of_prefix allowed_places [] }) (codes "NULL" ∷ codes "network" ∷ codes "family" ∷ codes "lo" ∷ codes "length" ∷ codes "hi" ∷ codes "peer" ∷ codes "kind" ∷ []))
  unfolding understood everything
  prefix_asks = record { means = record { command_is = refl; plain = (refl, refl) }; unlisted = refl }

  pub prefix_answered : (network : ℕ) (p : PrefixValue) → IsAnswered (schema_with others) prefix_text (prefix_params network p)
  unfolding understood everything
  prefix_answered network p = record { given = (refl, refl, omega arith, refl); unlisted = refl; plain = λ limit trees e refused. never_refused _ refl limit (trees 10) refused }

  pub peer_asks : Asks others peer_text (Select (record { lets = []; body = plain_query 8 by_id peer_places [] }) (codes "id" ∷ codes "NULL" ∷ codes "network" ∷ codes "key" ∷ codes "label" ∷ codes "until" ∷ codes "keepalive" ∷ codes "handshake" ∷ codes "received" ∷ codes "sent" ∷ []))
  unfolding understood everything
  peer_asks = record { means = record { command_is = refl; plain = (refl, refl) }; unlisted = refl }

  pub peer_answered : (id : ℕ) → IsAnswered (schema_with others) peer_text (Int (pos id) ∷ [])
  unfolding understood everything
  peer_answered id = record { given = (refl, refl, omega arith, refl); unlisted = refl; plain = λ limit trees e refused. never_refused _ refl limit (trees 8) refused }
