-- What a statement means, whatever stands after the register's tables.
use Rattle.std.proofs.Common.{◌≡◌, ◌⊎◌, ◌∷◌, [], ℕ, List, codes, Bool, true, false, Any, Option, IsSome, inl, inr, sym, ◌∙◌, true≢false}
use Rattle.sqlite.specs.declared.types.Value.TheVariants.{Null}
use Rattle.sqlite.specs.Collation.TheVariants.{Binary}
use Rattle.sqlite.specs.Command.{Command}
use Rattle.sqlite.specs.Listing.{understood, reads_listing}
use Rattle.sqlite.specs.Order.{Row}
use Rattle.sqlite.specs.Term.{Term, col, lit, op2}
use Rattle.sqlite.proofs.Callers.{IsPlain, command_of}
use Rattle.sqlite_sql.specs.declared.ops.BinaryOp.TheVariants.{Compare}
use Rattle.sqlite_sql.specs.declared.ops.CompareOp.TheVariants.{Eq}
use Rattle.sqlite_value.specs.declared.keys.Key.{Key}
use Rattle.wgr_columns.specs.Layout.{Others, schema_with}

abbrev pub equal_to : ℕ → ℕ → Term
equal_to place given = op2 (Compare Eq Binary) (col 1 place) (col 0 given)

abbrev pub rising : ℕ → Term × Key
rising place = (col 1 place, record { collation = Binary; descending = false })

-- the columns of `network`, and their names
abbrev pub network_places : List Term
network_places = col 1 0 ∷ lit Null ∷ col 1 2 ∷ col 1 3 ∷ col 1 4 ∷ col 1 5 ∷ col 1 6 ∷ col 1 7 ∷ col 1 8 ∷ col 1 9 ∷ col 1 10 ∷ col 1 11 ∷ []

abbrev pub network_names : List (List ℕ)
network_names = codes "id" ∷ codes "NULL" ∷ codes "tenant" ∷ codes "name" ∷ codes "family" ∷ codes "lo" ∷ codes "length" ∷ codes "host" ∷ codes "port" ∷ codes "server" ∷ codes "capacity" ∷ codes "next" ∷ []

-- what a text does where the register's tables stand first; it begins no transaction, and ends none
pub record Means (others : Others) (text : List ℕ) (command : Command) : Type 0 where
  pub command_is : command_of (understood (schema_with others) text) ≡ command
  pub plain : IsPlain (understood (schema_with others) text)

-- a query that lists no tables
pub record Asks (others : Others) (text : List ℕ) (command : Command) : Type 0 where
  pub means : Means others text command
  pub unlisted : reads_listing (schema_with others) text ≡ false

-- a query over one table whose values are accepted is refused by a limit alone
pub never_refused : {A B C : Type 0} (accepts : Bool) → accepts ≡ true → (limit : Option ℕ) (rows : List Row) → (A × (accepts ≡ false)) ⊎ ((B × (⊥ ⊎ Any (λ r. ⊥) rows)) ⊎ (C × IsSome limit)) → IsSome limit
never_refused accepts good limit rows (inl bad) = absurd (true≢false (sym good ∙ bad.1))
never_refused accepts good limit rows (inr (inl (same, inl none))) = absurd none
never_refused accepts good limit rows (inr (inl (same, inr none))) = absurd none.4
never_refused accepts good limit rows (inr (inr limited)) = limited.1
