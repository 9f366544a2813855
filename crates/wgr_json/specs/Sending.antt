-- What is sent to a writer of JSON.
use Rattle.std.specs.Prelude.{ℕ, List}
use Rattle.serde.specs.Event.{Log, Logs, field_key}
use Rattle.serde.specs.declared.name.Case.TheVariants.{AsIs}
use Rattle.serde_json.specs.Data.{Data}
use Rattle.serde_json.specs.Events.{SendsValue}

-- a name, and the value of the member after it
abbrev pub SendsMember : List ℕ → Data → Log → Log → Type 0
SendsMember name d old new = (named : Log) × Logs old named (field_key name AsIs) × SendsValue d named new
