-- When the disk of a database in files of the system is clean.
use Rattle.std.proofs.Common.{◌∙◌, ℕ, ◌<◌, [], ◌∷◌, true, IsTrue, arith}
use Rattle.std.proofs.lemmas.Bool.{and_from}
use Rattle.std.proofs.lemmas.Grind.{common_steps}
use Rattle.sqlite_disk.specs.Events.{IsHonest, measured, settled}
use Rattle.sqlite_disk.specs.declared.Disk as disk
use Rattle.sqlite_pool.proofs.StateLemmas.{clean_is}
use Rattle.sqlite_store.specs.FileStore.{files}
use Rattle.sqlite_store.specs.declared.store.FileStore.{FileStore}
use Rattle.sqlite_trees.proofs.Doubt.{no_doubt}
use Rattle.sqlite.specs.Files.{file_state}
use Rattle.sqlite.specs.Held.{Held}
use Rattle.sqlite.specs.State.{HasCleanDisk}

pub clean_if : {D : Type 0} {g : disk.Ghosts D} (conn : Held (FileStore D g)) → IsTrue (g.is_clean (files conn.store).0) → IsTrue (g.is_clean (files conn.store).1) → HasCleanDisk (file_state conn)
clean_if {g = g} conn log db = no_doubt _ (clean_is conn.store.pool ∙ and_from (g.is_clean (files conn.store).0) (g.is_clean (files conn.store).1) log db)

-- a file that isn't empty has told a lie to `Unknown` as soon as its length is read
pub unknown_is_empty : (key n : ℕ) → 0 < n → IsHonest [] (measured true n ∷ settled key ∷ []) → ⊥
unknown_is_empty key n some honest = grind (arith, common_steps)
