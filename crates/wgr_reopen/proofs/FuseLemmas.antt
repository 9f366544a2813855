-- Disks that always return what was written.
use Rattle.std.proofs.Common.{◌∙◌, List, Option, Some, None, Result, Ok, Err, IfOk, IsTrue}
use Rattle.std.specs.Prelude.{IfSome}
use Rattle.std.proofs.lemmas.Bool.{and_from}
use Rattle.sqlite_disk.specs.declared.Disk as disk
use Rattle.sqlite_pool.proofs.StateLemmas.{clean_is}
use Rattle.sqlite_store.specs.FileStore.{files}
use Rattle.sqlite_store.specs.declared.store.FileStore.{FileStore}
use Rattle.sqlite_trees.proofs.Doubt.{no_doubt}
use Rattle.sqlite.specs.Effect.{Database}
use Rattle.sqlite.specs.Files.{file_state, over_files}
use Rattle.sqlite.specs.Held.{Held}
use Rattle.sqlite.specs.State.{HasCleanDisk}
use Rattle.wgr_model.specs.Steps.{Event}
use Rattle.wgr_reopen.specs.Again.{StandsAgain, StandsOn}

module _ {D : Type 0} {g : disk.Ghosts D} (always : (file : D) → IsTrue (g.is_clean file)) where
  clean : (conn : Held (FileStore D g)) → HasCleanDisk (file_state conn)
  clean conn = no_doubt _ (clean_is conn.store.pool ∙ and_from (g.is_clean (files conn.store).0) (g.is_clean (files conn.store).1) (always _) (always _))

  pub stands_on : {E : Type 0} (db : Database) (late : List Event) (o : Option (Result (Held (FileStore D g)) E)) → IfSome o (λ opened. IfOk opened (λ again. StandsAgain over_files again db late))
      → IfSome o (λ opened. IfOk opened (λ again. StandsOn over_files again db late))
  stands_on db late None stands = tt
  stands_on db late (Some (Err e)) stands = tt
  stands_on db late (Some (Ok again)) stands = stands (clean again)
