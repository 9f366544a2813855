use Rattle.std.proofs.Common.{◌≡◌, ◌∙◌, ℕ, List, Option, ap, drop, map, string_bytes, subst}
use Rattle.sqlite.specs.Recovery.{Image}
use Rattle.sqlite_disk.specs.declared.Disk as disk
use Rattle.sqlite_disk.specs.declared.Files.{Files}
use Rattle.wgr_plan.specs.PlanFault.{Streams}
use Rattle.wgr_service.specs.Network.{Log}
use Rattle.wgr_prog.specs.Answering.{Output}
use Rattle.wgr_prog.specs.Status.{ServesWords}
use Rattle.wgr_prog.proofs.program.run.Goals as goal

serves_same : {A D : Type 0} (g : disk.Ghosts D) (start : Image) (closed : Option (Files D)) (text : A → List ℕ) (before after : Log) (old new : Streams) (errors errors' : Output) (status : ℕ) (words same : List A) → words ≡ same → ServesWords g start closed (map text words) before after old new errors errors' status → ServesWords g start closed (map text same) before after old new errors errors' status
serves_same g start closed text before after old new errors errors' status words same is = subst (λ words. ServesWords g start closed (map text words) before after old new errors errors' status) is

pub returns-in-Ok-clause-serves : goal.returns-in-Ok-clause-serves
returns-in-Ok-clause-serves g c =
    rw c.in-Ok.is (serves_same _ _ _ string_bytes _ _ _ _ _ _ _ _ _ (c.words_of.ensures ∙ ap (drop 1) c.deref.ensures.value) c.program.ensures)
