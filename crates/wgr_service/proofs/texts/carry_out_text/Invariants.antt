use Rattle.std.proofs.Common.{◌≡◌, ◌++◌, List, Option, length}
use Rattle.std.specs.Prelude.{flat_map}
use Rattle.std.specs.Io.KnownBytes.{Appends}
use Rattle.sqlite.specs.Held.{state}
use Rattle.sqlite.specs.State.{HasCleanDisk}
use Rattle.wgr_model.specs.Register.{Bytes}
use Rattle.wgr_service.specs.Lines.{end_text}
use Rattle.wgr_service.specs.Texts.{greatest, lines_in}
use Rattle.wgr_service.specs.declared.lines.LineEnd.{LineEnd}
use Rattle.wgr_service.proofs.TextLemmas.{HaveEnded}
use Rattle.wgr_service.proofs.texts.carry_out_text.Given as goal

-- the lines so far were carried out, and how they ended is written
abbrev pub invariant-loop-rest : goal.invariant-loop-rest
invariant-loop-rest g l = record {
  clean : HasCleanDisk (state g.S.Store l.office) → HasCleanDisk (state g.S.Store l.fn.office);
  sound : g.W.Write.failed l.out ≡ g.W.Write.failed l.fn.out;
  so_far : (taken : List (Option Bytes)) × (ends : List LineEnd) × HaveEnded g.S.Store l.fn.office l.office taken ends
      × (lines_in l.fn.text ≡ taken ++ lines_in l.rest)
      × Appends (g.W.Write.contents l.fn.out) (g.W.Write.contents l.out) (flat_map end_text ends)
      × (l.status ≡ greatest ends);
}

abbrev pub decreases-loop-rest : goal.decreases-loop-rest
decreases-loop-rest g l = length l.rest
