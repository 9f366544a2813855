use Rattle.std.proofs.Common.{rules, true, false, Err}
use Rattle.wgr_core.specs.Adoption.{adopt_lines, adoption_order}
use Rattle.wgr_core.specs.Draft.{MeetsLines, left_by, numbered_lines}
use Rattle.wgr_core.proofs.AdoptingLemmas.{both_passes, first_pass_err}
use Rattle.wgr_core.proofs.adopt.Adopting.adopt_all.Goals as goal

pub returns : goal.returns
returns c =
    let pool = c.args.pool.now in
    let lines = c.args.lines.now in
    both_passes c.args.self.now c.adopt_lines.new.self (left_by c.adopt_lines-2.result c.adopt_lines-2.new.self) (numbered_lines pool true 2 lines) (numbered_lines pool false 2 lines) c.in_ok-adopt_lines.ensures c.adopt_lines-2.ensures

pub returns-in_err-adopt_lines : goal.returns-in_err-adopt_lines
returns-in_err-adopt_lines c =
    let pool = c.args.pool.now in
    let lines = c.args.lines.now in
    let w = c.in_err-adopt_lines.field-0.0 in
    let met : MeetsLines c.args.self.now (Err w) (adopt_lines c.args.self.now.so_far (adoption_order pool lines)) =
    first_pass_err c.args.self.now w (numbered_lines pool true 2 lines) (numbered_lines pool false 2 lines) c.in_err-adopt_lines.ensures in
    search rules
