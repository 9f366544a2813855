use Rattle.std.proofs.Common.{◌∙◌, ap₂}
use Rattle.clap.specs.Words.{with_rule}
use Rattle.wgr_command_line.proofs.commands.serve_command.Goals as goal

pub returns-clause-app : goal.returns-clause-app
returns-clause-app c =
    let place = c.in_ok-arg.ensures.shape c.value-place.ensures.local ∙ ap₂ with_rule c.in_ok-command.ensures.app c.value-place.ensures.rule in
    let count = c.in_ok-command-2.ensures.shape c.option-count.ensures.local ∙ ap₂ with_rule place c.option-count.ensures.rule in
    let now = c.in_ok-arg-2.ensures.shape c.choice-now.ensures.local ∙ ap₂ with_rule count c.choice-now.ensures.rule in
    c.in_ok-arg-3.ensures.shape c.choice-orders.ensures.local ∙ ap₂ with_rule now c.choice-orders.ensures.rule
