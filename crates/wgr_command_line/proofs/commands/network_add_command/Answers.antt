use Rattle.std.proofs.Common.{◌∙◌, ap₂}
use Rattle.clap.specs.Words.{with_rule}
use Rattle.wgr_command_line.proofs.commands.network_add_command.Goals as goal

pub returns-clause-app : goal.returns-clause-app
returns-clause-app c =
    let pool = c.in_ok-arg.ensures.shape c.option-pool.ensures.local ∙ ap₂ with_rule c.in_ok-command.ensures.app c.option-pool.ensures.rule in
    let host = c.in_ok-arg-2.ensures.shape c.option-host.ensures.local ∙ ap₂ with_rule pool c.option-host.ensures.rule in
    let port = c.in_ok-command-2.ensures.shape c.option-port.ensures.local ∙ ap₂ with_rule host c.option-port.ensures.rule in
    let key = c.in_ok-arg-3.ensures.shape c.option-key.ensures.local ∙ ap₂ with_rule port c.option-key.ensures.rule in
    c.in_ok-arg-4.ensures.shape c.option-capacity.ensures.local ∙ ap₂ with_rule key c.option-capacity.ensures.rule
