use Rattle.std.proofs.Common.{◌∙◌, ap₂}
use Rattle.clap.specs.Words.{with_rule}
use Rattle.wgr_command_line.proofs.commands.field_command.Goals as goal

pub returns-clause-app : goal.returns-clause-app
returns-clause-app c =
    let right = c.in_ok-arg.ensures.shape c.field-right.ensures.local ∙ ap₂ with_rule c.in_ok-command.ensures.app c.field-right.ensures.rule in
    let pool = c.in_ok-arg-2.ensures.shape c.field-pool.ensures.local ∙ ap₂ with_rule right c.field-pool.ensures.rule in
    let host = c.in_ok-command-2.ensures.shape c.field-host.ensures.local ∙ ap₂ with_rule pool c.field-host.ensures.rule in
    let port = c.in_ok-arg-3.ensures.shape c.field-port.ensures.local ∙ ap₂ with_rule host c.field-port.ensures.rule in
    let key = c.in_ok-arg-4.ensures.shape c.field-key.ensures.local ∙ ap₂ with_rule port c.field-key.ensures.rule in
    c.in_ok-arg-5.ensures.shape c.field-capacity.ensures.local ∙ ap₂ with_rule key c.field-capacity.ensures.rule
