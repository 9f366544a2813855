use Rattle.std.proofs.Common.{◌∙◌, ap₂}
use Rattle.clap.specs.Words.{App}
use Rattle.wgr_command_line.specs.Words.{with_command}
use Rattle.wgr_command_line.proofs.commands.wgr_command.Goals as goal

pub returns-clause-app : goal.returns-clause-app
returns-clause-app c =
    let both : App → App → App = λ app command. with_command command app in
    let plan = c.in_ok-command-2.ensures.app ∙ ap₂ both c.in_ok-command.ensures.app c.in_ok-plan_command.ensures.app in
    let init = c.in_ok-command-3.ensures.app ∙ ap₂ both plan c.in_ok-init_command.ensures.app in
    let migrate = c.in_ok-command-4.ensures.app ∙ ap₂ both init c.in_ok-migrate_command.ensures.app in
    let tenant_add = c.in_ok-command-5.ensures.app ∙ ap₂ both migrate c.in_ok-tenant_add_command.ensures.app in
    let token_grant = c.in_ok-command-6.ensures.app ∙ ap₂ both tenant_add c.in_ok-token_grant_command.ensures.app in
    let token_end = c.in_ok-command-7.ensures.app ∙ ap₂ both token_grant c.in_ok-token_end_command.ensures.app in
    let network_add = c.in_ok-command-8.ensures.app ∙ ap₂ both token_end c.in_ok-network_add_command.ensures.app in
    let network_end = c.in_ok-command-9.ensures.app ∙ ap₂ both network_add c.in_ok-network_end_command.ensures.app in
    let orders = c.in_ok-command-10.ensures.app ∙ ap₂ both network_end c.in_ok-orders_command.ensures.app in
    let show = c.in_ok-command-11.ensures.app ∙ ap₂ both orders c.in_ok-show_command.ensures.app in
    let batch = c.in_ok-command-12.ensures.app ∙ ap₂ both show c.in_ok-batch_command.ensures.app in
    let serve = c.in_ok-command-13.ensures.app ∙ ap₂ both batch c.in_ok-serve_command.ensures.app in
    c.in_ok-command-14.ensures.app ∙ ap₂ both serve c.in_ok-send_command.ensures.app
