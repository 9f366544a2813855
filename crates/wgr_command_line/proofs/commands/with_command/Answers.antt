use Rattle.std.proofs.Common.{◌≡◌, ◌&&◌, Bool, not, true, false, refl}
use Rattle.wgr_command_line.proofs.commands.with_command.Goals as goal

-- a plain command has no global argument
no_globals : (groupless others globals rest : Bool) → (groupless && (not others && (not globals && rest))) ≡ true → globals ≡ false
no_globals false others globals rest e = cc e
no_globals true true globals rest e = cc e
no_globals true false true rest e = cc e
no_globals true false false rest e = refl

pub returns-clause-app : goal.returns-clause-app
returns-clause-app c = c.in_ok-subcommand.ensures.shape (no_globals _ _ _ _ c.requires)
