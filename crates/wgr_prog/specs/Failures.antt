-- The exit statuses of failures.
use Rattle.std.specs.Prelude.{ℕ}
use Rattle.wgr_prog.specs.declared.messages.TheConstants.{FAULT, REFUSED}
use Rattle.wgr_prog.specs.declared.register_words.Failure.{Failure}
use Rattle.wgr_prog.specs.declared.register_words.Failure.TheVariants as failure

-- a malformed field counts as a refusal, as does a refusal by the register
abbrev pub failure_status : Failure → ℕ
failure_status (failure.Field field) = REFUSED
failure_status (failure.Refused why) = REFUSED
failure_status (failure.Register why) = FAULT
failure_status failure.Device = FAULT
failure_status failure.Shut = FAULT
