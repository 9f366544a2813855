-- Exit statuses, by computation.
use Rattle.std.proofs.Common.{◌≡◌, Bool, true, false, Result, Ok, Err, refl}
use Rattle.clap.specs.declared.error.kind.ErrorKind.TheVariants as kind
use Rattle.wgr_words.specs.declared.field.WordField.TheVariants as field
use Rattle.wgr_prog.specs.Failures.{failure_status}
use Rattle.wgr_prog.specs.Status.{batch_status, kind_status, serve_status}
use Rattle.wgr_prog.specs.declared.register_words.Failure.TheVariants as failure

-- ---- words that ask for nothing

pub help : kind_status kind.DisplayHelp ≡ 0
help = refl

pub version : kind_status kind.DisplayVersion ≡ 0
version = refl

pub memory_for_the_words : kind_status kind.OutOfMemory ≡ 1
memory_for_the_words = refl

pub unknown_word : kind_status kind.InvalidSubcommand ≡ 2
unknown_word = refl

-- ---- failures

pub malformed_field : failure_status (failure.Field field.Token) ≡ 2
malformed_field = refl

pub stream : failure_status failure.Device ≡ 1
stream = refl

pub shut : failure_status failure.Shut ≡ 1
shut = refl

-- ---- requests

pub all_answered : batch_status (Ok true) ≡ 0
all_answered = refl

-- a reply is 503
pub one_unavailable : batch_status (Ok false) ≡ 1
one_unavailable = refl

pub all_served : (done : Unit {0}) → serve_status (Ok done) ≡ 0
all_served done = refl
