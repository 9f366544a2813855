-- What a command answers on one network.
use Rattle.std.proofs.Common.{◌≡◌, ℕ, Some, None, Option, Ok, Err, ap, ap₂, ◌∙◌}
use Rattle.wgr_core.specs.Change.{Meets, applied_if}
use Rattle.wgr_core.specs.declared.change.Change.{Change}
use Rattle.wgr_core.specs.declared.command.Command.{Command}
use Rattle.wgr_core.specs.declared.fault.ActFault.TheVariants as fault
use Rattle.wgr_core.specs.declared.refusal.CommandRefusal.{CommandRefusal}
use Rattle.wgr_core.specs.declared.reply.Reply.{Reply}
use Rattle.wgr_core.specs.Network.{NetworkValue}
use Rattle.wgr_core.specs.Outcome.{outcome_of}
use Rattle.wgr_core.specs.Outcome as one
use Rattle.wgr_plain.specs.Calls.{IsActed}
use Rattle.wgr_model.specs.Steps.{Declined, Replied, act}

refused_by : (n : NetworkValue) (why : CommandRefusal) (o : one.Outcome) → Meets n (Err (fault.Refused why)) o → IsActed o (Declined why) None
refused_by n why (Err is) e = ap Declined e
refused_by n why (Ok done) e = absurd e

given_by : (n : NetworkValue) (reply : Reply) (change : Option Change) (after shown : NetworkValue) (o : one.Outcome) → Meets n (Ok (reply, change)) o → after ≡ applied_if change n → shown ≡ applied_if change n
    → IsActed o (Replied reply shown) (Some after)
given_by n reply change after shown (Err is) e a b = absurd e
given_by n reply change after shown (Ok done) e a b = (ap₂ Replied e.0 (b ∙ e.1), a ∙ e.1)

pub refusal_acted : (n : NetworkValue) (now : ℕ) (command : Command) (why : CommandRefusal) → Meets n (Err (fault.Refused why)) (outcome_of n now command) → IsActed (act n now command) (Declined why) None
unfolding act
refusal_acted n now command why e = refused_by n why (outcome_of n now command) e

pub reply_acted : (n : NetworkValue) (now : ℕ) (command : Command) (reply : Reply) (change : Option Change) (after shown : NetworkValue) → Meets n (Ok (reply, change)) (outcome_of n now command) → after ≡ applied_if change n → shown ≡ applied_if change n
    → IsActed (act n now command) (Replied reply shown) (Some after)
unfolding act
reply_acted n now command reply change after shown e a b = given_by n reply change after shown (outcome_of n now command) e a b
