-- The definitions on small cases, by computation.
use Rattle.std.proofs.Common.{◌≡◌, ◌≤◌, Some, length, refl}
use Rattle.wgr_core.specs.Network.{NetworkValue}
use Rattle.wgr_core.specs.declared.fault.ActFault.TheVariants as act_fault
use Rattle.wgr_core.specs.declared.reply.Reply.TheVariants as reply
use Rattle.wgr_conf.specs.Files.{server_config}
use Rattle.wgr_core.specs.declared.form.Form.{Form}
use Rattle.wgr_model.specs.Consistent.{IsConsistent}
use Rattle.wgr_model.specs.Register.{Register}
use Rattle.wgr_model.specs.Steps.{Replied}
use Rattle.wgr_sql.specs.declared.fault.Fault.TheVariants.{NoMemory}
use Rattle.wgr_register.specs.Ends.{ask_fault}
use Rattle.wgr_register.specs.Given.{OfFile, given_of}
use Rattle.wgr_register.specs.declared.fault.AskFault.TheVariants as fault

-- a server's file is that of the request's moment, so a lease that ends at 100 is over at 100
file_of_the_moment : (n : NetworkValue) (form : Form) → given_of 100 (Replied (reply.Server form) n) ≡ Some (OfFile (server_config n 100 form))
file_of_the_moment n form = refl

-- want of memory for a command is told as one
memory_is_told : ask_fault act_fault.NoMemory ≡ fault.Fault NoMemory
memory_is_told = refl

-- a register has 65,536 tokens at most
few_tokens : (r : Register) → IsConsistent r → length r.tokens ≤ 65536
few_tokens r good = good.few_tokens
