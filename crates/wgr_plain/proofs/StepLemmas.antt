-- The steps of the plain register's calls.
use Rattle.std.proofs.Common.{◌≡◌, ℕ, true, List, Some, None, Result, Ok, Err, refl, sym, ap, subst, ◌∙◌}
use Rattle.std.specs.List.Sorted.{IsPermutation}
use Rattle.std.proofs.lemmas.List.Sorted.{IsPermutation-refl}
use Rattle.wgr_core.specs.declared.command.Command.{Command}
use Rattle.wgr_core.specs.declared.refusal.CommandRefusal.{CommandRefusal}
use Rattle.wgr_core.specs.declared.reply.Reply.{Reply}
use Rattle.wgr_core.specs.Network.{NetworkValue}
use Rattle.wgr_model.specs.declared.right.Right.{Right}
use Rattle.wgr_model.specs.declared.right.Right.TheVariants.{Full, Read}
use Rattle.wgr_model.specs.Register.{Bytes, Register, id_of, right_of}
use Rattle.wgr_model.specs.Steps.{AddNetwork, Answer, Ask, IsStep, Settings, act, allows, network_at, put_network, tenant_of_token, with_reader}
use Rattle.wgr_model.proofs.CallLemmas.{declined, replied}
use Rattle.wgr_model.proofs.OrderSteps.{at_end, not_added}
use Rattle.wgr_orders.specs.declared.refusal.OrderFault.{OrderFault}
use Rattle.wgr_orders.specs.declared.refusal.OrderFault.TheVariants as faulted
use Rattle.wgr_orders.specs.Orders.{IsChecked, refusal_of}
use Rattle.wgr_plain.specs.Calls.{IsActed, IsOrdered, with_last}

-- a digest at the end
pub reader_comes : (right : Right) (digest : Bytes) (readers later : List Bytes) → later ≡ with_last right digest readers → IsPermutation (with_reader right digest readers) later
reader_comes Full digest readers later e = subst (IsPermutation readers) (sym e) (IsPermutation-refl readers)
reader_comes Read digest readers later e = at_end digest readers later e

module _ (r : Register) (digest name : Bytes) (now : ℕ) (command : Command) (id : ℕ) (known : tenant_of_token r.tokens digest ≡ Some id) (may : allows (right_of r.readers digest) command ≡ true) (n : NetworkValue) (found : network_at r.networks id name ≡ Some n) (answer : Answer) where
  -- a command that is refused
  pub refusal_step : IsActed (act n now command) answer None → IsStep r (Ask digest name now command) answer r
  refusal_step e = by_case (act n now command) refl e where
    by_case : (given : Result (Reply × NetworkValue) CommandRefusal) → act n now command ≡ given → IsActed given answer None → IsStep r (Ask digest name now command) answer r
    by_case (Err why) is e = subst (λ (a : Answer). IsStep r (Ask digest name now command) a r) (sym e) (declined r digest name now command id known n why may found is)
    by_case (Ok done) is e = absurd e

  -- and one that is done
  pub reply_step : (after : NetworkValue) (s : Register) → IsActed (act n now command) answer (Some after) → s ≡ put_network r id name after → IsStep r (Ask digest name now command) answer s
  reply_step after s e put = by_case (act n now command) refl e where
    by_case : (given : Result (Reply × NetworkValue) CommandRefusal) → act n now command ≡ given → IsActed given answer (Some after) → IsStep r (Ask digest name now command) answer s
    by_case (Err why) is e = absurd e
    by_case (Ok done) is e = subst (λ (a : Answer). IsStep r (Ask digest name now command) a s) (sym e.0) (replied r digest name now command id known n done s may found is (put ∙ ap (put_network r id name) e.1))

-- a network that isn't added
pub fault_ordered : (r : Register) (tenant name : Bytes) (s : Settings) (id : ℕ) → id_of r.tenants tenant ≡ Some id → (fault : OrderFault) → IsChecked r id name s (Err fault) → IsOrdered r (AddNetwork tenant name s) (Err fault) r
fault_ordered r tenant name s id known (faulted.Refused why) is = not_added r tenant name s id known (refusal_of why) is
fault_ordered r tenant name s id known faulted.NoMemory is = refl
