-- Single steps.
use Rattle.std.specs.Prelude.{if◌then◌else◌}
use Rattle.std.proofs.Common.{◌≡◌, ℕ, Bool, true, false, Some, None, Result, Ok, Err, refl, sym, ap, subst, ◌∙◌, true≢false}
use Rattle.wgr_core.specs.declared.command.Command.{Command}
use Rattle.wgr_core.specs.declared.refusal.CommandRefusal.{CommandRefusal}
use Rattle.wgr_core.specs.declared.reply.Reply.{Reply}
use Rattle.wgr_core.specs.Network.{NetworkValue}
use Rattle.wgr_model.specs.Listing.{Entries, EntriesOf}
use Rattle.wgr_model.specs.Register.{Bytes, IsSame, Register, right_of}
use Rattle.wgr_model.specs.Steps.{Answer, Ask, Declined, Event, IsStep, IsUnused, Listed, Networks, NoSuchNetwork, EventOutcome, ReadOnly, Replied, UnknownToken, act, acted, allows, ask, asked, is_done, listed, network_at, outcome, put_network, tenant_of_token}
use Rattle.wgr_model.proofs.RunLemmas.{same_itself}

-- what an event gives is a step
pub step_is : (r s : Register) (e : Event) (new : ℕ) (o : EventOutcome) → outcome r e new ≡ o → (is_done o.0 ≡ true → IsUnused r e new) → IsSame o.1 s → IsStep r e o.0 s
step_is r s e new o is unused same = record {
  new = new;
  unused = unused;
  answered = sym (ap {A = EventOutcome} (λ x. x.0) is);
  rows = subst (λ (x : EventOutcome). IsSame x.1 s) (sym is) same;
}

-- and so where the register stays
pub quiet : (r : Register) (e : Event) (answer : Answer) → is_done answer ≡ false → outcome r e 0 ≡ (answer, r) → IsStep r e answer r
quiet r e answer none is = step_is r r e 0 (answer, r) is (λ done. absurd (true≢false (sym done ∙ none))) (same_itself r)

module _ (r : Register) (digest name : Bytes) (now : ℕ) (command : Command) where
  pub stranger_asks : tenant_of_token r.tokens digest ≡ None → IsStep r (Ask digest name now command) UnknownToken r
  stranger_asks none = quiet r (Ask digest name now command) UnknownToken refl (ap (ask r digest name now command) none)

  module _ (id : ℕ) (known : tenant_of_token r.tokens digest ≡ Some id) where
    -- what the right decides
    asks_by : (may : Bool) → allows (right_of r.readers digest) command ≡ may → outcome r (Ask digest name now command) 0 ≡ (if may then asked now command r id name (network_at r.networks id name) else (ReadOnly, r))
    asks_by may is = ap (ask r digest name now command) known ∙ ap (λ b. if b then asked now command r id name (network_at r.networks id name) else (ReadOnly, r)) is

    pub reader_asks : allows (right_of r.readers digest) command ≡ false → IsStep r (Ask digest name now command) ReadOnly r
    reader_asks may_not = quiet r (Ask digest name now command) ReadOnly refl (asks_by false may_not)

    pub nothing_asked : allows (right_of r.readers digest) command ≡ true → network_at r.networks id name ≡ None → IsStep r (Ask digest name now command) NoSuchNetwork r
    nothing_asked may none = quiet r (Ask digest name now command) NoSuchNetwork refl (asks_by true may ∙ ap (asked now command r id name) none)

    found_acts : (n : NetworkValue) (given : Result (Reply × NetworkValue) CommandRefusal) → allows (right_of r.readers digest) command ≡ true → network_at r.networks id name ≡ Some n → act n now command ≡ given → outcome r (Ask digest name now command) 0 ≡ acted r id name given
    found_acts n given may found is = asks_by true may ∙ ap (asked now command r id name) found ∙ ap (acted r id name) is

    pub declined : (n : NetworkValue) (why : CommandRefusal) → allows (right_of r.readers digest) command ≡ true → network_at r.networks id name ≡ Some n → act n now command ≡ Err why → IsStep r (Ask digest name now command) (Declined why) r
    declined n why may found is = quiet r (Ask digest name now command) (Declined why) refl (found_acts n (Err why) may found is)

    pub replied : (n : NetworkValue) (done : Reply × NetworkValue) (s : Register) → allows (right_of r.readers digest) command ≡ true → network_at r.networks id name ≡ Some n → act n now command ≡ Ok done → s ≡ put_network r id name done.1
        → IsStep r (Ask digest name now command) (Replied done.0 done.1) s
    replied n done s may found is after =
        let o : EventOutcome = (Replied done.0 done.1, put_network r id name done.1) in
        step_is r s (Ask digest name now command) 0 o (found_acts n (Ok done) may found is) (λ _. tt) (subst (λ x. IsSame (put_network r id name done.1) x) (sym after) (same_itself (put_network r id name done.1)))

pub stranger_lists : (r : Register) (digest : Bytes) → tenant_of_token r.tokens digest ≡ None → IsStep r (Networks digest) UnknownToken r
stranger_lists r digest none = quiet r (Networks digest) UnknownToken refl (ap (listed r) none)

pub tenant_lists : (r : Register) (digest : Bytes) (id : ℕ) (entries : Entries) → tenant_of_token r.tokens digest ≡ Some id → EntriesOf r.networks id entries → IsStep r (Networks digest) (Listed entries) r
tenant_lists r digest id entries known is = quiet r (Networks digest) (Listed entries) refl (ap (listed r) known ∙ ap (λ (es : Entries). (Listed es, r)) (sym is))
