-- A token that only reads changes nothing.
use Rattle.std.proofs.Common.{◌≡◌, ℕ, Bool, true, false, cond, Some, None, Option, Result, Ok, Err, refl, sym, ap, subst, ◌∙◌, true≢false}
use Rattle.std.specs.Prelude.{if◌then◌else◌}
use Rattle.wgr_core.specs.declared.command.Command.{Command}
use Rattle.wgr_core.specs.declared.refusal.CommandRefusal.{CommandRefusal}
use Rattle.wgr_core.specs.declared.reply.Reply.{Reply}
use Rattle.wgr_core.specs.Network.{NetworkValue, live_at}
use Rattle.wgr_core.specs.Outcome.{Outcome, is_reading, kept_if, live_outcome}
use Rattle.wgr_model.specs.declared.right.Right.TheVariants.{Read}
use Rattle.wgr_model.specs.Laws.{ReadersOnlyRead}
use Rattle.wgr_model.specs.Register.{Bytes, IsSame, Register, right_of}
use Rattle.wgr_model.specs.Steps.{ReadOnly, act, acted, allows, ask, asked, network_at, tenant_of_token}
use Rattle.wgr_model.proofs.AskRowLemmas.{put_itself}
use Rattle.wgr_model.proofs.SameLemmas.{same_view}

-- a reading leaves the network as it is
reading_keeps : (n : NetworkValue) (now : ℕ) (command : Command) (done : Reply × NetworkValue) → is_reading command ≡ true → act n now command ≡ Ok done → n ≡ done.1
unfolding act
reading_keeps n now command done reads is = by_outcome (is_reading command) (live_outcome (live_at n now) now command) reads is where
  by_outcome : (reading : Bool) (o : Outcome) → reading ≡ true → kept_if reading n o ≡ Ok done → n ≡ done.1
  by_outcome reading (Err why) reads is = absurd (true≢false (sym (ap is_ok is))) where
    is_ok : Outcome → Bool
    is_ok (Ok x) = true
    is_ok (Err x) = false
  by_outcome reading (Ok x) reads is = ap (λ b. cond b n x.1) (sym reads) ∙ ap after is where
    after : Outcome → NetworkValue
    after (Ok y) = y.1
    after (Err y) = n

module _ (r : Register) (name : Bytes) (now : ℕ) (command : Command) (reads : is_reading command ≡ true) (id : ℕ) where
  put_stays : (n : NetworkValue) → network_at r.networks id name ≡ Some n → (x : Result (Reply × NetworkValue) CommandRefusal) → act n now command ≡ x → (acted r id name x).1 ≡ r
  put_stays n found (Err why) is = refl
  put_stays n found (Ok done) is = ap (λ hs. record r { networks = hs }) (put_itself r.networks id name done.1 (found ∙ ap (λ m. Some m) (reading_keeps n now command done reads is)))

  asked_stays : (n : Option NetworkValue) → network_at r.networks id name ≡ n → (asked now command r id name n).1 ≡ r
  asked_stays None found = refl
  asked_stays (Some n) found = put_stays n found (act n now command) refl

-- the register after a request with the token is the same
stays : (r : Register) (digest name : Bytes) (now : ℕ) (command : Command) → right_of r.readers digest ≡ Read → (token : Option ℕ) → (ask r digest name now command token).1 ≡ r
stays r digest name now command only None = refl
stays r digest name now command only (Some id) = ap (λ right. (if allows right command then asked now command r id name (network_at r.networks id name) else (ReadOnly, r)).1) only ∙ by_command (is_reading command) refl where
  by_command : (b : Bool) → is_reading command ≡ b → (if b then asked now command r id name (network_at r.networks id name) else (ReadOnly, r)).1 ≡ r
  by_command true reads = asked_stays r name now command reads id (network_at r.networks id name) refl
  by_command false reads = refl

pub readers_only_read : ReadersOnlyRead
readers_only_read r s digest name now command answer good proper only step me =
    let same = stays r digest name now command only (tenant_of_token r.tokens digest) in
    sym (same_view r s (subst (λ x. IsSame x s) same step.rows) good me)
