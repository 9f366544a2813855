use Rattle.std.proofs.Common.{◌≡◌, ◌≢◌, ◌⊎◌, ◌∙◌, true, ℕ, Bool, List, Option, Some, None, IfNone, IfSome, is_some, inl, inr, refl, ap}
use Rattle.std.proofs.lemmas.Bool.Decides.{eqb_tells}
use Rattle.clap.specs.Words.{HasKind, Kinds, Text, kind_of}
use Rattle.clap.specs.declared.error.Error.{Error}
use Rattle.clap.specs.declared.error.kind.ErrorKind.{ErrorKind}
use Rattle.clap.specs.declared.error.kind.ErrorKind.TheVariants.{OutOfMemory}
use Rattle.wgr_prog.specs.declared.messages.TheConstants.{DONE, FAULT}
use Rattle.sqlite.specs.Recovery.{Image}
use Rattle.sqlite_disk.specs.declared.Disk as disk
use Rattle.sqlite_disk.specs.declared.Files.{Files}
use Rattle.wgr_command_line.specs.Words.{Asked, asked_by}
use Rattle.wgr_plan.specs.PlanFault.{Streams}
use Rattle.wgr_service.specs.Network.{Log}
use Rattle.wgr_prog.specs.Answering.{Output}
use Rattle.wgr_prog.specs.Status.{ReadsNothing, Runs, ServesWords, ServesAsked, ReportsError, kind_status, streams}
use Rattle.wgr_prog.proofs.program.program.Goals as goal

-- how the status of an error goes with its kind
abbrev Follows : ErrorKind → ℕ → Type 0
Follows kind status = (status ≡ FAULT) ⊎ (status ≡ kind_status kind)

follows_memory : (kind : ErrorKind) (status : ℕ) → kind ≡ OutOfMemory → Follows kind status → status ≡ FAULT
follows_memory kind status memory (inl fault) = fault
follows_memory kind status memory (inr told) = told ∙ ap kind_status memory

-- an error where a pool is asked for is want of memory
lacks_memory : {D : Type 0} (g : disk.Ghosts D) (start : Image) (asked : Option Asked) (log : Log) (old new : Streams) (errors errors' : Output) (kind : ErrorKind) (status : ℕ)
    → (is_some asked ≡ true → kind ≡ OutOfMemory) → (kind_status kind ≢ DONE → new ≡ old) → Follows kind status
    → IfSome asked (λ asked. ServesAsked g start None asked log log old new errors errors' status)
lacks_memory g start None log old new errors errors' kind status memory kept told = tt
lacks_memory g start (Some asked) log old new errors errors' kind status memory kept told =
    let is : kind_status kind ≡ FAULT = ap kind_status (memory refl) in
    inl (refl, tt, (kept (λ done. cc (is, done)), follows_memory kind status (memory refl) told))

tells_fault : (kinds : Kinds) (old new : Streams) (status : ℕ) → ReadsNothing old new → status ≡ FAULT → (new ≡ old) ⊎ (new.write_failed ≡ true) → ReportsError kinds old new status
tells_fault kinds old new status unread fault (inl kept) = inl (kept, fault)
tells_fault kinds old new status unread fault (inr failed) = inr (inl (unread, failed, fault))

is_fault : (status : ℕ) → (status ≡ FAULT) ⊎ (status ≢ FAULT)
is_fault status = elim (eqb_tells status FAULT) [ inl e ↦ inl e.1 | inr e ↦ inr e.1 ]

-- and where none is asked for it is of one of the kinds
tells_error : (kinds : Kinds) (error : Error) (old new : Streams) (status : ℕ) → ReadsNothing old new → HasKind kinds error → Follows (kind_of error) status
    → (kind_status (kind_of error) ≢ DONE → new ≡ old) → (status ≡ FAULT → (new ≡ old) ⊎ (new.write_failed ≡ true))
    → (status ≢ FAULT → new.write_failed ≡ old.write_failed) → ReportsError kinds old new status
tells_error kinds error old new status unread has (inl fault) kept failed sound = tells_fault kinds old new status unread fault (failed fault)
tells_error kinds error old new status unread (inl memory) (inr told) kept failed sound =
    let fault : status ≡ FAULT = told ∙ ap kind_status memory in
    tells_fault kinds old new status unread fault (failed fault)
tells_error kinds error old new status unread (inr among) (inr told) kept failed sound = elim (is_fault status) [
  | inl fault ↦ tells_fault kinds old new status unread fault (failed fault)
  | inr other ↦ inr (inr (record { kind = kind_of error; among = among; reported = told; unread = unread; sound = sound other; kept = kept }))
]

if_none : {P : Type 0} (asked : Option Asked) → P → IfNone asked P
if_none None p = p
if_none (Some pool) p = tt

-- the network isn't met, nor are files
untouched : {Q : Type 0} (log : Log) → Q → (log ≡ log) × Unit {0} × Q
untouched log q = (refl, tt, q)

left_of : {A B C : Type 0} → (A → B) → A ⊎ C → B ⊎ C
left_of f (inl a) = inl (f a)
left_of f (inr c) = inr c

kept_streams : {R W : Type 0} (remaining : R → Option (List ℕ)) (read_failed : R → Bool) (contents : W → Option (List ℕ)) (write_failed : W → Bool) (input : R) (old new : W)
    → new ≡ old → streams remaining read_failed contents write_failed input new ≡ streams remaining read_failed contents write_failed input old
kept_streams remaining read_failed contents write_failed input old new kept = ap (streams remaining read_failed contents write_failed input) kept

pub returns-in-Err : goal.returns-in-Err
returns-in-Err g c =
    let kept = kept_streams g.R.Read.remaining g.R.Read.failed g.W.Write.contents g.W.Write.failed c.args.input.now _ _ in
    record {
      served = lacks_memory _ _ _ _ _ _ _ _ _ _ c.in-Err.ensures.err (λ other. kept (c.no_invocation.ensures.kept other)) c.no_invocation.ensures.status;
      reported = if_none _ (untouched (g.N.Network.log c.args.network.now) (tells_error _ c.in-Err.answer _ _ _ (refl, refl) c.in-Err.ensures.kinds c.no_invocation.ensures.status
          (λ other. kept (c.no_invocation.ensures.kept other))
          (λ fault. left_of kept (c.no_invocation.ensures.fault fault))
          c.no_invocation.ensures.sound));
    }

-- what is asked for is run
serves : {D : Type 0} (g : disk.Ghosts D) (start : Image) (closed : Option (Files D)) (words : List Text) (asked : Asked) (before after : Log) (old new : Streams) (errors errors' : Output) (status : ℕ) → asked_by words ≡ Some asked
    → Runs g start closed asked before after old new errors errors' status → ServesWords g start closed words before after old new errors errors' status
serves g start closed words asked before after old new errors errors' status is runs = record { served = rw is (inr runs); reported = rw is tt }

pub returns-in-Ok-Init : goal.returns-in-Ok-Init
returns-in-Ok-Init g c =
    serves _ _ _ _ _ _ _ _ _ _ _ _ (rw c.in-Ok-Init.field-0-is at c.in-Ok-Init.ensures.ok) (refl, c.run_init.ensures (g.R.Read.remaining c.args.input.now) (g.R.Read.failed c.args.input.now))

pub returns-in-Ok-Migrate : goal.returns-in-Ok-Migrate
returns-in-Ok-Migrate g c =
    serves _ _ _ _ _ _ _ _ _ _ _ _ (rw c.in-Ok-Migrate.field-0-is at c.in-Ok-Migrate.ensures.ok) (refl, c.run_migrate.ensures (g.R.Read.remaining c.args.input.now) (g.R.Read.failed c.args.input.now))

pub returns-in-Ok-Batch : goal.returns-in-Ok-Batch
returns-in-Ok-Batch g c =
    serves _ _ _ _ _ _ _ _ _ _ _ _ (rw c.in-Ok-Batch.field-0-is at c.in-Ok-Batch.ensures.ok) (refl, rw c.deref.ensures.value at c.run_batch.ensures (g.R.Read.remaining c.args.input.now) (g.R.Read.failed c.args.input.now))

pub returns-in-Ok-Serve : goal.returns-in-Ok-Serve
returns-in-Ok-Serve g c =
    serves _ _ _ _ _ _ _ _ _ _ _ _ (rw c.in-Ok-Serve.field-0-is at c.in-Ok-Serve.ensures.ok) (c.run_serve.ensures (g.R.Read.remaining c.args.input.now) (g.R.Read.failed c.args.input.now))

pub returns-in-Ok-Show : goal.returns-in-Ok-Show
returns-in-Ok-Show g c =
    serves _ _ _ _ _ _ _ _ _ _ _ _ (rw c.in-Ok-Show.field-0-is at c.in-Ok-Show.ensures.ok) (refl, c.run_show.ensures (g.R.Read.remaining c.args.input.now) (g.R.Read.failed c.args.input.now))

pub returns-in-Ok-Send : goal.returns-in-Ok-Send
returns-in-Ok-Send g c =
    let ran = rw c.deref-in-Ok-Send.ensures.value at c.run_send.ensures in
    serves _ _ _ _ _ _ _ _ _ _ _ _ (rw c.in-Ok-Send.field-0-is at c.in-Ok-Send.ensures.ok) (tt, record { answer = ran.0; sends = ran.1; reported = ran.2 })
