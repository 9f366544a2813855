use Rattle.std.proofs.Common.{List, ◌≡◌, None, Some, true, refl, subst, sym, ap, ◌∙◌}
use Rattle.wgr_model.specs.Laws.{Has}
use Rattle.wgr_model.specs.Register.{right_of}
use Rattle.wgr_model.specs.Rows.{IsFormed, NetworkRow, Tables, network_entry_of}
use Rattle.sqlite.specs.Effect.{Database}
use Rattle.wgr_core.specs.Network.{NetworkValue}
use Rattle.wgr_model.specs.Steps.{Event, allows, tenant_of_token}
use Rattle.wgr_register.specs.Ends.{IsFound}
use Rattle.wgr_register.specs.Standing.{StandsAt}
use Rattle.wgr_columns.specs.Decode.{tables_of}
use Rattle.wgr_register.specs.Loaded.{Shows}
use Rattle.wgr_register.specs.Memory.{IsMemoryOf}
use Rattle.wgr_entries.specs.Lookups.{IsSlotOf}
use Rattle.wgr_core.specs.declared.command.Command.TheVariants.{ServerFile}
use Rattle.wgr_core.specs.declared.reply.Reply.TheVariants as reply
use Rattle.wgr_register.proofs.AskLemmas.{acts_done, nowhere, refused_to_readers, stranger}
use Rattle.wgr_register.proofs.LoadedLemmas.{found_so, known_so, shown_so, shows_if, unless_late}
use Rattle.wgr_register.proofs.StandLemmas.{ask_if, ask_unread, at_read}
use Rattle.sqlite.specs.Held.{state}
use Rattle.sqlite.specs.State.{HasCleanDisk}
use Rattle.wgr_sql.proofs.SurvivesLemmas.{survives_next, survives_still}
use Rattle.wgr_register.proofs.CauseLemmas.{asked_clean, asked_unread, memory_alone, stopped_after, stopped_clean}
use Rattle.wgr_register.proofs.ask.ask.Given.{Over}
use Rattle.wgr_register.proofs.ask.ask.Goals.{In-Some-2, In_ok-id, In_ok-may, In_ok-tenant}
use Rattle.wgr_register.proofs.ask.ask.Goals as goal

-- ---- what was kept in memory before, where the register stands

module _ (g : Over) (c : In_ok-tenant g) (db : Database) (late : List Event) (at : StandsAt g.S.Store c.args.conn.now db late) (P : Tables → Type 0) (shows : Shows g.S.Store c.args.conn.now P) where
  -- it is of the rows
  was : HasCleanDisk (state g.S.Store c.tenant_of_token.new.conn) → P (tables_of db)
  was clean = known_so g.S.Store c.args.conn.now db at.pending P at.stands shows (c.tenant_of_token.ensures.reads.clean clean) (c.in_ok-tenant.ensures.open clean)

  -- and is shown still
  shown_then : Shows g.S.Store c.tenant_of_token.new.conn P
  shown_then clean live = shown_so g.S.Store c.tenant_of_token.new.conn db at.pending P (c.tenant_of_token.ensures.reads.stands db at.pending at.stands) (was clean) clean live

module _ (g : Over) (c : In_ok-may g) (db : Database) (late : List Event) (at : StandsAt g.S.Store c.args.conn.now db late) where
  there : StandsAt g.S.Store c.may_ask.new.conn db late
  there = at_read g.S.Store c.args.conn.now c.may_ask.new.conn db late (λ pending stood. c.may_ask.ensures.reads.stands db pending (c.tenant_of_token.ensures.reads.stands db pending stood) at.consistent.rows.meta) at

  shown_there : (P : Tables → Type 0) → Shows g.S.Store c.args.conn.now P → Shows g.S.Store c.may_ask.new.conn P
  shown_there P shows clean live =
      let first = c.may_ask.ensures.reads.clean clean in
      shown_so g.S.Store c.may_ask.new.conn db there.pending P there.stands (known_so g.S.Store c.args.conn.now db at.pending P at.stands shows (c.tenant_of_token.ensures.reads.clean first) (c.in_ok-tenant.ensures.open first)) clean live

  module _ (clean : HasCleanDisk (state g.S.Store c.may_ask.new.conn)) where
    -- whose token it is, and what it allows
    known_tenant : tenant_of_token (tables_of db).tokens c.args.digest.now ≡ Some c.in-Some.tenant
    known_tenant = sym (c.in_ok-tenant.ensures.found db at.pending at.stands (c.may_ask.ensures.reads.clean clean)) ∙ c.in-Some.is

    told_right : c.in_ok-may.may ≡ allows (right_of (tables_of db).readers c.args.digest.now) c.args.command.now
    told_right = c.in_ok-may.ensures.told db at.pending (c.tenant_of_token.ensures.reads.stands db at.pending at.stands) at.consistent.rows.meta clean

module _ (g : Over) (c : In_ok-id g) (db : Database) (late : List Event) (at : StandsAt g.S.Store c.args.conn.now db late) where
  here : StandsAt g.S.Store c.find_id.new.conn db late
  here = at_read g.S.Store c.args.conn.now c.find_id.new.conn db late (λ pending stood. c.find_id.ensures.reads.stands db pending (c.may_ask.ensures.reads.stands db pending (c.tenant_of_token.ensures.reads.stands db pending stood) at.consistent.rows.meta)) at

  module _ (P : Tables → Type 0) (shows : Shows g.S.Store c.args.conn.now P) where
    known_then : HasCleanDisk (state g.S.Store c.find_id.new.conn) → P (tables_of db)
    known_then clean =
        let first = c.may_ask.ensures.reads.clean (c.find_id.ensures.reads.clean clean) in
        known_so g.S.Store c.args.conn.now db at.pending P at.stands shows (c.tenant_of_token.ensures.reads.clean first) (c.in_ok-tenant.ensures.open first)

    shown_here : Shows g.S.Store c.find_id.new.conn P
    shown_here clean live = shown_so g.S.Store c.find_id.new.conn db here.pending P here.stands (known_then clean) clean live

-- the network of the id is there
module _ (g : Over) (c : In-Some-2 g) (db : Database) (late : List Event) (at : StandsAt g.S.Store c.args.conn.now db late) (clean : HasCleanDisk (state g.S.Store c.find_id.new.conn)) where
  named : (w : NetworkRow) × Has (tables_of db).networks w × IsSlotOf w c.in-Some.tenant c.args.name.now × (w.id ≡ c.in-Some-2.id)
  named = rw c.in-Some-2.is at c.in_ok-id.ensures.some db at.pending (c.may_ask.ensures.reads.stands db at.pending (c.tenant_of_token.ensures.reads.stands db at.pending at.stands) at.consistent.rows.meta) clean

  row_there : (w : NetworkRow) × Has (tables_of db).networks w × (w.id ≡ c.in-Some-2.id)
  row_there = (named.0, named.1, named.3)

  allowed : allows (right_of (tables_of db).readers c.args.digest.now) c.args.command.now ≡ true
  allowed =
      sym (c.in_ok-may.ensures.told db at.pending (c.tenant_of_token.ensures.reads.stands db at.pending at.stands) at.consistent.rows.meta (c.find_id.ensures.reads.clean clean)) ∙ c.if-not-may.false

  found_there : (n : NetworkValue) → IsFormed (tables_of db) c.in-Some-2.id n → IsFound (tables_of db) c.args.digest.now c.args.name.now c.args.command.now c.in-Some-2.id n
  found_there n formed =
      let known : tenant_of_token (tables_of db).tokens c.args.digest.now ≡ Some c.in-Some.tenant = sym (c.in_ok-tenant.ensures.found db at.pending at.stands (c.may_ask.ensures.reads.clean (c.find_id.ensures.reads.clean clean))) ∙ c.in-Some.is in
      found_so (tables_of db) c.args.digest.now c.args.name.now c.args.command.now c.in-Some.tenant c.in-Some-2.id n at.consistent known allowed named formed

-- ---- the token

pub returns-in_err-tenant-clause-ends : goal.returns-in_err-tenant-clause-ends
returns-in_err-tenant-clause-ends g c db late at = ask_unread g.S.Store g.R.Render.shown _ _ db late _ _ _ _ c.from_residual.ensures.1 (c.tenant_of_token.ensures.reads.stands db) at

pub returns-in_err-tenant-clause-memory : goal.returns-in_err-tenant-clause-memory
returns-in_err-tenant-clause-memory g c db late at = unless_late _ _ _ c.from_residual.ensures.1

pub returns-in_err-tenant-clause-cause : goal.returns-in_err-tenant-clause-cause
returns-in_err-tenant-clause-cause g c db late at reads =
    asked_unread ⊥ _ _ _ _ _ c.from_residual.ensures.1 (survives_still _) c.tenant_of_token.ensures.reads.survives (c.in_err-tenant.ensures.cause db at.pending at.stands at.consistent)

pub returns-in_err-tenant-clause-stops : goal.returns-in_err-tenant-clause-stops
returns-in_err-tenant-clause-stops g c db late at =
    asked_unread _ _ _ _ _ _ c.from_residual.ensures.1 (survives_still _) c.tenant_of_token.ensures.reads.survives (c.in_err-tenant.ensures.cause db at.pending at.stands at.consistent)

pub returns-in_default-clause-ends : goal.returns-in_default-clause-ends
returns-in_default-clause-ends g c db late at = (
  at_read g.S.Store _ _ db late (c.tenant_of_token.ensures.reads.stands db) at,
  λ clean.
      let none : tenant_of_token (tables_of db).tokens c.args.digest.now ≡ None = sym (c.in_ok-tenant.ensures.found db at.pending at.stands clean) ∙ c.in_default.is in
      stranger (tables_of db) at.consistent c.args.digest.now c.args.name.now c.args.now c.args.command.now none,
)

pub returns-in_default-clause-memory : goal.returns-in_default-clause-memory
returns-in_default-clause-memory g c db late at = shown_then g (goal.at.returns-in_default-clause-memory g c).In_ok-tenant db late at (IsMemoryOf c.args.memory.now) c.requires.memory

-- ---- its right

pub returns-in_err-may-clause-ends : goal.returns-in_err-may-clause-ends
returns-in_err-may-clause-ends g c db late at =
    ask_unread g.S.Store g.R.Render.shown _ _ db late _ _ _ _ c.from_residual-in_err-may.ensures.1
    (λ pending stood. c.may_ask.ensures.reads.stands db pending (c.tenant_of_token.ensures.reads.stands db pending stood) at.consistent.rows.meta) at

pub returns-in_err-may-clause-memory : goal.returns-in_err-may-clause-memory
returns-in_err-may-clause-memory g c db late at = unless_late _ _ _ c.from_residual-in_err-may.ensures.1

pub returns-in_err-may-clause-cause : goal.returns-in_err-may-clause-cause
returns-in_err-may-clause-cause g c db late at reads =
    asked_unread ⊥ _ _ _ _ _ c.from_residual-in_err-may.ensures.1 c.tenant_of_token.ensures.reads.survives c.may_ask.ensures.reads.survives
    (c.in_err-may.ensures.cause db at.pending (c.tenant_of_token.ensures.reads.stands db at.pending at.stands) at.consistent.rows.meta)

pub returns-in_err-may-clause-stops : goal.returns-in_err-may-clause-stops
returns-in_err-may-clause-stops g c db late at =
    asked_unread _ _ _ _ _ _ c.from_residual-in_err-may.ensures.1 c.tenant_of_token.ensures.reads.survives c.may_ask.ensures.reads.survives
    (c.in_err-may.ensures.cause db at.pending (c.tenant_of_token.ensures.reads.stands db at.pending at.stands) at.consistent.rows.meta)

pub returns-then-not-may-clause-ends : goal.returns-then-not-may-clause-ends
returns-then-not-may-clause-ends g c db late at =
    let a = (goal.at.returns-then-not-may-clause-ends g c).In_ok-may in (
      there g a db late at,
      λ clean. refused_to_readers (tables_of db) at.consistent c.args.digest.now c.args.name.now c.args.now c.args.command.now c.in-Some.tenant (known_tenant g a db late at clean) (sym (told_right g a db late at clean) ∙ c.if-not-may.true),
    )

pub returns-then-not-may-clause-memory : goal.returns-then-not-may-clause-memory
returns-then-not-may-clause-memory g c db late at = shown_there g (goal.at.returns-then-not-may-clause-memory g c).In_ok-may db late at (IsMemoryOf c.args.memory.now) c.requires.memory

-- ---- the name

pub returns-in_err-id-clause-ends : goal.returns-in_err-id-clause-ends
returns-in_err-id-clause-ends g c db late at = ask_unread g.S.Store g.R.Render.shown _ _ db late _ _ _ _ c.from_residual-in_err-id.ensures.1 (λ pending stood. c.find_id.ensures.reads.stands db pending (c.may_ask.ensures.reads.stands db pending (c.tenant_of_token.ensures.reads.stands db pending stood) at.consistent.rows.meta)) at

pub returns-in_err-id-clause-memory : goal.returns-in_err-id-clause-memory
returns-in_err-id-clause-memory g c db late at = unless_late _ _ _ c.from_residual-in_err-id.ensures.1

pub returns-in_err-id-clause-cause : goal.returns-in_err-id-clause-cause
returns-in_err-id-clause-cause g c db late at reads =
    asked_unread ⊥ _ _ _ _ _ c.from_residual-in_err-id.ensures.1 (survives_next _ _ _ c.tenant_of_token.ensures.reads.survives c.may_ask.ensures.reads.survives) c.find_id.ensures.reads.survives
    (c.in_err-id.ensures.cause db at.pending (c.may_ask.ensures.reads.stands db at.pending (c.tenant_of_token.ensures.reads.stands db at.pending at.stands) at.consistent.rows.meta) at.consistent)

pub returns-in_err-id-clause-stops : goal.returns-in_err-id-clause-stops
returns-in_err-id-clause-stops g c db late at =
    asked_unread _ _ _ _ _ _ c.from_residual-in_err-id.ensures.1 (survives_next _ _ _ c.tenant_of_token.ensures.reads.survives c.may_ask.ensures.reads.survives) c.find_id.ensures.reads.survives
    (c.in_err-id.ensures.cause db at.pending (c.may_ask.ensures.reads.stands db at.pending (c.tenant_of_token.ensures.reads.stands db at.pending at.stands) at.consistent.rows.meta) at.consistent)

pub returns-in_default-2-clause-ends : goal.returns-in_default-2-clause-ends
returns-in_default-2-clause-ends g c db late at = (
  here g (goal.at.returns-in_default-2-clause-ends g c).In_ok-id db late at,
  λ clean.
      let mid = c.may_ask.ensures.reads.stands db at.pending (c.tenant_of_token.ensures.reads.stands db at.pending at.stands) at.consistent.rows.meta in
      let known : tenant_of_token (tables_of db).tokens c.args.digest.now ≡ Some c.in-Some.tenant = sym (c.in_ok-tenant.ensures.found db at.pending at.stands (c.may_ask.ensures.reads.clean (c.find_id.ensures.reads.clean clean))) ∙ c.in-Some.is in
      nowhere (tables_of db) at.consistent c.args.digest.now c.args.name.now c.args.now c.args.command.now c.in-Some.tenant known
      (sym (told_right g (goal.at.returns-in_default-2-clause-ends g c).In_ok-may db late at (c.find_id.ensures.reads.clean clean)) ∙ c.if-not-may.false) (rw c.in_default-2.is at c.in_ok-id.ensures.none db at.pending mid at.consistent clean),
)

pub returns-in_default-2-clause-memory : goal.returns-in_default-2-clause-memory
returns-in_default-2-clause-memory g c db late at = shown_here g (goal.at.returns-in_default-2-clause-memory g c).In_ok-id db late at (IsMemoryOf c.args.memory.now) c.requires.memory

-- ---- the network

pub returns-in_err-network-clause-ends : goal.returns-in_err-network-clause-ends
returns-in_err-network-clause-ends g c db late at =
    ask_unread g.S.Store g.R.Render.shown _ _ db late _ _ _ _ c.from_residual-in_err-network.ensures.1
    (λ pending stood. c.take_network.ensures.reads.stands db pending (c.find_id.ensures.reads.stands db pending (c.may_ask.ensures.reads.stands db pending (c.tenant_of_token.ensures.reads.stands db pending stood) at.consistent.rows.meta))) at

pub returns-in_err-network-clause-memory : goal.returns-in_err-network-clause-memory
returns-in_err-network-clause-memory g c db late at = unless_late _ _ _ c.from_residual-in_err-network.ensures.1

pub returns-in_err-network-clause-cause : goal.returns-in_err-network-clause-cause
returns-in_err-network-clause-cause g c db late at reads =
    let a = (goal.at.returns-in_err-network-clause-cause g c).In-Some-2 in
    let stood = c.find_id.ensures.reads.stands db at.pending (c.may_ask.ensures.reads.stands db at.pending (c.tenant_of_token.ensures.reads.stands db at.pending at.stands) at.consistent.rows.meta) in
    asked_unread ⊥ _ _ _ _ _ c.from_residual-in_err-network.ensures.1 (survives_next _ _ _ (survives_next _ _ _ c.tenant_of_token.ensures.reads.survives c.may_ask.ensures.reads.survives) c.find_id.ensures.reads.survives) c.take_network.ensures.reads.survives
    (c.in_err-network.ensures.cause db at.pending stood at.consistent (λ clean. row_there g a db late at (c.take_network.ensures.reads.clean clean)))

pub returns-in_err-network-clause-stops : goal.returns-in_err-network-clause-stops
returns-in_err-network-clause-stops g c db late at =
    let a = (goal.at.returns-in_err-network-clause-stops g c).In-Some-2 in
    let stood = c.find_id.ensures.reads.stands db at.pending (c.may_ask.ensures.reads.stands db at.pending (c.tenant_of_token.ensures.reads.stands db at.pending at.stands) at.consistent.rows.meta) in
    asked_unread _ _ _ _ _ _ c.from_residual-in_err-network.ensures.1 (survives_next _ _ _ (survives_next _ _ _ c.tenant_of_token.ensures.reads.survives c.may_ask.ensures.reads.survives) c.find_id.ensures.reads.survives) c.take_network.ensures.reads.survives
    (c.in_err-network.ensures.cause db at.pending stood at.consistent (λ clean. row_there g a db late at (c.take_network.ensures.reads.clean clean)))

pub returns : goal.returns
returns g c =
    let a = (goal.at.returns g c).In-Some-2 in
    let b = (goal.at.returns g c).In_ok-id in
    let old = state g.S.Store c.args.conn.now in
    let new = state g.S.Store c.act_on.new.conn in
    let Disk : Type 0 = HasCleanDisk new in
    let named_clean : Disk → HasCleanDisk (state g.S.Store c.find_id.new.conn) = λ clean. c.take_network.ensures.reads.clean (c.act_on.ensures.keeps.clean clean) in
    let taken_at : (db : Database) (late : List Event) → StandsAt g.S.Store c.args.conn.now db late → StandsAt g.S.Store c.take_network.new.conn db late = λ db late at.
    at_read g.S.Store _ _ db late (c.take_network.ensures.reads.stands db) (here g b db late at) in
    let known : (db : Database) (late : List Event) → StandsAt g.S.Store c.args.conn.now db late → Disk → IsMemoryOf c.answers_by_rows.new.self (tables_of db) = λ db late at clean.
    c.answers_by_rows.ensures.rest (tables_of db) (known_then g b db late at (IsMemoryOf c.args.memory.now) c.requires.memory (named_clean clean)) in
    let found : (db : Database) (late : List Event) → StandsAt g.S.Store c.args.conn.now db late → Disk → IsFound (tables_of db) c.args.digest.now c.args.name.now c.args.command.now c.in-Some-2.id c.in_ok-network.network = λ db late at clean.
    let stood = here g b db late at in
    found_there g a db late at (named_clean clean) c.in_ok-network.network (c.in_ok-network.ensures.formed db stood.pending stood.stands at.consistent (known db late at clean) (c.act_on.ensures.keeps.clean clean)) in
    record {
      idle = c.act_on.ensures.keeps.idle;
      clean = λ clean. c.tenant_of_token.ensures.reads.clean (c.may_ask.ensures.reads.clean (c.find_id.ensures.reads.clean (named_clean clean)));
      ends = λ db late at.
          ask_if g.S.Store g.R.Render.shown _ db late _ _ _ c.act_on.ensures.keeps.idle at.stands.sound at.consistent
          (λ clean. c.act_on.ensures.ends db late c.args.digest.now c.args.name.now (taken_at db late at) (found db late at clean));
      memory = λ db late at.
          shows_if g.S.Store c.act_on.result c.act_on.new.conn (IsMemoryOf c.act_on.new.memory) (λ clean.
          c.act_on.ensures.memory db late c.args.digest.now c.args.name.now (taken_at db late at) (found db late at clean) (c.take_network.ensures.rest (tables_of db) (known db late at clean)));
      cause = λ db late at reads. memory_alone old new c.act_on.result (c.act_on.ensures.reading reads);
      stops = λ db late at.
          let survived = survives_next _ _ _ (survives_next _ _ _ (survives_next _ _ _ c.tenant_of_token.ensures.reads.survives c.may_ask.ensures.reads.survives) c.find_id.ensures.reads.survives) c.take_network.ensures.reads.survives in
          stopped_clean _ old new c.act_on.result (λ clean.
          stopped_after _ old (state g.S.Store c.take_network.new.conn) new c.act_on.result survived c.act_on.ensures.keeps.survives (c.act_on.ensures.stops db late c.args.digest.now c.args.name.now (taken_at db late at) (found db late at clean)));
    }

-- ---- a server's file

pub returns-in_err-text-clause-ends : goal.returns-in_err-text-clause-ends
returns-in_err-text-clause-ends g c db late at =
    ask_unread g.S.Store g.R.Render.shown _ _ db late _ _ _ _ c.from_residual-in_err-text.ensures.1
    (λ pending stood. c.file_at.ensures.reads.stands db pending (c.find_id.ensures.reads.stands db pending (c.may_ask.ensures.reads.stands db pending (c.tenant_of_token.ensures.reads.stands db pending stood) at.consistent.rows.meta))) at

pub returns-in_err-text-clause-cause : goal.returns-in_err-text-clause-cause
returns-in_err-text-clause-cause g c db late at reads =
    let a = (goal.at.returns-in_err-text-clause-cause g c).In-Some-2 in
    let stood = c.find_id.ensures.reads.stands db at.pending (c.may_ask.ensures.reads.stands db at.pending (c.tenant_of_token.ensures.reads.stands db at.pending at.stands) at.consistent.rows.meta) in
    asked_unread ⊥ _ _ _ _ _ c.from_residual-in_err-text.ensures.1 (survives_next _ _ _ (survives_next _ _ _ c.tenant_of_token.ensures.reads.survives c.may_ask.ensures.reads.survives) c.find_id.ensures.reads.survives) c.file_at.ensures.reads.survives
    (c.in_err-text.ensures.cause db at.pending stood at.consistent (λ clean. row_there g a db late at (c.file_at.ensures.reads.clean clean)))

pub returns-in_err-text-clause-stops : goal.returns-in_err-text-clause-stops
returns-in_err-text-clause-stops g c db late at =
    let a = (goal.at.returns-in_err-text-clause-stops g c).In-Some-2 in
    let stood = c.find_id.ensures.reads.stands db at.pending (c.may_ask.ensures.reads.stands db at.pending (c.tenant_of_token.ensures.reads.stands db at.pending at.stands) at.consistent.rows.meta) in
    asked_unread _ _ _ _ _ _ c.from_residual-in_err-text.ensures.1 (survives_next _ _ _ (survives_next _ _ _ c.tenant_of_token.ensures.reads.survives c.may_ask.ensures.reads.survives) c.find_id.ensures.reads.survives) c.file_at.ensures.reads.survives
    (c.in_err-text.ensures.cause db at.pending stood at.consistent (λ clean. row_there g a db late at (c.file_at.ensures.reads.clean clean)))

pub returns-in-ServerFile-clause-ends : goal.returns-in-ServerFile-clause-ends
returns-in-ServerFile-clause-ends g c db late at = rw c.in-ServerFile.is (λ clean.
    let named_clean = c.file_at.ensures.reads.clean clean in
    let a = (goal.at.returns-in-ServerFile-clause-ends g c).In-Some-2 in
    let b = (goal.at.returns-in-ServerFile-clause-ends g c).In_ok-id in
    let stood = here g b db late at in
    let known = known_then g b db late at (IsMemoryOf c.args.memory.now) c.requires.memory named_clean in
    let it = c.in_ok-text.ensures.text db stood.pending stood.stands at.consistent known clean in
    acts_done g.S.Store g.R.Render.shown c.file_at.new.conn db stood.pending late at.consistent stood.steps c.args.digest.now c.args.name.now c.args.now (ServerFile c.in-ServerFile.form) (tt, tt) c.in-Some-2.id it.0
    (subst (λ k. IsFound (tables_of db) c.args.digest.now c.args.name.now k c.in-Some-2.id it.0) c.in-ServerFile.is (found_there g a db late at named_clean it.0 it.1)) (reply.Server c.in-ServerFile.form) None c.in_ok-text.text.items refl (refl, refl) (ap Some it.2) (c.file_at.ensures.reads.stands db stood.pending stood.stands) clean)

pub returns-in-ServerFile-clause-memory : goal.returns-in-ServerFile-clause-memory
returns-in-ServerFile-clause-memory g c db late at clean live =
    let named_clean = c.file_at.ensures.reads.clean clean in
    let b = (goal.at.returns-in-ServerFile-clause-memory g c).In_ok-id in
    let stood = here g b db late at in
    let known = known_then g b db late at (IsMemoryOf c.args.memory.now) c.requires.memory named_clean in
    shown_so g.S.Store c.file_at.new.conn db stood.pending (IsMemoryOf c.file_at.new.memory) (c.file_at.ensures.reads.stands db stood.pending stood.stands) (c.in_ok-text.ensures.memory db stood.pending stood.stands at.consistent known clean) clean live

-- ---- Add and Owner on rows

pub returns-then-answers_by_rows : goal.returns-then-answers_by_rows
returns-then-answers_by_rows g c =
    let old = state g.S.Store c.args.conn.now in
    let mid = state g.S.Store c.find_id.new.conn in
    let new = state g.S.Store c.act_on_rows.new.conn in
    let a = (goal.at.returns-then-answers_by_rows g c).In-Some-2 in
    let b = (goal.at.returns-then-answers_by_rows g c).In_ok-id in
    let named_clean : HasCleanDisk new → HasCleanDisk mid = c.act_on_rows.ensures.keeps.clean in
    let survived = survives_next _ _ _ (survives_next _ _ _ c.tenant_of_token.ensures.reads.survives c.may_ask.ensures.reads.survives) c.find_id.ensures.reads.survives in
    let found : (db : Database) (late : List Event) → StandsAt g.S.Store c.args.conn.now db late → HasCleanDisk new → (n : NetworkValue) × IsFound (tables_of db) c.args.digest.now c.args.name.now c.args.command.now c.in-Some-2.id n = λ db late at clean.
    let it = named g a db late at (named_clean clean) in
    let n = (network_entry_of (tables_of db) it.0).network in
    (n, found_there g a db late at (named_clean clean) n (it.0, it.1, it.3, refl {a = n})) in
    let known : (db : Database) (late : List Event) → StandsAt g.S.Store c.args.conn.now db late → HasCleanDisk new → IsMemoryOf c.answers_by_rows.new.self (tables_of db) = λ db late at clean.
    c.answers_by_rows.ensures.rest (tables_of db) (known_then g b db late at (IsMemoryOf c.args.memory.now) c.requires.memory (named_clean clean)) in
    record {
      idle = c.act_on_rows.ensures.keeps.idle;
      clean = λ clean. c.tenant_of_token.ensures.reads.clean (c.may_ask.ensures.reads.clean (c.find_id.ensures.reads.clean (named_clean clean)));
      ends = λ db late at.
          ask_if g.S.Store g.R.Render.shown c.act_on_rows.new.conn db late _ _ _ c.act_on_rows.ensures.keeps.idle at.stands.sound at.consistent
          (λ clean. let it = found db late at clean in c.act_on_rows.ensures.ends db late c.args.digest.now c.args.name.now it.0 (here g b db late at) it.1 (known db late at clean));
      memory = λ db late at.
          shows_if g.S.Store c.act_on_rows.result c.act_on_rows.new.conn (IsMemoryOf c.act_on_rows.new.memory) (λ clean.
          let it = found db late at clean in
          c.act_on_rows.ensures.memory db late c.args.digest.now c.args.name.now it.0 (here g b db late at) it.1 (known db late at clean));
      cause = λ db late at reads.
          asked_clean old new c.act_on_rows.result (λ clean.
          let it = found db late at clean in
          stopped_after ⊥ old mid new c.act_on_rows.result survived c.act_on_rows.ensures.keeps.survives (c.act_on_rows.ensures.cause db late c.args.digest.now c.args.name.now it.0 (here g b db late at) it.1 reads));
      stops = λ db late at.
          stopped_clean _ old new c.act_on_rows.result (λ clean.
          let it = found db late at clean in
          stopped_after _ old mid new c.act_on_rows.result survived c.act_on_rows.ensures.keeps.survives (c.act_on_rows.ensures.stops db late c.args.digest.now c.args.name.now it.0 (here g b db late at) it.1 (known db late at clean)));
    }
