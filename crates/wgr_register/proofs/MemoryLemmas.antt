-- What stays in memory of the networks, after what a call does to it and to the rows.
use Rattle.std.proofs.Common.{◌≡◌, ℕ, true, false, List, [], Option, Some, None, Ok, is_some, nat_eq, refl, subst, sym, true≢false}
use Rattle.sqlite.specs.Effect.{Database}
use Rattle.sqlite.specs.Held.{Held}
use Rattle.sqlite.specs.Store.{Ghosts}
use Rattle.wgr_columns.specs.Decode.{tables_of}
use Rattle.wgr_core.specs.Change.{Meets}
use Rattle.wgr_core.specs.Network.{NetworkValue}
use Rattle.wgr_core.specs.Outcome.{outcome_of}
use Rattle.wgr_core.specs.declared.change.Change.{Change}
use Rattle.wgr_core.specs.declared.command.Command.{Command}
use Rattle.wgr_core.specs.declared.reply.Reply.{Reply}
use Rattle.wgr_model.specs.Register.{Bytes}
use Rattle.wgr_model.specs.RowLaws.{AreConsistent}
use Rattle.wgr_model.specs.Rows.{IsFormed, Tables, network_entry_of}
use Rattle.wgr_model.specs.Steps.{IsProperCommand}
use Rattle.wgr_tables.specs.Writes.{Written}
use Rattle.wgr_register.specs.Cached.{AreCurrent, AreOthersCurrent, Cached, files_of}
use Rattle.wgr_register.specs.Ends.{CommitsIf, IsFound}
use Rattle.wgr_register.specs.Known.{known_outline}
use Rattle.wgr_register.specs.Loaded.{Shows}
use Rattle.wgr_register.specs.Memory.{IsAfter, IsMemoryOf, IsMemoryOfOthers}
use Rattle.wgr_register.specs.declared.memory.Memory.{Memory}
use Rattle.wgr_register.proofs.CachedLemmas.{current_after, others_after}
use Rattle.wgr_register.proofs.KnownLemmas.{other_outlines_after, outlines_after}
use Rattle.wgr_register.proofs.LoadedLemmas.{changed_other, changed_own, found_formed, shown_so}

-- ---- the rows change, and the networks of others are formed as they were

pub memory_after : (m : Memory) (t u : Tables) → ((id : ℕ) (n : NetworkValue) → IsFormed t id n → IsFormed u id n) → IsMemoryOf m t → IsMemoryOf m u
memory_after m t u stays is = record {
  networks = λ id n found. stays id n (is.networks id n found);
  files = current_after (files_of m.files) t u stays is.files;
  outlines = outlines_after (known_outline m.outlines) t u stays is.outlines;
}

pub others_of : (id : ℕ) (m : Memory) (t u : Tables) → ((other : ℕ) (n : NetworkValue) → nat_eq id other ≡ false → IsFormed t other n → IsFormed u other n) → IsMemoryOf m t → IsMemoryOfOthers id m u
others_of id m t u stays is = record {
  networks = λ other n off found. stays other n off (is.networks other n found);
  files = others_after id (files_of m.files) t u stays is.files;
  outlines = other_outlines_after id (known_outline m.outlines) t u stays is.outlines;
}

-- the files stay if nothing changes, and else those of the others
pub files_so : (change : Option Change) (id : ℕ) (n : NetworkValue) (m : Memory) (kept : Cached) (t u : Tables) → IsMemoryOf m t → IsAfter id n change t u
    → (is_some change ≡ true → (v : Tables) → AreOthersCurrent id (files_of m.files) v → AreCurrent kept v) → (is_some change ≡ false → kept ≡ files_of m.files) → AreCurrent kept u
files_so (Some change) id n m kept t u is after drops stay = drops refl u (others_after id (files_of m.files) t u after.others is.files)
files_so None id n m kept t u is after drops stay = subst (λ (l : Cached). AreCurrent l u) (sym (stay refl)) (subst (AreCurrent (files_of m.files)) (sym (after.same refl)) is.files)

-- ---- what the connection shows

module _ {S : Type 0} (g : Ghosts S) (conn : Held S) (db : Database) (pending : List Written) (consistent : AreConsistent (tables_of db)) (digest name : Bytes) (now : ℕ) (command : Command) (proper : IsProperCommand command) (id : ℕ) (n : NetworkValue)
    (found : IsFound (tables_of db) digest name command id n) (reply : Reply) (m : Memory) where
  -- what stays once the change, if there is one, is committed
  pub memory_so : (change : Option Change) → Meets n (Ok (reply, change)) (outcome_of n now command) → CommitsIf g conn db pending id (network_entry_of (tables_of db) found.row).network change
      → ((u : Tables) → IsAfter id n change (tables_of db) u → IsMemoryOf m u) → Shows g conn (IsMemoryOf m)
  memory_so None meets stands holds =
      shown_so g conn db pending (IsMemoryOf m) stands (holds (tables_of db) (record { own = found_formed (tables_of db) digest name id n found; others = λ other k off formed. formed; same = λ none. refl }))
  memory_so (Some change) meets done holds =
      let next = done.0 in
      let replaces = done.1.made in
      shown_so g conn next [] (IsMemoryOf m) done.2
      (holds (tables_of next)
      (record {
        own = changed_own (tables_of db) (tables_of next) consistent digest name now command proper id n found reply change meets replaces;
        others = changed_other (tables_of db) (tables_of next) consistent digest name now command proper id n found reply change meets replaces;
        same = λ none. absurd (true≢false none);
      }))
