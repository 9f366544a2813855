-- How a register in files is shown.
use Rattle.std.proofs.Common.{◌≡◌, ℕ, Bool, true, List, [], Option, Some, None, Result, Ok, Err, inl, inr, refl, subst, sym}
use Rattle.std.specs.declared.vec.Vec.{Vec}
use Rattle.std.specs.declared.alloc.Global.{Global}
use Rattle.sqlite.specs.Effect.{Database}
use Rattle.sqlite.specs.Files.{file_state, over_files}
use Rattle.sqlite.specs.Held.{Held}
use Rattle.sqlite.specs.Recovery.{Image}
use Rattle.sqlite.specs.State.{HasCleanDisk}
use Rattle.sqlite_disk.specs.declared.Disk as disk
use Rattle.sqlite_disk.specs.declared.Files.{Files}
use Rattle.sqlite_store.specs.declared.store.FileStore.{FileStore}
use Rattle.wgr_columns.specs.Decode.{tables_of}
use Rattle.wgr_file.specs.OnFiles.{AreThoseOf, IsClosedTo, IsOpen, FilesStay}
use Rattle.wgr_model.specs.Rows.{Tables}
use Rattle.wgr_model.specs.Steps.{Event}
use Rattle.wgr_register.specs.Standing.{StandsAt}
use Rattle.wgr_words.specs.declared.field.WordFault.{WordFault}
use Rattle.wgr_words.specs.declared.field.WordFault.TheVariants as word_fault
use Rattle.wgr_prog.specs.declared.register_words.Failure.{Failure}
use Rattle.wgr_prog.specs.declared.register_words.Failure.TheVariants as failure
use Rattle.wgr_prog.specs.OnRegister.{of_words}
use Rattle.wgr_prog.specs.Showing.{HasRead, IsNameFault, MayEndShow, SaysOfFiles, ShowsFiles, ShowsText, may_be_tenant}

module _ {D : Type 0} (g : disk.Ghosts D) (start : Image) (closed : Option (Files D)) where
  -- a register that was read, and closed at the rows that it was at
  pub read_at : (register left : Held (FileStore D g)) (IsTrueOf : Tables → Type 0) → IsOpen start register → (HasCleanDisk (file_state left) → HasCleanDisk (file_state register))
      → ((db : Database) (late : List Event) → StandsAt over_files register db late → StandsAt over_files left db late)
      → ((db : Database) (late : List Event) → StandsAt over_files register db late → HasCleanDisk (file_state left) → IsTrueOf (tables_of db))
      → IsClosedTo g closed left → HasRead g start closed IsTrueOf
  read_at register left IsTrueOf opened clean stands says is = record {
    left = left;
    closed_to = is;
    stood = λ now. let o = opened (clean now) in (o.0, o.1, stands o.0 [] o.2, says o.0 [] o.2 now);
  }

  -- what is said of the rows, by how it ended
  pub shows_text : (tenant : Option (List ℕ)) (is_json : Bool) (r : Result (Vec ℕ Global) Failure) → MayEndShow r → HasRead g start closed (SaysOfFiles tenant is_json r) → ShowsText g start closed tenant is_json r
  shows_text tenant is_json (Ok text) may has = has
  shows_text tenant is_json (Err (failure.Refused why)) may has = (may, has)
  shows_text tenant is_json (Err (failure.Register why)) may has = tt
  shows_text tenant is_json (Err (failure.Field field)) may has = absurd may
  shows_text tenant is_json (Err failure.Device) may has = absurd may
  shows_text tenant is_json (Err failure.Shut) may has = absurd may

  -- the name was tested before
  pub shows : (tenant : Option (List ℕ)) (is_json : Bool) (r : Result (Vec ℕ Global) Failure) → may_be_tenant tenant ≡ true → ShowsText g start closed tenant is_json r → ShowsFiles g start closed tenant is_json r
  shows tenant is_json (Ok text) form shown = (form, shown)
  shows tenant is_json (Err (failure.Refused why)) form shown = (form, shown)
  shows tenant is_json (Err (failure.Register why)) form shown = inr form
  shows tenant is_json (Err (failure.Field field)) form shown = absurd shown
  shows tenant is_json (Err failure.Device) form shown = absurd shown
  shows tenant is_json (Err failure.Shut) form shown = absurd shown

  -- the name can't be a tenant's, or there was no memory
  pub shows_fault : (tenant : Option (List ℕ)) (is_json : Bool) (why : WordFault) (failed : Failure) → failed ≡ of_words why → IsNameFault tenant why → ShowsFiles g start closed tenant is_json (Err failed)
  shows_fault tenant is_json why failed same told = subst (λ (f : Failure). ShowsFiles g start closed tenant is_json (Err f)) (sym same) (by_fault why told)
    where
      by_fault : (why : WordFault) → IsNameFault tenant why → ShowsFiles g start closed tenant is_json (Err (of_words why))
      by_fault (word_fault.Field field) told = told
      by_fault word_fault.NoMemory told = inl refl
      by_fault word_fault.Device told = absurd told

-- the files hold what they held
pub stays_read : {D : Type 0} (g : disk.Ghosts D) (start : Image) (closed : Option (Files D)) (IsTrueOf : Tables → Type 0) → HasRead g start closed IsTrueOf → FilesStay g start closed
stays_read g start None IsTrueOf has = tt
stays_read g start (Some files) IsTrueOf has = λ honest.
    let c = has.closed_to honest in
    let o = has.stood c.clean in
    ((file_state has.left).now.trees, subst (λ (d : Database). AreThoseOf start d.trees) (sym (o.2.stands.shows c.clean c.live)) o.1.found, c.holds)
