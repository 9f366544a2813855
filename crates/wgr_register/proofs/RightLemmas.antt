-- The right of a token, sought among the digests of those that only read.
use Rattle.std.proofs.Common.{◌≡◌, ℕ, ◌<◌, Bool, true, false, ◌||◌, cond, List, [], ◌∷◌, Ok, Err, Result, inl, inr, length, map, not, refl, sym, ap, subst, ◌∙◌, arith}
use Rattle.std.specs.Prelude.{if◌then◌else◌}
use Rattle.std.specs.List.{AllByRecursion, HoldsAt, list_any}
use Rattle.std.specs.List.Sorted.{IsBinarySearchResult, IsPermutation, IsSearchInRange, IsSorted}
use Rattle.std.specs.Ordering.{is_eq, nat_cmp}
use Rattle.std.specs.Cmp.Lexicographic.{nat_list_cmp_total, slice_cmp}
use Rattle.std.specs.declared.cmp.Ordering.{Ordering}
use Rattle.std.specs.declared.cmp.Ordering.TheVariants.{Less, Equal, Greater}
use Rattle.std.proofs.lemmas.Bool.{cases_lt}
use Rattle.std.proofs.lemmas.List.Folds.{list_any_at, list_any_none}
use Rattle.std.proofs.lemmas.List.Sorted.{list_any-IsPermutation, searchable_from_sorted}
use Rattle.wgr_model.specs.Consistent.{IsDigest, has_digest}
use Rattle.wgr_core.specs.declared.command.Command.{Command}
use Rattle.wgr_model.specs.declared.right.Right.{Right}
use Rattle.wgr_model.specs.declared.right.Right.TheVariants.{Full, Read}
use Rattle.wgr_model.specs.Laws.{Has}
use Rattle.wgr_model.specs.Register.{Bytes, Token, is_same, right_of}
use Rattle.wgr_model.specs.RowLaws.{AreConsistent}
use Rattle.wgr_model.specs.Rows.{Tables}
use Rattle.wgr_model.specs.Steps.{allows}
use Rattle.wgr_model.proofs.LookLemmas.{is_same_is, is_same_sym, same_exact}
use Rattle.wgr_model.proofs.SameLemmas.{at_has}
use Rattle.wgr_orders.specs.declared.census.Granted.{Granted}
use Rattle.wgr_register.specs.Census.{with_right}

module _ (readers : List Bytes) (digest : Bytes) where
  told_by : (y : Bytes) (o : Ordering) → slice_cmp nat_cmp y digest ≡ o → is_same digest y ≡ is_eq o
  told_by y o is = is_same_sym digest y ∙ sym (is_same_is y digest) ∙ ap is_eq is

  pub found_reads : (i : ℕ) → i < length readers → HoldsAt (λ y. slice_cmp nat_cmp y digest ≡ Equal) readers i → right_of readers digest ≡ Read
  found_reads i low is = ap (λ b. if b then Read else Full) (list_any_at (is_same digest) readers i [] low (told_by _ Equal (is [])))

  pub else_full : (i : ℕ) → IsSorted (slice_cmp nat_cmp) readers → IsBinarySearchResult (λ y. slice_cmp nat_cmp y digest) readers (Err i) → right_of readers digest ≡ Full
  else_full i up found =
      let parted = found (searchable_from_sorted nat_list_cmp_total (λ y. y) readers digest up) in
      ap (λ b. if b then Read else Full) (list_any_none (is_same digest) readers (λ k d low. elim (cases_lt k i) [
        | inl before ↦ told_by _ Less (parted.0 k d (omega arith) before)
        | inr after ↦ told_by _ Greater (parted.1 k d after low)
      ]))

-- in whatever order
pub right_read : (readers others : List Bytes) (digest : Bytes) → IsPermutation readers others → right_of others digest ≡ right_of readers digest
right_read readers others digest same = ap (λ b. if b then Read else Full) (sym (list_any-IsPermutation (is_same digest) readers others same))

pub rights_read : (readers others : List Bytes) → IsPermutation readers others → (xs : List Token) → map (with_right others) xs ≡ map (with_right readers) xs
rights_read readers others same [] = refl
rights_read readers others same (x ∷ xs) = λ k. record { token = x; right = right_read readers others x.digest same k } ∷ rights_read readers others same xs k

-- a token's digest is one
digest_kept : (ts : List Token) (d : Bytes) → AllByRecursion (λ (y : Token). IsDigest y.digest) ts → has_digest ts d ≡ true → IsDigest d
digest_kept [] d all h = absurd cc
digest_kept (x ∷ ts) d all h = go (is_same d x.digest) refl h (digest_kept ts d all.1)
  where
    go : (b : Bool) → is_same d x.digest ≡ b → (b || has_digest ts d) ≡ true → (has_digest ts d ≡ true → IsDigest d) → IsDigest d
    go true is h later = subst IsDigest (sym (same_exact d x.digest is)) all.0
    go false is h later = later h

pub reader_kept : (t : Tables) → AreConsistent t → (d : Bytes) → Has t.readers d → IsDigest d
reader_kept t good d here = digest_kept t.tokens d good.consistent.tokens (at_has (λ x. has_digest t.tokens x ≡ true) t.readers d good.consistent.reader_tokens here)

-- ---- whether a token may ask a command

-- any token may ask one that only reads
pub reading_allowed : (right : Right) (command : Command) → allows Read command ≡ true → allows right command ≡ true
reading_allowed Full command reads = refl
reading_allowed Read command reads = reads

-- and one that changes, if it isn't among those that only read
pub change_allowed : (reader : Bool) (command : Command) → allows Read command ≡ false → not reader ≡ allows (if reader then Read else Full) command
change_allowed true command changes = sym changes
change_allowed false command changes = refl
