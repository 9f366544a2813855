-- Networks by name.
use Rattle.std.proofs.Common.{◌≡◌, [], ◌∷◌, refl, ap, Ordering, Less, Equal, Greater}
use Rattle.std.specs.BTreeMap.{insert_entry}
use Rattle.std.specs.Cmp.Lexicographic.{slice_cmp}
use Rattle.std.specs.FinMap.Entries.{by_order}
use Rattle.std.specs.Ordering.{match_ordering, nat_cmp}
use Rattle.wgr_core.specs.Network.{NetworkValue}
use Rattle.wgr_model.specs.Listing.{Entries, put_entry}
use Rattle.wgr_model.specs.Register.{Bytes}

-- a map's entry comes to the place that the definition gives it
pub put_by_map : (name : Bytes) (n : NetworkValue) (es : Entries) → insert_entry (slice_cmp nat_cmp) es name n ≡ put_entry name n es
put_by_map name n [] = refl
put_by_map name n (e ∷ es) = by_case (slice_cmp nat_cmp name e.0) (put_by_map name n es) where
  by_case : (o : Ordering) → insert_entry (slice_cmp nat_cmp) es name n ≡ put_entry name n es
      → match_ordering o ((name, n) ∷ e ∷ es) ((e.0, n) ∷ es) (e ∷ insert_entry (slice_cmp nat_cmp) es name n)
      ≡ by_order o ((name, n) ∷ e ∷ es) ((e.0, n) ∷ es) (e ∷ put_entry name n es)
  by_case Less rest = refl
  by_case Equal rest = refl
  by_case Greater rest = ap (λ xs. e ∷ xs) rest
