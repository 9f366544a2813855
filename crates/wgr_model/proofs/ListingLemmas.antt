-- A tenant's networks by name.
use Rattle.std.proofs.Common.{◌≡◌, ℕ, suc, ◌-◌, ◌<◌, ◌≤◌, true, false, cond, List, [], ◌∷◌, length, slice_index_or, drop, drop-cons, map, filter, nat_eq, sym, ap, ◌∙◌, arith}
use Rattle.std.proofs.lemmas.List.{nil_from_length}
use Rattle.std.specs.Cmp.Lexicographic.{slice_cmp, nat_list_cmp_total}
use Rattle.std.specs.FinMap as map_
use Rattle.std.specs.Ordering.{nat_cmp}
use Rattle.wgr_core.specs.Network.{NetworkValue}
use Rattle.wgr_model.specs.Listing.{Entries, EntriesOf, put_entry}
use Rattle.wgr_model.specs.Register.{NetworkEntry, networks_of}

no_entries : map_.entries {X = NetworkValue} {R = slice_cmp nat_cmp} map_.empty ≡ []
no_entries = nil_from_length (map_.entries {X = NetworkValue} {R = slice_cmp nat_cmp} map_.empty) (sym (map_.len-entries map_.empty) ∙ map_.len-empty (slice_cmp nat_cmp) NetworkValue)

-- no networks have no entries
pub none_listed : (hs : List NetworkEntry) (id : ℕ) (entries : Entries) → hs ≡ [] → entries ≡ [] → EntriesOf hs id entries
none_listed hs id entries none e = rw none (rw e (sym no_entries))

-- one network more in front
pub one_listed : (h : NetworkEntry) (hs : List NetworkEntry) (id : ℕ) (entries : Entries) → nat_eq h.tenant id ≡ true → EntriesOf hs id entries → EntriesOf (h ∷ hs) id (put_entry h.name h.network entries)
one_listed h hs id entries is e =
    ap (λ (es : Entries). put_entry h.name h.network es) e
    ∙ sym (map_.entries-insert nat_list_cmp_total (map_.from_entries {R = slice_cmp nat_cmp} (networks_of hs id)) h.name h.network)
    ∙ ap (λ b. map_.entries (map_.from_entries {R = slice_cmp nat_cmp} (map (λ (x : NetworkEntry). (x.name, x.network)) (cond b (h ∷ filter (λ (x : NetworkEntry). nat_eq x.tenant id) hs) (filter (λ (x : NetworkEntry). nat_eq x.tenant id) hs))))) (sym is)

-- or one that isn't the tenant's
pub one_passed : (h : NetworkEntry) (hs : List NetworkEntry) (id : ℕ) (entries : Entries) → nat_eq h.tenant id ≡ false → EntriesOf hs id entries → EntriesOf (h ∷ hs) id entries
one_passed h hs id entries is_not e =
    e ∙ ap (λ b. map_.entries (map_.from_entries {R = slice_cmp nat_cmp} (map (λ (x : NetworkEntry). (x.name, x.network)) (cond b (h ∷ filter (λ (x : NetworkEntry). nat_eq x.tenant id) hs) (filter (λ (x : NetworkEntry). nat_eq x.tenant id) hs))))) (sym is_not)

-- one place before
pub step_back : (hs : List NetworkEntry) (rest : ℕ) (h : NetworkEntry) → 0 < rest → rest ≤ length hs → h ≡ slice_index_or hs (rest - 1) h → drop (rest - 1) hs ≡ h ∷ drop rest hs
step_back hs rest h some within at =
    let next : suc (rest - 1) ≡ rest = omega (arith, some) in
    let lt : rest - 1 < length hs = omega (arith, some, within) in
    drop-cons hs (rest - 1) h lt ∙ ap (λ k. slice_index_or hs (rest - 1) h ∷ drop k hs) next ∙ ap (λ x. x ∷ drop rest hs) (sym at)
