-- What stored values are read as.
use Rattle.std.proofs.Common.{◌≡◌, ◌+◌, ◌<◌, ◌/◌, ◌*◌, ◌%◌, ◌^◌, ℕ, List, pos, length, unsigned_abs, refl, sym, subst, ap, ◌∙◌, arith}
use Rattle.std.proofs.Math.Nat.{div-mul-le_self, mod-eq-sub-div-mul}
use Rattle.sqlite.specs.Order.{Row}
use Rattle.sqlite.specs.declared.types.Value.{Value}
use Rattle.sqlite.specs.declared.types.Value.TheVariants.{Blob, Int, Text}
use Rattle.sqlite_value.specs.Order.{bytes, column}
use Rattle.sqlite_rules.specs.Edit.{id_in}
use Rattle.wgr_text.specs.declared.addr.Family.{Family}
use Rattle.wgr_text.specs.declared.addr.Family.TheVariants.{V4, V6}
use Rattle.wgr_text.specs.Prefix.{AddrValue, PrefixValue, IsAddr, IsPrefix, block, mask, width}
use Rattle.wgr_pool.specs.Pool.{IsPool}
use Rattle.wgr_peers.specs.Host.{IsHost, IsHostText}
use Rattle.wgr_model.specs.Rows.{family_number}
use Rattle.wgr_columns.specs.Decode.{IsNumberAt, address_at, bytes_at, bytes_of, family_of, number_at, number_of, prefix_at}
use Rattle.wgr_columns.specs.Fields.{IsAddressAt, IsFamilyAt, IsHostAt, IsPoolAt, IsPrefixAt, IsSpelledAt}
use Rattle.wgr_columns.specs.Stored.{HasAddress, HasPrefix}
use Rattle.wgr_columns.proofs.ByteLemmas.{number_back, spelled_again}
use Rattle.wgr_columns.proofs.HostLemmas.{kept_again}

pub family_back : (f : Family) → family_of (family_number f) ≡ f
family_back V4 = refl
family_back V6 = refl

pub fits_128 : (f : Family) (n : ℕ) → n < 2 ^ width f → n < 2 ^ 128
fits_128 V4 n h = omega (arith, h)
fits_128 V6 n h = h

pub spelled_length : (v : Value) (n : ℕ) → v ≡ Blob (bytes_of n) → length (bytes v) ≡ 16
unfolding bytes_of
spelled_length v n is = ap (λ x. length (bytes x)) is

pub address_shown : (row : Row) (family at : ℕ) (a : AddrValue) → IsAddr a → HasAddress row family at a → address_at row family at ≡ a
address_shown row family at a fits (family_is, number_is) =
    let same_family : family_of (number_at row family) ≡ a.family = ap (λ v. family_of (unsigned_abs (id_in v))) family_is ∙ family_back a.family in
    let same_number : number_of (bytes (column row at)) ≡ a.number = ap (λ v. number_of (bytes v)) number_is ∙ number_back a.number (fits_128 a.family a.number fits) in
    λ k. record { family = same_family k; number = same_number k }

pub number_shown : (row : Row) (at n : ℕ) → column row at ≡ Int (pos n) → number_at row at ≡ n
number_shown row at n is = ap (λ v. unsigned_abs (id_in v)) is

pub prefix_shown : (row : Row) (at : ℕ) (p : PrefixValue) → IsAddr p.address → HasPrefix row at p → prefix_at row at ≡ p
prefix_shown row at p fits (address, long) =
    let same = address_shown row at (at + 1) p.address fits address in
    let same_length = number_shown row (at + 2) p.length long in
    λ k. record { address = same k; length = same_length k }

-- an address whose bits behind the length are 0 is masked as it is
pub masked_itself : (a : AddrValue) (length : ℕ) → a.number % block a.family length ≡ 0 → (mask a length).address ≡ a
masked_itself a length none =
    let same : a.number / block a.family length * block a.family length ≡ a.number = omega (arith, none, mod-eq-sub-div-mul a.number (block a.family length), div-mul-le_self a.number (block a.family length)) in
    λ k. record { family = a.family; number = same k }

-- ---- what is stored is there

pub spelled_there : (row : Row) (at n : ℕ) → column row at ≡ Blob (bytes_of n) → IsSpelledAt row at
spelled_there row at n is = is ∙ ap Blob (sym (spelled_again n)) ∙ ap (λ v. Blob (bytes_of (number_of (bytes v)))) (sym is)

pub family_there : (row : Row) (at : ℕ) (f : Family) → column row at ≡ Int (pos (family_number f)) → IsFamilyAt row at
family_there row at f is =
    let number : number_at row at ≡ family_number f = number_shown row at (family_number f) is in
    let back : family_of (number_at row at) ≡ f = ap family_of number ∙ family_back f in
    (is ∙ ap (λ n. Int (pos n)) (sym number), number ∙ ap family_number (sym back))

pub number_there : (row : Row) (at n : ℕ) → column row at ≡ Int (pos n) → IsNumberAt row at
number_there row at n is = is ∙ ap (λ m. Int (pos m)) (sym (number_shown row at n is))

pub address_there : (row : Row) (family at : ℕ) (a : AddrValue) → IsAddr a → HasAddress row family at a → IsAddressAt row family at
address_there row family at a fits (family_is, number_is) = record {
  family_is = family_there row family a.family family_is;
  spelled = spelled_there row at a.number number_is;
  fits = subst IsAddr (sym (address_shown row family at a fits (family_is, number_is))) fits;
}

pub prefix_there : (row : Row) (at : ℕ) (p : PrefixValue) → IsAddr p.address → IsPrefix p → HasPrefix row at p → IsPrefixAt row at
prefix_there row at p fits is (address, long) = record {
  address = address_there row at (at + 1) p.address fits address;
  length = number_there row (at + 2) p.length long;
  prefix = subst IsPrefix (sym (prefix_shown row at p fits (address, long))) is;
}

pub pool_there : (row : Row) (at : ℕ) (p : PrefixValue) → IsPool p → HasPrefix row at p → IsPoolAt row at
pool_there row at p is (address, long) = record {
  family = family_there row at p.address.family address.0;
  address = spelled_there row (at + 1) p.address.number address.1;
  length = number_there row (at + 2) p.length long;
  pool = subst IsPool (sym (prefix_shown row at p is.0 (address, long))) is;
}

pub host_there : (row : Row) (at : ℕ) (host : List ℕ) → IsHost host → column row at ≡ Text host → IsHostAt row at
host_there row at host is there =
    let same : bytes_at row at ≡ host = ap bytes there in
    (there ∙ ap Text (sym same), subst (λ t. IsHostText t t) (sym same) (kept_again host is))
