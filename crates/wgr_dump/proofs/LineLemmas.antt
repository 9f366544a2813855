-- Lines, good and bad.
use Rattle.std.proofs.Common.{◌≡◌, ℕ, suc, zero, List, [], ◌∷◌, refl, sym, subst, arith}
use Rattle.wgr_dump.specs.Fields.{Form, fields_of, peer_forms, interface_forms}
use Rattle.wgr_dump.specs.Dump.{LineValue, InterfaceValue, IsPeerLine, IsInterfaceLine}
use Rattle.wgr_dump.specs.Fault.{AreOfForms, IsBadField}

-- no field of a good line is bad
pub good_not_bad : (forms : List Form) (fields : List (List ℕ)) (n : ℕ) → AreOfForms forms fields → IsBadField forms fields n → ⊥
good_not_bad [] [] n good bad = bad
good_not_bad [] (field ∷ fields) n good bad = good
good_not_bad (form ∷ forms) [] n good bad = good
good_not_bad (form ∷ forms) (field ∷ fields) zero good bad = bad good.0
good_not_bad (form ∷ forms) (field ∷ fields) (suc n) good bad = good_not_bad forms fields n good.1 bad.1

-- a line has one least bad field at most
pub one_bad_field : (forms : List Form) (fields : List (List ℕ)) (m n : ℕ) → IsBadField forms fields m → IsBadField forms fields n → m ≡ n
one_bad_field [] [] m n a b = absurd a
one_bad_field [] (field ∷ fields) m n a b = omega (arith, a, b)
one_bad_field (form ∷ forms) [] m n a b = omega (arith, a, b)
one_bad_field (form ∷ forms) (field ∷ fields) zero zero a b = refl
one_bad_field (form ∷ forms) (field ∷ fields) zero (suc n) a b = absurd (a b.0)
one_bad_field (form ∷ forms) (field ∷ fields) (suc m) zero a b = absurd (b a.0)
one_bad_field (form ∷ forms) (field ∷ fields) (suc m) (suc n) a b = let same = one_bad_field forms fields m n a.1 b.1 in omega (arith, same)

pub peer_is_good : (line : List ℕ) (v : LineValue) → IsPeerLine line v → AreOfForms peer_forms (fields_of line)
peer_is_good line v p = subst (λ fields. AreOfForms peer_forms fields) (sym p.fields)
    ((v.key, p.key), (p.preshared_key, (p.endpoint, ((v.allowed, p.allowed), ((v.handshake, p.handshake), ((v.received, p.received), ((v.sent, p.sent), ((v.keepalive, p.keepalive), tt))))))))

pub interface_is_good : (line : List ℕ) (i : InterfaceValue) → IsInterfaceLine line i → AreOfForms interface_forms (fields_of line)
interface_is_good line i p = subst (λ fields. AreOfForms interface_forms fields) (sym p.fields) (p.private_key, ((i.public_key, p.public_key), ((i.port, p.port), (p.mark, tt))))
