-- What the standard engine of base64 says of key texts.
use Rattle.std.proofs.Common.{◌≡◌, ℕ, ◌≤◌, List, length, take, refl, sym, ap, ◌∙◌}
use Rattle.std.proofs.lemmas.List.{length-append, length-take-le}
use Rattle.std.specs.declared.result.Result.TheVariants.{Ok, Err}
use Rattle.base64.specs.declared.decode.DecodeError.{DecodeError}
use Rattle.base64.specs.Engines.{standard}
use Rattle.base64.specs.GeneralPurpose.{IsBytes, decode_of}
use Rattle.base64.proofs.EngineFacts.{decode_of_strict, decode_of-encode_of}
use Rattle.base64.proofs.RoundTrip.{length-encode_symbols}
use Rattle.wgr_text.specs.declared.key.Key.{Key}
use Rattle.wgr_text.specs.KeyText.{SpellsKey, key_text, symbols}

-- a key's text has 44 characters
pub length-key_text : (key : List ℕ) → length key ≡ 32 → length (key_text key) ≡ 44
length-key_text key len =
    rw (length-append, length-encode_symbols symbols key, len) refl

-- what decodes is the text of what it decodes to
pub key_text_decoded : (text key : List ℕ) → IsBytes text → decode_of standard text ≡ Ok key → text ≡ key_text key
key_text_decoded text key bytes ok = decode_of_strict standard text key (refl, refl) bytes ok

-- a key's text decodes to the key
pub decoded_key_text : (text key : List ℕ) → IsBytes key → text ≡ key_text key → decode_of standard text ≡ Ok key
decoded_key_text text key bytes is = rw is (decode_of-encode_of standard key refl bytes)

-- so it never fails to decode
pub never_fails : (text key : List ℕ) (e : DecodeError) → IsBytes key → text ≡ key_text key → decode_of standard text ≡ Err e → ⊥
never_fails text key e bytes is err = let ok = decoded_key_text text key bytes is in cc (ok, err)

-- nor decodes to another number of bytes
pub length_decoded : (text key new : List ℕ) (count : ℕ) → IsBytes key → text ≡ key_text key → decode_of standard text ≡ Ok (take count new)
    → count ≤ length new → length key ≡ count
length_decoded text key new count bytes is ok room =
    let same = decoded_key_text text key bytes is in
    let e : key ≡ take count new = cc (same, ok) in
    rw e (length-take-le count new room)

-- and two keys have two texts
pub key_text_injective : (one other : List ℕ) → IsBytes one → IsBytes other → key_text one ≡ key_text other → one ≡ other
key_text_injective one other bytes_one bytes_other same =
    let first = decoded_key_text (key_text one) one bytes_one refl in
    let second = decoded_key_text (key_text one) other bytes_other same in
    cc (first, second)

-- a text spells one key at most
pub one_key : (text : List ℕ) (one other : Key) → SpellsKey text one → SpellsKey text other → one ≡ other
one_key text one other s t =
    let same : one.0 ≡ other.0 = key_text_injective one.0 other.0 s.1 t.1 (sym s.2 ∙ t.2) in
    let key : List ℕ → Key = λ bytes. record { 0 = bytes } in
    ap key same
