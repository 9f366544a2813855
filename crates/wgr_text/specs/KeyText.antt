-- The text of a key.
use Rattle.std.specs.Prelude.{◌≡◌, ℕ, true, List, length, codes}
use Rattle.base64.specs.GeneralPurpose.{IsBytes}
use Rattle.base64.specs.Rfc4648.{encode}
use Rattle.wgr_text.specs.declared.key.Key.{Key}

-- the 64 symbols (RFC 4648, section 4, table 1)
abbrev pub symbols : List ℕ
symbols = codes "ABCDEFGHIJKLMNOPQRSTUVWXYZabcdefghijklmnopqrstuvwxyz0123456789+/"

-- the encoding of a key's bytes, padded with `=`
abbrev pub key_text : List ℕ → List ℕ
key_text key = encode symbols 61 true key

-- the text is that of the key: 32 bytes
abbrev pub SpellsKey : List ℕ → Key → Type 0
SpellsKey text key = (length key.0 ≡ 32) × IsBytes key.0 × (text ≡ key_text key.0)
