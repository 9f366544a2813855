-- The text of `wg show <interface> dump` (wg(8)), and what is read from it: no private or preshared
-- key, fwmark or endpoint is.
use Rattle.std.specs.Prelude.{ℕ, ◌≡◌, List, [], ◌∷◌, Option}
use Rattle.wgr_text.specs.declared.key.Key.{Key}
use Rattle.wgr_text.specs.Lines.{lines_or_one}
use Rattle.wgr_text.specs.Prefix.{PrefixValue}
use Rattle.wgr_text.specs.KeyText.{SpellsKey}
use Rattle.wgr_dump.specs.Fields.{OneByOne, IsOf, a_key_or_none, a_word, fields_of, SpellsOptionalKey, SpellsPort, SpellsAllowed, CountValue, SpellsCount, SpellsKeepalive}

-- what is read from the interface's line
pub record InterfaceValue : Type 0 where
  pub public_key : Option Key
  pub port : ℕ

pub record IsInterfaceLine (line : List ℕ) (i : InterfaceValue) : Type 0 where
  pub private_field : List ℕ
  pub public_field : List ℕ
  pub port_field : List ℕ
  pub mark_field : List ℕ
  pub fields : fields_of line ≡ private_field ∷ public_field ∷ port_field ∷ mark_field ∷ []
  pub private_key : IsOf a_key_or_none private_field
  pub public_key : SpellsOptionalKey public_field i.public_key
  pub port : SpellsPort port_field i.port
  pub mark : IsOf a_word mark_field

-- what is read from a peer's line: the handshake in seconds since 1970 or 0, what was received and
-- sent in bytes, and the seconds between keepalives or 0
pub record LineValue : Type 0 where
  pub key : Key
  pub allowed : List PrefixValue
  pub handshake : CountValue
  pub received : CountValue
  pub sent : CountValue
  pub keepalive : ℕ

pub record IsPeerLine (line : List ℕ) (v : LineValue) : Type 0 where
  pub key_field : List ℕ
  pub preshared_field : List ℕ
  pub endpoint_field : List ℕ
  pub allowed_field : List ℕ
  pub handshake_field : List ℕ
  pub received_field : List ℕ
  pub sent_field : List ℕ
  pub keepalive_field : List ℕ
  pub fields : fields_of line ≡ key_field ∷ preshared_field ∷ endpoint_field ∷ allowed_field ∷ handshake_field ∷ received_field ∷ sent_field ∷ keepalive_field ∷ []
  pub key : SpellsKey key_field v.key
  pub preshared_key : IsOf a_key_or_none preshared_field
  pub endpoint : IsOf a_word endpoint_field
  pub allowed : SpellsAllowed allowed_field v.allowed
  pub handshake : SpellsCount handshake_field v.handshake
  pub received : SpellsCount received_field v.received
  pub sent : SpellsCount sent_field v.sent
  pub keepalive : SpellsKeepalive keepalive_field v.keepalive

pub record DumpValue : Type 0 where
  pub interface : InterfaceValue
  pub lines : List LineValue

-- the text's first line is the interface's, and each other line a peer's
pub record IsDump (text : List ℕ) (i : InterfaceValue) (lines : List LineValue) : Type 0 where
  pub first : List ℕ
  pub others : List (List ℕ)
  pub split : lines_or_one text ≡ first ∷ others
  pub interface : IsInterfaceLine first i
  pub peers : OneByOne IsPeerLine others lines
