-- The fields of the words: what their texts spell.
use Rattle.std.specs.Prelude.{ℕ, ◌≡◌, ◌⊎◌, ◌-◌, true, List, cond, nat_eq, length, drop, take, ◌++◌, codes, Option, Some, None, Result, Ok, Err}
use Rattle.hex.specs.Hex.{decode_sized}
use Rattle.std.specs.Cmp.Lexicographic.{pointwise}
use Rattle.std.specs.Net.Grammar.{IsIpv4Text, IsIpv6Text}
use Rattle.std.specs.declared.net.ip_addr.IpAddr.{IpAddr}
use Rattle.std.specs.declared.net.ip_addr.IpAddr.TheVariants.{V4, V6}
use Rattle.wgr_text.specs.Prefix.{AddrValue}
use Rattle.wgr_text.specs.PrefixText.{Spells}
use Rattle.wgr_peers.specs.Host.{IsHostText}
use Rattle.wgr_peers.specs.Limits.{IsCapacity, IsCount, IsPort}
use Rattle.wgr_peers.specs.Name.{is_name}
use Rattle.wgr_dump.specs.Fields.{SpellsDecimal}
use Rattle.wgr_text.specs.KeyText.{SpellsKey}
use Rattle.wgr_model.specs.declared.right.Right.{Right}
use Rattle.wgr_model.specs.declared.right.Right.TheVariants.{Full, Read}
use Rattle.wgr_request.specs.Digest.{digest_of}
use Rattle.wgr_text.specs.declared.key.Key.{Key}
use Rattle.wgr_words.specs.declared.field.WordField.{WordField}
use Rattle.wgr_words.specs.declared.field.WordField.TheVariants as of
use Rattle.wgr_words.specs.declared.field.WordFault.{WordFault}
use Rattle.wgr_words.specs.declared.field.WordFault.TheVariants as fault

-- the name of a tenant or of a network
abbrev pub SpellsName : List ℕ → List ℕ → Type 0
SpellsName text name = (name ≡ text) × (is_name text ≡ true)

-- an address and a length
abbrev pub SpellsPlace : List ℕ → AddrValue × ℕ → Type 0
SpellsPlace text place = Spells text place.0 place.1

-- 1 to 19 decimal digits, and their number, which is at most 2 ^ 63 - 1
abbrev pub SpellsWhole : List ℕ → ℕ → Type 0
SpellsWhole text n = SpellsDecimal 19 text n × IsCount n

abbrev pub SpellsPortNumber : List ℕ → ℕ → Type 0
SpellsPortNumber text n = SpellsWhole text n × IsPort n

abbrev pub SpellsCapacity : List ℕ → ℕ → Type 0
SpellsCapacity text n = SpellsWhole text n × IsCapacity n

-- an IPv4 address, or an IPv6 address in brackets (RFC 3986, section 3.2.2)
abbrev pub SpellsListener : List ℕ → IpAddr → Type 0
SpellsListener text (V4 address) = IsIpv4Text text address
SpellsListener text (V6 address) = (inner : List ℕ) × (text ≡ codes "[" ++ inner ++ codes "]") × IsIpv6Text inner address

-- such an address, a colon and a port
pub record SpellsEndpoint (text : List ℕ) (endpoint : IpAddr × ℕ) : Type 0 where
  pub host : List ℕ
  pub digits : List ℕ
  pub parted : text ≡ host ++ codes ":" ++ digits
  pub address : SpellsListener host endpoint.0
  pub port : SpellsPortNumber digits endpoint.1

-- the text without its last byte if that is a newline
abbrev pub without_newline : List ℕ → List ℕ
without_newline text = cond (pointwise nat_eq (drop (length text - 1) text) (codes "\n")) (take (length text - 1) text) text

-- the digest of a token on one line, whose newline may be missing
abbrev pub SpellsToken : List ℕ → List ℕ → Type 0
SpellsToken text digest = digest_of (without_newline text) ≡ Some digest

-- 64 hexadecimal digits, in either case, and their 32 bytes
abbrev pub SpellsDigest : List ℕ → List ℕ → Type 0
SpellsDigest text digest = decode_sized text 32 ≡ Ok digest

-- what a token allows: `full`, or `read` for a token that only reads; where it is left out, it is full
abbrev pub SpellsRight : Option (List ℕ) → Right → Type 0
SpellsRight None right = right ≡ Full
SpellsRight (Some text) right = ((text ≡ codes "full") × (right ≡ Full)) ⊎ ((text ≡ codes "read") × (right ≡ Read))

-- the field's name, as messages have it
abbrev pub word_field_name : WordField → List ℕ
word_field_name of.Tenant = codes "tenant"
word_field_name of.Name = codes "name"
word_field_name of.Pool = codes "pool"
word_field_name of.Host = codes "host"
word_field_name of.Port = codes "port"
word_field_name of.Key = codes "key"
word_field_name of.Capacity = codes "capacity"
word_field_name of.HostPort = codes "host:port"
word_field_name of.Count = codes "count"
word_field_name of.Now = codes "now"
word_field_name of.Digest = codes "digest"
word_field_name of.Right = codes "right"
word_field_name of.Token = codes "token"

-- the text has the field's form
abbrev pub HasFieldForm : WordField → List ℕ → Type 0
HasFieldForm of.Tenant text = (name : List ℕ) × SpellsName text name
HasFieldForm of.Name text = (name : List ℕ) × SpellsName text name
HasFieldForm of.Pool text = (place : AddrValue × ℕ) × SpellsPlace text place
HasFieldForm of.Host text = (host : List ℕ) × IsHostText text host
HasFieldForm of.Port text = (n : ℕ) × SpellsPortNumber text n
HasFieldForm of.Key text = (key : Key) × SpellsKey text key
HasFieldForm of.Capacity text = (n : ℕ) × SpellsCapacity text n
HasFieldForm of.HostPort text = (endpoint : IpAddr × ℕ) × SpellsEndpoint text endpoint
HasFieldForm of.Count text = (n : ℕ) × SpellsWhole text n
HasFieldForm of.Now text = (n : ℕ) × SpellsWhole text n
HasFieldForm of.Digest text = (digest : List ℕ) × SpellsDigest text digest
HasFieldForm of.Right text = (right : Right) × SpellsRight (Some text) right
HasFieldForm of.Token text = (digest : List ℕ) × SpellsToken text digest

-- the value that a field's text spells, or the field if it spells none; on lack of memory nothing is known
abbrev pub IsRead : {A : Type 0} → (A → Type 0) → WordField → Result A WordFault → Type 0
IsRead Spelled field (Ok value) = Spelled value
IsRead {A} Spelled field (Err (fault.Field other)) = (other ≡ field) × ((value : A) → ¬ (Spelled value))
IsRead Spelled field (Err fault.NoMemory) = Unit {0}
IsRead Spelled field (Err fault.Device) = ⊥
