-- The order that a command's words and a token spell, and why they spell none.
use Rattle.std.specs.Prelude.{ℕ, ◌≡◌, ◌⊎◌, Bool, true, false, List, [], ◌∷◌, ◌++◌, Option, Some, None, MatchBool, Result, Ok, Err}
use Rattle.std.specs.Io.KnownBytes.{Consumes, IsAtEnd}
use Rattle.wgr_text.specs.PrefixText.{Spells}
use Rattle.wgr_peers.specs.Host.{IsHostText}
use Rattle.wgr_text.specs.KeyText.{SpellsKey}
use Rattle.wgr_model.specs.Steps.{Settings}
use Rattle.wgr_orders.specs.declared.order.Order.{Order}
use Rattle.wgr_orders.specs.declared.order.Order.TheVariants as order
use Rattle.wgr_words.specs.Asked.{NetworkAsked, OrderAsked, DigestEnd, NetworkAdd, NetworkEnd, TenantAdd, TokenEnd, TokenGrant}
use Rattle.wgr_words.specs.declared.field.WordField.{WordField}
use Rattle.wgr_words.specs.declared.field.WordField.TheVariants as of
use Rattle.wgr_words.specs.declared.field.WordFault.{WordFault}
use Rattle.wgr_words.specs.declared.field.WordFault.TheVariants as fault
use Rattle.wgr_words.specs.declared.order.OrderDraft.{OrderDraft}
use Rattle.wgr_words.specs.declared.order.OrderDraft.TheVariants as draft
use Rattle.wgr_words.specs.Words.{HasFieldForm, SpellsCapacity, SpellsDigest, SpellsName, SpellsPortNumber, SpellsRight, SpellsToken}

-- ---- the order

-- the words of `network-add` spell the tenant, the name and the settings
pub record SpellsNetwork (w : NetworkAsked) (tenant name : List ℕ) (settings : Settings) : Type 0 where
  pub tenant_is : SpellsName w.tenant tenant
  pub name_is : SpellsName w.name name
  pub pool_is : Spells w.pool settings.pool.address settings.pool.length
  pub host_is : IsHostText w.host settings.host
  pub port_is : SpellsPortNumber w.port settings.port
  pub key_is : SpellsKey w.key settings.server
  pub capacity_is : SpellsCapacity w.capacity settings.capacity

-- the words, and the text of the token, spell the order
abbrev pub MakesOrder : OrderAsked → List ℕ → Order → Type 0
MakesOrder (TenantAdd text) token (order.AddTenant name) = SpellsName text name
MakesOrder (TokenGrant text word) token (order.Grant tenant digest right) = SpellsName text tenant × SpellsRight word right × SpellsToken token digest
MakesOrder TokenEnd token (order.EndToken digest) = SpellsToken token digest
MakesOrder (DigestEnd text) token (order.EndToken digest) = SpellsDigest text digest
MakesOrder (NetworkAdd w) token (order.AddNetwork tenant name settings) = SpellsNetwork w tenant name settings
MakesOrder (NetworkEnd first second) token (order.EndNetwork tenant name) = SpellsName first tenant × SpellsName second name
MakesOrder asked token other = ⊥

-- ---- the first malformed field

-- the field of a right, where one is given
abbrev pub right_field : Option (List ℕ) → List (WordField × List ℕ)
right_field None = []
right_field (Some text) = (of.Right, text) ∷ []

-- the fields and their texts, in the order of the words, and the token after them
abbrev pub order_fields : OrderAsked → List ℕ → List (WordField × List ℕ)
order_fields (TenantAdd name) token = (of.Name, name) ∷ []
order_fields (TokenGrant tenant right) token = (of.Tenant, tenant) ∷ right_field right ++ (of.Token, token) ∷ []
order_fields TokenEnd token = (of.Token, token) ∷ []
order_fields (DigestEnd digest) token = (of.Digest, digest) ∷ []
order_fields (NetworkAdd w) token =
    (of.Tenant, w.tenant) ∷ (of.Name, w.name) ∷ (of.Pool, w.pool) ∷ (of.Host, w.host) ∷ (of.Port, w.port) ∷ (of.Key, w.key) ∷ (of.Capacity, w.capacity) ∷ []
order_fields (NetworkEnd tenant name) token = (of.Tenant, tenant) ∷ (of.Name, name) ∷ []

-- all fields before this one have their forms, and this one is malformed
abbrev pub IsFirstFault : WordField → List (WordField × List ℕ) → Type 0
IsFirstFault field [] = ⊥
IsFirstFault field ((first, text) ∷ more) = ((field ≡ first) × ¬ (HasFieldForm first text)) ⊎ (HasFieldForm first text × IsFirstFault field more)

-- the error is the first of these fields that is malformed, or lack of memory
abbrev pub IsFaultIn : List (WordField × List ℕ) → WordFault → Type 0
IsFaultIn fields (fault.Field field) = IsFirstFault field fields
IsFaultIn fields fault.NoMemory = Unit {0}
IsFaultIn fields fault.Device = ⊥

-- ---- before the token is read

abbrev pub wants_token : OrderAsked → Bool
wants_token (TokenGrant tenant right) = true
wants_token TokenEnd = true
wants_token other = false

-- what the words spell without the token
abbrev pub IsDraftOf : OrderAsked → OrderDraft → Type 0
IsDraftOf asked (draft.Whole order) = (wants_token asked ≡ false) × ((token : List ℕ) → MakesOrder asked token order)
IsDraftOf (TokenGrant text word) (draft.Grant tenant right) = SpellsName text tenant × SpellsRight word right
IsDraftOf TokenEnd draft.EndToken = Unit {0}
IsDraftOf asked other = ⊥

-- a field of the words is malformed, whatever the token; on lack of memory nothing is known
abbrev pub IsDraftFault : OrderAsked → WordFault → Type 0
IsDraftFault asked (fault.Field field) = (token : List ℕ) → IsFirstFault field (order_fields asked token)
IsDraftFault asked fault.NoMemory = Unit {0}
IsDraftFault asked fault.Device = ⊥

-- ---- with the input

-- what a reader has left, and whether a read has failed
pub record Input : Type 0 where
  pub remaining : Option (List ℕ)
  pub failed : Bool

abbrev pub input_of : {R : Type 0} → (R → Option (List ℕ)) → (R → Bool) → R → Input
input_of remaining failed input = record { remaining = remaining input; failed = failed input }

-- the text is all of the input
pub record TakesInput (old new : Input) (text : List ℕ) : Type 0 where
  pub taken : Consumes old.remaining new.remaining text
  pub ended : IsAtEnd new.remaining
  pub sound : new.failed ≡ old.failed

-- the digest of the token that is all of the input, or why it has none
abbrev pub TakesDigest : Input → Input → Result (List ℕ) WordFault → Type 0
TakesDigest old new (Ok digest) = (text : List ℕ) × TakesInput old new text × SpellsToken text digest
TakesDigest old new (Err (fault.Field field)) = (text : List ℕ) × TakesInput old new text × (field ≡ of.Token) × ¬ (HasFieldForm of.Token text)
TakesDigest old new (Err fault.NoMemory) = new.failed ≡ old.failed
TakesDigest old new (Err fault.Device) = new.failed ≡ true

-- all of the input is the token's text; where the order has no token, nothing is read
abbrev pub TakesToken : OrderAsked → Input → Input → List ℕ → Type 0
TakesToken asked old new token = MatchBool (wants_token asked) (TakesInput old new token) (new ≡ old)

-- a field of the words is malformed, and nothing is read; or the token is read, and it or another field is malformed
abbrev pub ReportsField : OrderAsked → Input → Input → WordField → Type 0
ReportsField asked old new field =
    ((new ≡ old) × ((token : List ℕ) → IsFirstFault field (order_fields asked token)))
    ⊎ ((token : List ℕ) × TakesToken asked old new token × IsFirstFault field (order_fields asked token))

-- the order that the words and the input spell, or why they spell none
abbrev pub OrdersBy : OrderAsked → Input → Input → Result Order WordFault → Type 0
OrdersBy asked old new (Ok order) = (token : List ℕ) × TakesToken asked old new token × MakesOrder asked token order
OrdersBy asked old new (Err (fault.Field field)) = ReportsField asked old new field
OrdersBy asked old new (Err fault.NoMemory) = new.failed ≡ old.failed
OrdersBy asked old new (Err fault.Device) = new.failed ≡ true
