-- Which fault is told of the fields of an order.
use Rattle.std.proofs.Common.{◌≡◌, ℕ, List, [], ◌∷◌, Option, Some, None, Result, Ok, Err, IfErr, inl, inr, refl, subst, sym}
use Rattle.std.specs.Prelude.{IsErrAnd}
use Rattle.wgr_words.specs.Asked.{NetworkAsked, OrderAsked, DigestEnd, NetworkAdd, NetworkEnd, TenantAdd, TokenEnd, TokenGrant}
use Rattle.wgr_model.specs.declared.right.Right.{Right}
use Rattle.wgr_model.specs.declared.right.Right.TheVariants.{Full}
use Rattle.wgr_orders.specs.declared.order.Order.{Order}
use Rattle.wgr_words.specs.declared.field.WordField.{WordField}
use Rattle.wgr_words.specs.declared.field.WordField.TheVariants as of
use Rattle.wgr_words.specs.declared.field.WordFault.{WordFault}
use Rattle.wgr_words.specs.declared.field.WordFault.TheVariants as fault
use Rattle.wgr_words.specs.declared.order.OrderDraft.TheVariants as draft
use Rattle.wgr_words.specs.Words.{HasFieldForm, IsRead, SpellsName, SpellsRight}
use Rattle.wgr_words.specs.Order.{Input, IsDraftFault, IsDraftOf, IsFaultIn, OrdersBy, TakesDigest, order_fields}

-- what `?` hands on is what it was given
pub passed : {T E : Type 0} (r : Result T E) (why : E) (P : E → Type 0) → IsErrAnd r (λ (e : E). e ≡ why) → P why → IfErr r P
passed (Ok x) why P is p = tt
passed (Err e) why P is p = subst P (sym is) p

-- it is this one
pub here : {A : Type 0} (P : A → Type 0) (field : WordField) (text : List ℕ) (more : List (WordField × List ℕ)) (why : WordFault)
    → (HasFieldForm field text → (a : A) × P a) → IsRead P field (Err why) → IsFaultIn ((field, text) ∷ more) why
here P field text more (fault.Field f) is told = inl (told.0, λ of. let value = is of in told.1 value.0 value.1)
here P field text more fault.NoMemory is told = tt
here P field text more fault.Device is told = told

-- this one is of its form
pub later : (field : WordField) (text : List ℕ) (more : List (WordField × List ℕ)) (why : WordFault)
    → HasFieldForm field text → IsFaultIn more why → IsFaultIn ((field, text) ∷ more) why
later field text more (fault.Field f) is told = inr (is, told)
later field text more fault.NoMemory is told = tt
later field text more fault.Device is told = told

-- the fields of a network from one on
abbrev pub from_capacity : NetworkAsked → List (WordField × List ℕ)
from_capacity w = (of.Capacity, w.capacity) ∷ []

abbrev pub from_key : NetworkAsked → List (WordField × List ℕ)
from_key w = (of.Key, w.key) ∷ from_capacity w

abbrev pub from_port : NetworkAsked → List (WordField × List ℕ)
from_port w = (of.Port, w.port) ∷ from_key w

abbrev pub from_host : NetworkAsked → List (WordField × List ℕ)
from_host w = (of.Host, w.host) ∷ from_port w

abbrev pub from_pool : NetworkAsked → List (WordField × List ℕ)
from_pool w = (of.Pool, w.pool) ∷ from_host w

abbrev pub from_name : NetworkAsked → List (WordField × List ℕ)
from_name w = (of.Name, w.name) ∷ from_pool w

pub draft_fault : (asked : OrderAsked) (why : WordFault) → ((token : List ℕ) → IsFaultIn (order_fields asked token) why) → IsDraftFault asked why
draft_fault asked (fault.Field f) told = told
draft_fault asked fault.NoMemory told = tt
draft_fault asked fault.Device told = told []

-- the right is not of its form
pub right_fault : (text tenant : List ℕ) (word : Option (List ℕ)) (why : WordFault) → SpellsName text tenant → IsRead (SpellsRight word) of.Right (Err why)
    → IsDraftFault (TokenGrant text word) why
right_fault text tenant None (fault.Field f) is told = absurd (told.1 Full refl)
right_fault text tenant (Some given) (fault.Field f) is told = λ token. inr ((tenant, is), inl (told.0, λ of. told.1 of.0 of.1))
right_fault text tenant word fault.NoMemory is told = tt
right_fault text tenant word fault.Device is told = told

-- the token alone is not of its form
pub grant_fault : (asked : OrderAsked) (tenant : List ℕ) (right : Right) (old new : Input) (why : WordFault) (r : Result Order WordFault)
    → IsErrAnd r (λ (e : WordFault). e ≡ why) → IsDraftOf asked (draft.Grant tenant right) → TakesDigest old new (Err why) → OrdersBy asked old new r
grant_fault asked tenant right old new why (Ok order) is drafted took = absurd is
grant_fault asked tenant right old new why (Err e) is drafted took =
    subst (λ (w : WordFault). OrdersBy asked old new (Err w)) (sym is) (by_fault asked why drafted took)
  where
    by_fault : (asked : OrderAsked) (why : WordFault) → IsDraftOf asked (draft.Grant tenant right) → TakesDigest old new (Err why) → OrdersBy asked old new (Err why)
    by_fault (TokenGrant text None) (fault.Field f) drafted took = inr (took.0, took.1, inr ((tenant, drafted.0), inl (took.2, took.3)))
    by_fault (TokenGrant text (Some word)) (fault.Field f) drafted took = inr (took.0, took.1, inr ((tenant, drafted.0), inr ((right, drafted.1), inl (took.2, took.3))))
    by_fault (TokenGrant text word) fault.NoMemory drafted took = took
    by_fault (TokenGrant text word) fault.Device drafted took = took
    by_fault (TenantAdd name) why drafted took = absurd drafted
    by_fault TokenEnd why drafted took = absurd drafted
    by_fault (DigestEnd text) why drafted took = absurd drafted
    by_fault (NetworkAdd network) why drafted took = absurd drafted
    by_fault (NetworkEnd first second) why drafted took = absurd drafted
