-- Steps and runs over the rows, and what follows from them.
use Rattle.std.specs.Prelude.{◌≡◌, false, List, [], ◌∷◌, Option, Some, None}
use Rattle.wgr_core.specs.Network.{NetworkValue}
use Rattle.wgr_laws.specs.Laws.{HasSettingsOf}
use Rattle.wgr_model.specs.Register.{Bytes, NetworkEntry, Register, View, IsSame, tenant_view}
use Rattle.wgr_model.specs.Consistent.{IsConsistent}
use Rattle.wgr_model.specs.Steps.{Event, Answer, IsStep, put_network}
use Rattle.wgr_model.specs.Tenants.{Agree, own_events, tenant_run}
use Rattle.wgr_model.specs.Runs.{Served, AreProper, acknowledged}
use Rattle.wgr_model.specs.Laws.{Has}
use Rattle.wgr_model.specs.Rows.{AllowedRow, Tables, AreRowsOf, Replaces, register_of, third_version}

-- what is read from the rows is a consistent register, and every row is one of its rows
pub record AreConsistent (t : Tables) : Type 0 where
  pub consistent : IsConsistent (register_of t)
  pub rows : AreRowsOf (register_of t) t

-- the tables of a register without entries
abbrev pub no_rows : Tables
no_rows = record { meta = third_version; tenants = []; tokens = []; networks = []; seconds = []; readers = []; peers = []; allowed = [] }

-- what a tenant sees, read from the rows
abbrev pub rows_view : Tables → Bytes → View
rows_view t me = tenant_view (register_of t) me

-- an event, its answer, and the rows after it
pub record IsRowStep (t : Tables) (e : Event) (answer : Answer) (u : Tables) : Type 0 where
  pub after : Register
  pub step : IsStep (register_of t) e answer after
  pub rows : AreRowsOf after u

-- it is a step, or it was answered Unavailable and no row changed
abbrev pub IsRowServed : Tables → Event → Option Answer → Tables → Type 0
IsRowServed t event None u = t ≡ u
IsRowServed t event (Some answer) u = IsRowStep t event answer u

abbrev pub IsRowRun : Tables → List Served → Tables → Type 0
IsRowRun t [] u = t ≡ u
IsRowRun t (e ∷ es) u = (next : Tables) × IsRowServed t e.0 e.1 next × IsRowRun next es u

-- two address rows with the same address are the same row
abbrev pub HasOneRow : Tables → Type 0
HasOneRow t = (a b : AllowedRow) → Has t.allowed a → Has t.allowed b → a.is_route ≡ false → b.is_route ≡ false → a.prefix.address ≡ b.prefix.address → a ≡ b

-- The main theorem over rows: the answers to each tenant, and what its rows at the end show, are
-- those of its own requests and of the accepted orders about it, on what its rows showed at the
-- beginning.
pub record AreIsolated (t : Tables) (es : List Served) (u : Tables) : Type 0 where
  pub answers : (me : Bytes) → Agree (tenant_run me (rows_view t me) (acknowledged es)).0 (acknowledged es)
  pub views : (me : Bytes) → (tenant_run me (rows_view t me) (acknowledged es)).1 ≡ rows_view u me
  pub consistent : AreConsistent u
  pub holders : HasOneRow u

abbrev pub RowsAreIsolated : Type 0
RowsAreIsolated = (t u : Tables) (es : List Served) → AreConsistent t → AreProper es → IsRowRun t es u → AreIsolated t es u

-- the rows of a consistent register are consistent
abbrev pub RowsStayConsistent : Type 0
RowsStayConsistent = (r : Register) (t : Tables) → AreRowsOf r t → IsConsistent r → AreConsistent t

abbrev pub NoRowsAreConsistent : Type 0
NoRowsAreConsistent = AreConsistent no_rows

-- the rows of a consistent register are read back as that register, in whatever order they are
abbrev pub RowsAreRead : Type 0
RowsAreRead = (r : Register) (t : Tables) → AreRowsOf r t → IsConsistent r → IsSame r (register_of t)

-- so all rows of the same register show each tenant the same view
abbrev pub OrderIsUnseen : Type 0
OrderIsUnseen = (r : Register) (t u : Tables) (me : Bytes) → AreRowsOf r t → AreRowsOf r u → IsConsistent r → rows_view t me ≡ rows_view u me

-- a commit that replaces the rows of one network leaves the rows of the register with that network
abbrev pub CommitsReplace : Type 0
CommitsReplace = (r : Register) (t u : Tables) (h : NetworkEntry) (n : NetworkValue) → AreRowsOf r t → IsConsistent r → Has r.networks h
    → HasSettingsOf h.network n → Replaces h.id n t u → AreRowsOf (put_network r h.tenant h.name n) u

-- ---- two worlds

abbrev pub with_given : Option Answer → Answer → List Answer → List Answer
with_given None given answers = answers
with_given (Some a) given answers = given ∷ answers

-- the given answers, at the places where the tenant alone has one
abbrev pub answers_to : List (Option Answer) → List (Event × Answer) → List Answer
answers_to [] es = []
answers_to (a ∷ rest) [] = []
answers_to (a ∷ rest) (e ∷ es) = with_given a e.1 (answers_to rest es)

-- Two registers whose rows show a tenant the same view, and on each a list of events, such that the lists
-- agree, in order, on the events that are the tenant's own: the tenant gets the same answers, and the
-- rows at the end show it the same view.
abbrev pub RowsOfTwoWorlds : Type 0
RowsOfTwoWorlds = (me : Bytes) (t u x y : Tables) (es fs : List Served) → AreConsistent t → AreProper es → IsRowRun t es u → AreConsistent x → AreProper fs → IsRowRun x fs y
    → rows_view t me ≡ rows_view x me → own_events me (rows_view t me) (acknowledged es) ≡ own_events me (rows_view x me) (acknowledged fs)
    → (answers_to (tenant_run me (rows_view t me) (acknowledged es)).0 (acknowledged es) ≡ answers_to (tenant_run me (rows_view x me) (acknowledged fs)).0 (acknowledged fs)) × (rows_view u me ≡ rows_view y me)
