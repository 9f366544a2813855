-- The plan of a text of keys: the lines that are printed, and the first line that is refused.
use Rattle.std.specs.Prelude.{ℕ, ◌≡◌, ◌+◌, List, [], ◌∷◌, ◌++◌, replicate, codes, decimal, Option, Some, None, Ok, Err}
use Rattle.wgr_text.specs.declared.key.Key.{Key}
use Rattle.wgr_text.specs.Prefix.{PrefixValue}
use Rattle.wgr_text.specs.PrefixText.{canonical_text}
use Rattle.wgr_text.specs.KeyText.{SpellsKey, key_text}
use Rattle.wgr_peers.specs.declared.peer.Peer.{Peer}
use Rattle.wgr_core.specs.declared.command.Command.{Command}
use Rattle.wgr_core.specs.declared.command.Command.TheVariants as command
use Rattle.wgr_core.specs.declared.refusal.CommandRefusal.{CommandRefusal}
use Rattle.wgr_core.specs.declared.fault.ActFault.{ActFault}
use Rattle.wgr_core.specs.declared.fault.ActFault.TheVariants.{Refused, NoMemory}
use Rattle.wgr_core.specs.declared.reply.PeerView.{PeerView}
use Rattle.wgr_core.specs.declared.reply.Reply.TheVariants as reply
use Rattle.wgr_pool.specs.PrefixTests.{full}
use Rattle.wgr_core.specs.Network.{NetworkValue}
use Rattle.wgr_core.specs.Outcome.{outcome_of}
use Rattle.wgr_text.specs.Lines.{lines_of}
use Rattle.wgr_plan.specs.declared.row_fault.RowFault.{RowFault}
use Rattle.wgr_plan.specs.declared.row_fault.RowFault.TheVariants as fault

pub record Plan : Type 0 where
  pub printed : List ℕ
  pub refused : Option (ℕ × RowFault)

-- an empty network; nobody has the private key of its server key, and its endpoint has no effect
abbrev pub plan_network : PrefixValue → NetworkValue
plan_network pool = record { pool = pool; host = codes "localhost"; port = 51820; server = record { 0 = replicate 32 255 }; capacity = 4096; next = 1; peers = []; routes = [] }

-- a new peer at the lowest free address, without a label, a lease or keepalives
abbrev pub joining : Key → Command
joining key = command.Add key [] None 0 0

-- number, key and address, separated by tabs
abbrev pub row_text : Peer → List ℕ
row_text p = decimal p.number ++ codes "\t" ++ key_text p.key.0 ++ codes "\t" ++ canonical_text (full p.address) ++ codes "\n"

abbrev pub no_more : Plan
no_more = record { printed = []; refused = None }

abbrev pub refused_at : ℕ → RowFault → Plan
refused_at line why = record { printed = []; refused = Some (line, why) }

-- what is printed first, and then the rest of the plan
abbrev pub printed_first : List ℕ → Plan → Plan
printed_first printed p = record { printed = printed ++ p.printed; refused = p.refused }

-- the plan of the lines from this one on, for the network that the lines before it made
pub data Plans : NetworkValue → ℕ → List (List ℕ) → Plan → Type 0 where
  ends : (n : NetworkValue) (line : ℕ) → Plans n line [] no_more
  no_key : (n : NetworkValue) (line : ℕ) (text : List ℕ) (more : List (List ℕ))
      → ((key : Key) → ¬ (SpellsKey text key))
      → Plans n line (text ∷ more) (refused_at line fault.NoKey)
  refused : (n : NetworkValue) (line : ℕ) (text : List ℕ) (more : List (List ℕ)) (key : Key) (why : CommandRefusal)
      → SpellsKey text key → outcome_of n 0 (joining key) ≡ Err why
      → Plans n line (text ∷ more) (refused_at line (fault.Refused why))
  joined : (n : NetworkValue) (line : ℕ) (text : List ℕ) (more : List (List ℕ)) (key : Key) (view : PeerView) (m : NetworkValue) (p : Plan)
      → SpellsKey text key → outcome_of n 0 (joining key) ≡ Ok (reply.Peer view, m)
      → Plans m (line + 1) more p
      → Plans n line (text ∷ more) (printed_first (row_text view.peer) p)

-- the plan of a whole text
abbrev pub IsPlanOf : PrefixValue → List ℕ → Plan → Type 0
IsPlanOf pool text p = Plans (plan_network pool) 1 (lines_of text) p

-- ---- one line

-- the network is unchanged, and refuses the key; if memory ran out, this says nothing
abbrev pub RefusesKey : NetworkValue → Key → NetworkValue → ActFault → Type 0
RefusesKey n key n' (Refused why) = (n' ≡ n) × (outcome_of n 0 (joining key) ≡ Err why)
RefusesKey n key n' NoMemory = Unit {0}

-- the line is refused: no key, or one that the network refuses
pub data RefusesLine : NetworkValue → List ℕ → RowFault → Type 0 where
  spells_no_key : (n : NetworkValue) (text : List ℕ) → ((key : Key) → ¬ (SpellsKey text key)) → RefusesLine n text fault.NoKey
  network_refuses : (n : NetworkValue) (text : List ℕ) (key : Key) (why : CommandRefusal) → SpellsKey text key → outcome_of n 0 (joining key) ≡ Err why → RefusesLine n text (fault.Refused why)

-- the line's peer joins, and its row is printed
pub record JoinsLine (n : NetworkValue) (text printed : List ℕ) (n' : NetworkValue) (printed' : List ℕ) : Type 0 where
  pub key : Key
  pub view : PeerView
  pub spelled : SpellsKey text key
  pub outcome : outcome_of n 0 (joining key) ≡ Ok (reply.Peer view, n')
  pub row : printed' ≡ printed ++ row_text view.peer

abbrev pub AddsLine : NetworkValue → List ℕ → List ℕ → NetworkValue → List ℕ → Option RowFault → Type 0
AddsLine n text printed n' printed' None = JoinsLine n text printed n' printed'
AddsLine n text printed n' printed' (Some why) = (n' ≡ n) × (printed' ≡ printed) × RefusesLine n text why
