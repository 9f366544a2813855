-- Commands that aren't read from a JSON body.
use Rattle.std.specs.Prelude.{◌≡◌, ◌⊎◌, ℕ, Bool, true, false, List, Some, Ok, Err}
use Rattle.wgr_core.specs.declared.command.Command.{Command}
use Rattle.wgr_core.specs.declared.command.Command.TheVariants as command
use Rattle.wgr_dump.specs.Dump.{DumpValue, IsDump}
use Rattle.wgr_dump.specs.Fault.{IsFirstBad}
use Rattle.wgr_text.specs.PrefixText.{SpellsAddr}
use Rattle.wgr_request.specs.Adopting.{adoption_asked}
use Rattle.wgr_request.specs.Bodies.{ReadCommand, IsAdd, With}
use Rattle.wgr_request.specs.Fields.{IsText}
use Rattle.wgr_request.specs.declared.fault.RequestFault.TheVariants.{BadDump}
use Rattle.wgr_request.specs.declared.fault.RequestField.TheVariants.{Address}

-- this command, whatever the body
abbrev pub IsCommand : Command → ReadCommand → Type 0
IsCommand asked r = r ≡ Ok asked

-- on peers: POST adds one, GET lists all
abbrev pub IsPeers : Bool → List ℕ → ReadCommand → Type 0
IsPeers true body r = IsAdd body r
IsPeers false body r = IsCommand command.List r

-- the body is a dump that is adopted, or has a first bad field
abbrev pub IsAdoption : List ℕ → ReadCommand → Type 0
IsAdoption body r =
    ((dump : DumpValue) × IsDump body dump.interface dump.lines × (r ≡ Ok (adoption_asked dump)))
    ⊎ ((line : ℕ) × (field : ℕ) × IsFirstBad body line field × (r ≡ Err (BadDump line field)))

-- the owner of an address, which is written without a length
abbrev pub IsOwner : List ℕ → ReadCommand → Type 0
IsOwner text r = With (IsText SpellsAddr (Some text)) Address (λ address r. IsCommand (command.Owner address) r) r
