-- The servers' files that a register keeps in memory, and how they relate to its rows.
use Rattle.std.specs.Prelude.{◌≡◌, ℕ, ◌+◌, ◌*◌, false, List, [], Option, None, Some, nat_eq}
use Rattle.std.specs.Map.{lookup}
use Rattle.lru.specs.LruCache.{LruCache}
use Rattle.wgr_conf.specs.Files.{server_config}
use Rattle.wgr_core.specs.Network.{NetworkValue}
use Rattle.wgr_core.specs.declared.form.Form.{Form}
use Rattle.wgr_core.specs.declared.form.Form.TheVariants.{Quick, Wg}
use Rattle.wgr_model.specs.Rows.{IsFormed, Tables}
use Rattle.wgr_register.specs.Moments.{IsInSpan}
use Rattle.wgr_register.specs.declared.kept_file.KeptFile.{KeptFile}

-- files by the keys of their networks and forms
abbrev pub Cached : Type 0
Cached = List (ℕ × KeptFile)

abbrev pub files_of : Option (LruCache ℕ KeptFile) → Cached
files_of None = []
files_of (Some cache) = cache.entries

abbrev pub file_key : ℕ → Form → ℕ
file_key id Wg = id * 2
file_key id Quick = id * 2 + 1

-- the file of the network that the rows of this id form, at each of its moments
abbrev pub IsCurrent : Tables → ℕ → Form → KeptFile → Type 0
IsCurrent t id form e = (n : NetworkValue) × IsFormed t id n × ((m : ℕ) → IsInSpan e.moments m → e.text.items ≡ server_config n m form)

-- each file that is found is current
abbrev pub AreCurrent : Cached → Tables → Type 0
AreCurrent files t = (id : ℕ) (form : Form) (e : KeptFile) → lookup (nat_eq (file_key id form)) files ≡ Some e → IsCurrent t id form e

-- and so is each except those of this id
abbrev pub AreOthersCurrent : ℕ → Cached → Tables → Type 0
AreOthersCurrent id files t = (other : ℕ) (form : Form) (e : KeptFile) → nat_eq id other ≡ false → lookup (nat_eq (file_key other form)) files ≡ Some e → IsCurrent t other form e
