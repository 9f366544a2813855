use Rattle.std.proofs.Common.{◌≡◌, ◌+◌, ℕ, List, Option, Result, Ok, Err, IfNone, IfErr}
use Rattle.std.specs.Result.{result_ok}
use Rattle.wgr_dump.specs.Fields.{fields_of, peer_forms}
use Rattle.wgr_dump.specs.Dump.{LineValue, IsPeerLine}
use Rattle.wgr_dump.specs.Fault.{IsBadField}
use Rattle.wgr_dump.proofs.LineLemmas.{good_not_bad, peer_is_good}
use Rattle.wgr_dump.proofs.lines.read_peer_line.Goals as goal

no_peer : (line : List ℕ) (r : Result LineValue ℕ) (o : Option LineValue) → o ≡ result_ok r → IfErr r (λ field. (n : ℕ) × (field ≡ n + 1) × IsBadField peer_forms (fields_of line) n) → IfNone o ((v : LineValue) → ¬ (IsPeerLine line v))
no_peer line (Ok v) o is bad = rw is tt
no_peer line (Err field) o is bad = rw is (λ v good. good_not_bad peer_forms (fields_of line) bad.0 (peer_is_good line v good) bad.2)

pub returns-clause-none : goal.returns-clause-none
returns-clause-none c = no_peer c.args.line.now c.read.result c.ok.result c.ok.ensures.value c.read.ensures.err
