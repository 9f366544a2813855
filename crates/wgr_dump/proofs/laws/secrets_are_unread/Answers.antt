use Rattle.wgr_dump.proofs.LawLemmas.{secrets_unread, secrets_no_fault}
use Rattle.wgr_dump.proofs.laws.secrets_are_unread.Goals as goal

pub returns : goal.returns
returns c = record { values = secrets_unread; faults = secrets_no_fault }
