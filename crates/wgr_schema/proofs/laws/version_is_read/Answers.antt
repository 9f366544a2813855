use Rattle.wgr_schema.proofs.VersionLemmas.{version_read}
use Rattle.wgr_schema.proofs.laws.version_is_read.Goals as goal

pub returns : goal.returns
returns c = version_read
