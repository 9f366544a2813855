use Rattle.wgr_columns.specs.Decode.{bytes_of}
use Rattle.wgr_columns.proofs.value.bytes_of.Goals as goal

pub returns : goal.returns
unfolding bytes_of
returns c = c.to_be_bytes.ensures
