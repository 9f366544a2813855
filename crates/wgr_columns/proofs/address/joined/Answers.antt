use Rattle.wgr_columns.specs.Decode.{number_of}
use Rattle.wgr_columns.proofs.address.joined.Goals as goal

pub returns : goal.returns
unfolding number_of
returns c = c.from_be_bytes.ensures
