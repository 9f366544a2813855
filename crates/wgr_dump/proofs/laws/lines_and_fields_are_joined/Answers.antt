use Rattle.wgr_dump.proofs.JoinLemmas.{fields_joined, lines_joined, no_newline_within}
use Rattle.wgr_dump.proofs.laws.lines_and_fields_are_joined.Goals as goal

pub returns : goal.returns
returns c = record { lines = λ text. (lines_joined text, no_newline_within text); fields = fields_joined }
