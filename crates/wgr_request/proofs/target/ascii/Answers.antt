use Rattle.std.proofs.Common.{sym, ◌∙◌}
use Rattle.std.proofs.lemmas.Str.{IsUtf8-from_ascii}
use Rattle.wgr_request.proofs.PartLemmas.{ascii_from_test}
use Rattle.wgr_request.proofs.target.ascii.Goals as goal

pub unreachable-requires : goal.unreachable-requires
unreachable-requires c = c.in_default.ensures.cases.0 (IsUtf8-from_ascii c.args.bytes.now (ascii_from_test c.args.bytes.now (sym c.is_ascii.ensures ∙ c.if-not-is_ascii.false)))
