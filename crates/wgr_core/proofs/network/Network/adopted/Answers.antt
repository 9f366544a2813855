use Rattle.std.proofs.Common.{◌≡◌, None, sym}
use Rattle.wgr_core.specs.Outcome.{server_refusal}
use Rattle.wgr_core.proofs.AdoptingLemmas.{adopt_ok}
use Rattle.wgr_core.proofs.network.Network.adopted.Goals as goal

pub returns : goal.returns
returns c =
    let allowed : server_refusal c.args.self.now c.args.server ≡ None = sym c.in_default.ensures in
    adopt_ok c.args.self.now c.args.removed c.args.server c.args.lines.now c.in_ok-done.done c.in_ok-answer.field-0 allowed c.in_ok-done.ensures c.in_ok-answer.ensures.reply c.in_ok-answer.ensures.change
