use Rattle.std.proofs.Common.{ap, ◌∙◌, map}
use Rattle.wgr_core.specs.declared.command.Command.TheVariants.{Adopt}
use Rattle.wgr_dump.specs.Unique.{one_dump}
use Rattle.wgr_dump.proofs.LawLemmas.{secrets_unread}
use Rattle.wgr_request.specs.Adopting.{seen_peer}
use Rattle.wgr_request.proofs.laws.adoptions_have_no_secrets.Goals as goal

pub returns : goal.returns
returns c = λ text other d e differ is_text is_other.
    let same = one_dump other d.interface e.interface d.lines e.lines ((secrets_unread text other differ d.interface d.lines).0 is_text) is_other in
    ap (λ i. Adopt i.public_key (map seen_peer d.lines)) same.0 ∙ ap (λ lines. Adopt e.interface.public_key (map seen_peer lines)) same.1
