-- An adoption leaves a network that keeps the rules.
use Rattle.std.proofs.Common.{List, Option, Some}
use Rattle.std.specs.Prelude.{IfOk}
use Rattle.std.specs.List.{All}
use Rattle.wgr_text.specs.declared.key.Key.{Key}
use Rattle.wgr_core.specs.declared.seen_peer.SeenPeer.{SeenPeer}
use Rattle.wgr_core.specs.Network.{NetworkValue, IsNetwork}
use Rattle.wgr_core.specs.Adoption.{Adoption, peer_of_line}
use Rattle.wgr_core.specs.Outcome.{AreLinesAsked, IsPrefixAsked, adopt}
use Rattle.wgr_core.proofs.JoinLemmas.{joined_is_network}
use Rattle.wgr_core.proofs.ReplaceLemmas.{amended_is_network}
use Rattle.wgr_core.proofs.RoutedKeeps.{routed_is_network}
use Rattle.wgr_core.proofs.AdoptSteps.{AreSteps, adopt_if, adoption_keeps, peopled}

abbrev KeepsRules : Adoption → Type 0
KeepsRules s = IsNetwork s.network

abbrev AsksPrefixes : SeenPeer → Type 0
AsksPrefixes line = All IsPrefixAsked line.allowed

rule_steps : AreSteps AsksPrefixes IsPrefixAsked KeepsRules
rule_steps = record {
  prefixes = λ line are. are;
  joins = λ s line a people is asks may. joined_is_network s.network (peer_of_line s.network line a) is may;
  notes = λ s line p people is asks keyed. amended_is_network s.network p p.until (Some line.status) is keyed.stands;
  leads = λ s p number is masked may. routed_is_network s.network p number is (record { masked = masked; stands = may.stands; no_address = may.no_address; room = may.room });
}

pub adopt_keeps : (n : NetworkValue) (server : Option Key) (lines : List SeenPeer) → IsNetwork n → AreLinesAsked lines → IfOk (adopt n server lines) (λ done. IsNetwork done.1)
adopt_keeps n server lines is asked = adopt_if (λ done. IsNetwork done.1) n server lines (adoption_keeps AsksPrefixes IsPrefixAsked KeepsRules rule_steps n lines (peopled n is) is asked)
