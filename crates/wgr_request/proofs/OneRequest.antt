-- Bytes have one request at most, and a beginning that decides their message decides it.
use Rattle.std.proofs.Common.{◌≡◌, ℕ, List, Option, Some, None, Result, Ok, Err, codes, sym, ap, subst, ◌∙◌}
use Rattle.std.specs.Prelude.{bytes_eq}
use Rattle.wgr_core.specs.declared.command.Command.TheVariants as command
use Rattle.wgr_http.specs.Message.{MessageView}
use Rattle.wgr_http.specs.declared.message.MessageFault.{MessageFault}
use Rattle.wgr_http.proofs.Growing.{answers_unique}
use Rattle.wgr_request.specs.Bodies.{ReadCommand}
use Rattle.wgr_request.specs.Laws.{BeginningsAsk, IsOne, OneRequest}
use Rattle.wgr_request.specs.Request.{On, Asks, Follows, Judged, digest_given, on_network}
use Rattle.wgr_request.specs.Target.{TargetValue, resolved}
use Rattle.wgr_request.specs.Target as target
use Rattle.wgr_request.specs.declared.fault.RequestFault.{RequestFault}
use Rattle.wgr_request.proofs.OneOutcome.{one_move, one_route, one_unroute, one_renew, one_command, one_peers, one_adoption, one_owner}

one_on : (digest name : List ℕ) (Is : ReadCommand → Type 0) → IsOne Is → IsOne (On digest name Is)
one_on digest name Is one r s a b = a.2 ∙ ap (on_network digest name) (one a.0 b.0 a.1 b.1) ∙ sym b.2

one_asked : (digest : List ℕ) (t : TargetValue) (m : MessageView) → IsOne (Asks digest t m)
one_asked digest target.networks m = λ r s a b. a ∙ sym b
one_asked digest (target.peers name) m = one_on digest name _ (one_peers (bytes_eq m.method (codes "POST")) m.body)
one_asked digest (target.peer name number) m = one_on digest name _ (one_command (command.Revoke number))
one_asked digest (target.address name number) m = one_on digest name _ (one_move number m.body)
one_asked digest (target.routes name number) m = one_on digest name _ (one_route number m.body)
one_asked digest (target.lease name number) m = one_on digest name _ (one_renew number m.body)
one_asked digest (target.peer_file name number form) m = one_on digest name _ (one_command (command.PeerFile number form))
one_asked digest (target.unroute name) m = one_on digest name _ (one_unroute m.body)
one_asked digest (target.dump name) m = one_on digest name _ (one_adoption m.body)
one_asked digest (target.owner name text) m = one_on digest name _ (one_owner text)
one_asked digest (target.server_file name form) m = one_on digest name _ (one_command (command.ServerFile form))

one_after : (t : Result TargetValue RequestFault) (digest : Option (List ℕ)) (m : MessageView) → IsOne (Follows t digest m)
one_after (Err why) digest m r s a b = a ∙ sym b
one_after (Ok t) None m r s a b = a ∙ sym b
one_after (Ok t) (Some digest) m r s a b = one_asked digest t m r s a b

one_judged : (m : Result MessageView MessageFault) → IsOne (Judged m)
one_judged (Err why) r s a b = a ∙ sym b
one_judged (Ok m) r s a b = one_after (resolved m.method m.target) (digest_given m) m r s a b

pub one_request : OneRequest
one_request bytes r s a b =
    let same : b.0 ≡ a.0 = answers_unique bytes b.0 a.0 b.1 a.1 in
    one_judged a.0 r s a.2 (subst (λ m. Judged m s) same b.2)

-- what a beginning asks, all bytes ask
pub beginnings : BeginningsAsk
beginnings front None same = tt
beginnings front (Some all) same = λ r is. (is.0, same is.0 is.1, is.2)
