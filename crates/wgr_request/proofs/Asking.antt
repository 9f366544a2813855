-- The list of networks, and the digests of requests.
use Rattle.std.proofs.Common.{◌≡◌, ℕ, List, ◌⊎◌, inl, inr, Option, Some, None, Result, Ok, Err, refl, ap, ◌∙◌}
use Rattle.wgr_http.specs.Message.{MessageView}
use Rattle.wgr_request.specs.Bodies.{ReadCommand}
use Rattle.wgr_request.specs.Laws.{OnePathListsNetworks, TokensAreKept, digest_of_request}
use Rattle.wgr_request.specs.Request.{RequestView, Asks, Follows, digest_given, networks, on_network}
use Rattle.wgr_request.specs.Target.{TargetValue, resolved}
use Rattle.wgr_request.specs.Target as target
use Rattle.wgr_request.specs.declared.fault.RequestFault.{RequestFault}
use Rattle.wgr_request.proofs.Places.{by_its_method, is_get}

-- what is asked is the list of networks, or comes of an outcome on a network
some_outcome : (t : TargetValue) (m : MessageView) (d : List ℕ) (r : RequestView) → Asks d t m r
    → ((t ≡ target.networks) × (r ≡ networks d)) ⊎ ((name : List ℕ) × (o : ReadCommand) × (r ≡ on_network d name o))
some_outcome target.networks m d r is = inl (refl, is)
some_outcome (target.peers n) m d r on = inr (n, on.0, on.2)
some_outcome (target.peer n number) m d r on = inr (n, on.0, on.2)
some_outcome (target.address n number) m d r on = inr (n, on.0, on.2)
some_outcome (target.routes n number) m d r on = inr (n, on.0, on.2)
some_outcome (target.lease n number) m d r on = inr (n, on.0, on.2)
some_outcome (target.peer_file n number form) m d r on = inr (n, on.0, on.2)
some_outcome (target.unroute n) m d r on = inr (n, on.0, on.2)
some_outcome (target.dump n) m d r on = inr (n, on.0, on.2)
some_outcome (target.owner n text) m d r on = inr (n, on.0, on.2)
some_outcome (target.server_file n form) m d r on = inr (n, on.0, on.2)

-- ---- the list of networks

not_listed : (digest d name : List ℕ) (o : ReadCommand) → networks digest ≡ on_network d name o → ⊥
not_listed digest d name (Ok c) e = cc e
not_listed digest d name (Err why) e = cc e

asked_listed : (t : TargetValue) (m : MessageView) (digest d : List ℕ) → Asks d t m (networks digest) → (t ≡ target.networks) × (d ≡ digest)
asked_listed t m digest d asks = elim (some_outcome t m d (networks digest) asks) [
  | inl list ↦ let e = list.1 in (list.0, cc e)
  | inr on ↦ absurd (not_listed digest d on.0 on.1 on.2)
]

follows_listed : (x : Result TargetValue RequestFault) (given : Option (List ℕ)) (m : MessageView) (digest : List ℕ) → Follows x given m (networks digest)
    → (x ≡ Ok target.networks) × (given ≡ Some digest)
follows_listed (Err why) given m digest e = cc e
follows_listed (Ok t) None m digest e = cc e
follows_listed (Ok t) (Some d) m digest asks =
    let is = asked_listed t m digest d asks in (ap (λ x. Ok x) is.0, ap (λ x. Some x) is.1)

pub path_lists : OnePathListsNetworks
path_lists m digest asks =
    let is = follows_listed (resolved m.method m.target) (digest_given m) m digest asks in
    (is.0, is.1, is_get m.method (by_its_method m.method m.target target.networks is.0))

-- ---- digests

kept_on : (d name : List ℕ) (o : ReadCommand) → digest_of_request (on_network d name o) ≡ Some d
kept_on d name (Ok c) = refl
kept_on d name (Err why) = refl

asked_kept : (t : TargetValue) (m : MessageView) (d : List ℕ) (r : RequestView) → Asks d t m r → digest_of_request r ≡ Some d
asked_kept t m d r asks = elim (some_outcome t m d r asks) [
  | inl list ↦ ap digest_of_request list.1
  | inr on ↦ ap digest_of_request on.2 ∙ kept_on d on.0 on.1
]

follows_kept : (x : Result TargetValue RequestFault) (given : Option (List ℕ)) (m : MessageView) (r : RequestView) → Follows x given m r → digest_of_request r ≡ given
follows_kept (Err why) given m r e = ap digest_of_request e
follows_kept (Ok t) None m r e = ap digest_of_request e
follows_kept (Ok t) (Some d) m r asks = asked_kept t m d r asks

pub tokens_kept : TokensAreKept
tokens_kept m r asks = follows_kept (resolved m.method m.target) (digest_given m) m r asks
