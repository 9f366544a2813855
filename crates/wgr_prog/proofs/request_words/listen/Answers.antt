use Rattle.std.proofs.Common.{[], ◌∷◌, inl, inr, refl, rules, subst, sym}
use Rattle.std.specs.Prelude.{flat_map}
use Rattle.sqlite.specs.Files.{over_files}
use Rattle.wgr_service.specs.Connections.{AreConnectionsServed, contacts_of}
use Rattle.wgr_service.specs.Network.{Log, Logs, bound}
use Rattle.wgr_service.proofs.ConnectionLemmas.{logs_more, logs_none}
use Rattle.wgr_service.specs.declared.connections.Ending.{Ending}
use Rattle.wgr_prog.specs.Answering.{bound_address, orders_of, places_of, socket_of}
use Rattle.wgr_prog.proofs.request_words.listen.Goals as goal

pub returns-in-Served : goal.returns-in-Served
returns-in-Served g c =
    let (outcomes, served, written, logged, counts) = c.serve_connections.ensures.served in
    let s = c.args.serving.now in
    let before = g.N.Network.log c.args.network.now in
    let first = subst (λ port. Logs before (g.N.Network.log c.listen.new.self) (bound s.endpoint.0 port ∷ [])) c.number.ensures.value c.in-Ok.ensures.bound in
    let places = logs_more before (g.N.Network.log c.listen.new.self) (g.N.Network.log c.listen_orders.new.network) (bound_address s) (socket_of (orders_of s)) first c.in-Ok-listen_orders.ensures.bound in (
      (
        c.serve_connections.ensures.clean,
        (
          outcomes,
          subst (λ (e : Ending). AreConnectionsServed over_files c.args.office.now c.serve_connections.new.office s.moment s.count e outcomes) c.in-Served.is served,
          logs_more before (g.N.Network.log c.listen_orders.new.network) (g.N.Network.log c.serve_connections.new.network) (places_of s) (flat_map contacts_of outcomes) places logged,
          written,
        ),
      ),
      (search rules, search rules),
    )

pub returns : goal.returns
returns g c =
    let (outcomes, served, written, logged, counts) = c.serve_connections.ensures.served in
    let s = c.args.serving.now in
    let before = g.N.Network.log c.args.network.now in
    let first = subst (λ port. Logs before (g.N.Network.log c.listen.new.self) (bound s.endpoint.0 port ∷ [])) c.number.ensures.value c.in-Ok.ensures.bound in
    let places = logs_more before (g.N.Network.log c.listen.new.self) (g.N.Network.log c.listen_orders.new.network) (bound_address s) (socket_of (orders_of s)) first c.in-Ok-listen_orders.ensures.bound in (
      (
        c.serve_connections.ensures.clean,
        (
          outcomes,
          subst (λ (e : Ending). AreConnectionsServed over_files c.args.office.now c.serve_connections.new.office s.moment s.count e outcomes) c.in-Shut.is served,
          logs_more before (g.N.Network.log c.listen_orders.new.network) (g.N.Network.log c.serve_connections.new.network) (places_of s) (flat_map contacts_of outcomes) places logged,
          written,
        ),
      ),
      (search rules, search rules),
    )

pub returns-in_default-listen_orders : goal.returns-in_default-listen_orders
returns-in_default-listen_orders g c =
    let s = c.args.serving.now in
    let before = g.N.Network.log c.args.network.now in
    let first = subst (λ port. Logs before (g.N.Network.log c.listen.new.self) (bound s.endpoint.0 port ∷ [])) c.number.ensures.value c.in-Ok.ensures.bound in
    let kept = c.in_default-listen_orders.ensures.kept in
    (refl, inr (inl (subst (λ (log : Log). Logs before log (bound_address s)) (sym kept.1) first, kept.0, refl)))

pub returns-then-is_err : goal.returns-then-is_err
returns-then-is_err g c =
    let s = c.args.serving.now in
    let before = g.N.Network.log c.args.network.now in
    let after = g.N.Network.log c.listen_orders.new.network in
    let first = subst (λ port. Logs before (g.N.Network.log c.listen.new.self) (bound s.endpoint.0 port ∷ [])) c.number.ensures.value c.in-Ok.ensures.bound in
    let places = logs_more before (g.N.Network.log c.listen.new.self) after (bound_address s) (socket_of (orders_of s)) first c.in-Ok-listen_orders.ensures.bound in
    (refl, inr (inr (logs_more before after after (places_of s) [] places (logs_none after), search rules)))
