use Rattle.std.proofs.Common.{◌∙◌, ap, subst, Bor}
use Rattle.std.proofs.lemmas.Result.{on_ok_weaker}
use Rattle.serde_json.specs.Data.{string}
use Rattle.serde_json.specs.Events.{SendsValue}
use Rattle.wgr_orders.specs.declared.census.Counted.{Counted}
use Rattle.wgr_json.specs.Values.{count, key_data, prefix_data}
use Rattle.wgr_show.proofs.shown.RefCountedToJsonInListing.send.Goals as goal

-- one member after the other
pub returns : goal.returns
returns g c =
    let w = g.S.Serializer.written in
    let name = c.in_ok-send_text.ensures in
    let pool = c.in_ok-send_member.ensures in
    let host = c.in_ok-send_text-2.ensures in
    let port = c.in_ok-send_number.ensures in
    let server = c.in_ok-send_member-2.ensures in
    let capacity = c.in_ok-send_number-2.ensures in
    let peers = c.in_ok-send_number-3.ensures in
    let routes = c.in_ok-send_number-4.ensures in
    on_ok_weaker c.end_map.result (λ e. (
      w c.begin_map.new.self,
      c.in_ok-begin_map.ensures,
      (
        name.0,
        w c.send_text.new.out,
        name.1,
        subst (λ s. SendsValue (string s) name.0 (w c.send_text.new.out)) (c.as_str.ensures.value ∙ ap (λ (n : Bor Counted). n.now.network_entry.name) c.self.view_is) name.2,
        (
          pool.0,
          w c.send_member.new.out,
          pool.1,
          subst (λ p. SendsValue (prefix_data p) pool.0 (w c.send_member.new.out)) (c.prefix.ensures.value ∙ c.pool.ensures.value ∙ ap (λ (n : Bor Counted). n.now.network_entry.network.pool) c.self.view_is) pool.2,
          (
            host.0,
            w c.send_text-2.new.out,
            host.1,
            subst (λ s. SendsValue (string s) host.0 (w c.send_text-2.new.out)) (c.as_str-2.ensures.value ∙ c.host.ensures ∙ ap (λ (n : Bor Counted). n.now.network_entry.network.host) c.self.view_is) host.2,
            (
              port.0,
              w c.send_number.new.out,
              port.1,
              subst (λ n. SendsValue (count n) port.0 (w c.send_number.new.out)) (c.from.ensures ∙ c.number.ensures.value ∙ c.port.ensures ∙ ap (λ (n : Bor Counted). n.now.network_entry.network.port) c.self.view_is) port.2,
              (
                server.0,
                w c.send_member-2.new.out,
                server.1,
                subst (λ k. SendsValue (key_data k) server.0 (w c.send_member-2.new.out)) (c.server_key.ensures ∙ ap (λ (n : Bor Counted). n.now.network_entry.network.server) c.self.view_is) server.2,
                (
                  capacity.0,
                  w c.send_number-2.new.out,
                  capacity.1,
                  subst (λ n. SendsValue (count n) capacity.0 (w c.send_number-2.new.out)) (c.from-2.ensures ∙ c.peers.ensures.value ∙ c.capacity.ensures ∙ ap (λ (n : Bor Counted). n.now.network_entry.network.capacity) c.self.view_is) capacity.2,
                  (
                    peers.0,
                    w c.send_number-3.new.out,
                    peers.1,
                    subst (λ n. SendsValue (count n) peers.0 (w c.send_number-3.new.out)) (ap (λ (n : Bor Counted). n.now.peers) c.self.view_is) peers.2,
                    (
                      routes.0,
                      w c.send_number-4.new.out,
                      routes.1,
                      subst (λ n. SendsValue (count n) routes.0 (w c.send_number-4.new.out)) (ap (λ (n : Bor Counted). n.now.routes) c.self.view_is) routes.2,
                      e,
                    ),
                  ),
                ),
              ),
            ),
          ),
        ),
      ),
    )) c.end_map.ensures
