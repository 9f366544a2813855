use Rattle.std.proofs.Common.{◌∙◌, subst, refl}
use Rattle.std.proofs.lemmas.Result.{on_ok_weaker}
use Rattle.serde_json.specs.Data.{string}
use Rattle.serde_json.specs.Events.{SendsValue}
use Rattle.wgr_json.specs.Values.{count, key_data, prefix_data}
use Rattle.wgr_reply.proofs.network.Tuple2NameNetworkToJsonInReply.send.Goals as goal

-- one member after the other
pub returns : goal.returns
returns g c =
    let w = g.S.Serializer.written in
    let capacity = c.in_ok-send_number.ensures in
    let endpoint = c.in_ok-send_text.ensures in
    let name = c.in_ok-send_text-2.ensures in
    let pool = c.in_ok-send_member.ensures in
    let server = c.in_ok-send_member-2.ensures in
    on_ok_weaker c.end_map.result (λ e. (
      w c.begin_map.new.self,
      c.in_ok-begin_map.ensures,
      (
        capacity.0,
        w c.send_number.new.out,
        capacity.1,
        subst (λ n. SendsValue (count n) capacity.0 (w c.send_number.new.out)) (c.from.ensures ∙ c.peers.ensures.value ∙ c.capacity.ensures) capacity.2,
        (
          endpoint.0,
          w c.send_text.new.out,
          endpoint.1,
          subst (λ s. SendsValue (string s) endpoint.0 (w c.send_text.new.out)) (c.as_str.ensures.value ∙ c.in-Ok.ensures ∙ rw (c.host.ensures, c.port.ensures) refl) endpoint.2,
          (
            name.0,
            w c.send_text-2.new.out,
            name.1,
            subst (λ s. SendsValue (string s) name.0 (w c.send_text-2.new.out)) c.as_str-2.ensures.value name.2,
            (
              pool.0,
              w c.send_member.new.out,
              pool.1,
              subst (λ p. SendsValue (prefix_data p) pool.0 (w c.send_member.new.out)) (c.prefix.ensures.value ∙ c.pool.ensures.value) pool.2,
              (
                server.0,
                w c.send_member-2.new.out,
                server.1,
                subst (λ k. SendsValue (key_data k) server.0 (w c.send_member-2.new.out)) c.server_key.ensures server.2,
                e,
              ),
            ),
          ),
        ),
      ),
    )) c.end_map.ensures
