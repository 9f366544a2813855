use Rattle.std.proofs.Common.{map, subst}
use Rattle.std.proofs.lemmas.Result.{on_ok_weaker}
use Rattle.serde_json.specs.Data.{string}
use Rattle.serde_json.specs.Events.{SendsValue}
use Rattle.wgr_json.specs.Values.{array_of, count, prefix_data}
use Rattle.wgr_reply.proofs.peer.PeerViewToJsonInReply.send.Goals as goal

-- one member after the other
pub returns : goal.returns
returns g c =
    let w = g.S.Serializer.written in
    let address = c.in_ok-send_member.ensures in
    let end = c.in_ok-send_number.ensures in
    let keepalive = c.in_ok-send_number-2.ensures in
    let key = c.in_ok-send_member-2.ensures in
    let label = c.in_ok-send_text.ensures in
    let number = c.in_ok-send_number-3.ensures in
    let routes = c.in_ok-send_member-3.ensures in
    let status = c.in_ok-send_member-4.ensures in
    on_ok_weaker c.end_map.result (λ e. (
      w c.begin_map.new.self,
      c.in_ok-begin_map.ensures,
      (
        address.0,
        w c.send_member.new.out,
        address.1,
        subst (λ p. SendsValue (prefix_data p) address.0 (w c.send_member.new.out)) c.full.ensures address.2,
        (
          end.0,
          w c.send_number.new.out,
          end.1,
          subst (λ n. SendsValue (count n) end.0 (w c.send_number.new.out)) c.seconds.ensures.value end.2,
          (
            keepalive.0,
            w c.send_number-2.new.out,
            keepalive.1,
            subst (λ n. SendsValue (count n) keepalive.0 (w c.send_number-2.new.out)) c.from.ensures keepalive.2,
            (
              key.0,
              w c.send_member-2.new.out,
              key.1,
              key.2,
              (
                label.0,
                w c.send_text.new.out,
                label.1,
                subst (λ s. SendsValue (string s) label.0 (w c.send_text.new.out)) c.as_str.ensures.value label.2,
                (
                  number.0,
                  w c.send_number-3.new.out,
                  number.1,
                  subst (λ n. SendsValue (count n) number.0 (w c.send_number-3.new.out)) c.from-2.ensures number.2,
                  (
                    routes.0,
                    w c.send_member-3.new.out,
                    routes.1,
                    subst (λ ps. SendsValue (array_of (map prefix_data ps)) routes.0 (w c.send_member-3.new.out)) c.as_slice.ensures routes.2,
                    (
                      status.0,
                      w c.send_member-4.new.out,
                      status.1,
                      status.2,
                      e,
                    ),
                  ),
                ),
              ),
            ),
          ),
        ),
      ),
    )) c.end_map.ensures
