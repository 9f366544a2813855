use Rattle.std.proofs.Common.{◌∙◌, ap, sym, subst, Bor}
use Rattle.std.proofs.lemmas.Result.{on_ok_weaker}
use Rattle.serde_json.specs.Data.{string}
use Rattle.serde_json.specs.Events.{SendsValue}
use Rattle.wgr_orders.specs.declared.census.Counted.{Counted}
use Rattle.wgr_orders.specs.declared.census.Granted.{Granted}
use Rattle.wgr_json.specs.Values.{array_of}
use Rattle.wgr_show.specs.Json.{counted_data, token_data}
use Rattle.wgr_show.proofs.Listing.{map_of_map}
use Rattle.wgr_show.proofs.shown.send_with_readers.Goals as goal

-- one member after the other
pub returns : goal.returns
returns g c =
    let w = g.S.Serializer.written in
    let name = c.in_ok-send_text.ensures in
    let tokens = c.in_ok-send_member.ensures in
    let readers = c.in_ok-send_member-2.ensures in
    let networks = c.in_ok-send_member-3.ensures in
    let shown_tokens = map_of_map (λ (t : Bor Granted). t.now) token_data c.args.entry.now.tokens.now in
    let shown_readers = map_of_map (λ (t : Bor Granted). t.now) token_data c.args.readers.now in
    let shown_networks = map_of_map (λ (n : Bor Counted). n.now) counted_data c.args.entry.now.networks.now in
    on_ok_weaker c.end_map.result (λ e. (
      w c.begin_map.new.self,
      c.in_ok-begin_map.ensures,
      (
        name.0,
        w c.send_text.new.out,
        name.1,
        subst (λ s. SendsValue (string s) name.0 (w c.send_text.new.out)) (c.as_str.ensures.value ∙ ap (λ t. t.name) c.tenant.view_is) name.2,
        (
          tokens.0,
          w c.send_member.new.out,
          tokens.1,
          subst (λ ds. SendsValue (array_of ds) tokens.0 (w c.send_member.new.out)) (sym shown_tokens) tokens.2,
          (
            readers.0,
            w c.send_member-2.new.out,
            readers.1,
            subst (λ ds. SendsValue (array_of ds) readers.0 (w c.send_member-2.new.out)) (sym shown_readers) readers.2,
            (
              networks.0,
              w c.send_member-3.new.out,
              networks.1,
              subst (λ ds. SendsValue (array_of ds) networks.0 (w c.send_member-3.new.out)) (sym shown_networks) networks.2,
              e,
            ),
          ),
        ),
      ),
    )) c.end_map.ensures
