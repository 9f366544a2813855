use Rattle.serde_json.proofs.FreeTexts.{text_of_value}
use Rattle.wgr_json.proofs.json.to_json.Goals as goal

pub returns-in-Ok : goal.returns-in-Ok
returns-in-Ok g c =
    let sent = c.in-Ok.ensures.events in
    text_of_value (g.T.ToJson.shown c.args.value.now) sent.0 c.in-Ok.text.items sent.1 sent.2 (g.T.ToJson.whole c.args.value.now)
