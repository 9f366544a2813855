use Rattle.std.proofs.Common.{drop, inr, rules, sym, take}
use Rattle.std.proofs.lemmas.List.{take-append-drop}
use Rattle.wgr_prog.proofs.messages.print.Goals as goal

pub returns-in-Err : goal.returns-in-Err
returns-in-Err g c =
    let text = c.args.text.now in
    let sent = c.in-Err.field-0.sent in
    inr (c.device.ensures.status, (take sent text, drop sent text, sym (take-append-drop sent text), c.in-Err.ensures.sent), search rules)
