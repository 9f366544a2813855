use Rattle.std.proofs.Common.{ℕ, List, Bor, option_map}
use Rattle.sqlite.specs.WalFiles.{image_at}
use Rattle.wgr_words.specs.Order.{input_of}
use Rattle.wgr_prog.specs.Answering.{output_of}
use Rattle.wgr_prog.proofs.OrderingLemmas.{ends_orders, unread}
use Rattle.wgr_prog.proofs.order_lines.carry_out_orders.Goals as goal

pub returns-in-Ok : goal.returns-in-Ok
returns-in-Ok g c =
    let input = input_of g.R.Read.remaining g.R.Read.failed in
    let output = output_of g.W.Write.contents g.W.Write.failed in
    let file = option_map (λ (text : Bor (List ℕ)). text.now) c.args.file in
    ends_orders _ _ _ file (input c.args.input.now) (input c.read_text.new.input) c.in-Ok.text.items (output c.args.out.now) (output c.carry_out.new.out) c.carry_out.result.0 c.in-Ok.ensures.ok
    (rw c.deref.ensures.value at c.carry_out.ensures)

pub returns-in-Err : goal.returns-in-Err
returns-in-Err g c =
    let input = input_of g.R.Read.remaining g.R.Read.failed in
    let output = output_of g.W.Write.contents g.W.Write.failed in
    let file = option_map (λ (text : Bor (List ℕ)). text.now) c.args.file in
    unread _ (image_at g.S.Start) file (input c.args.input.now) (input c.read_text.new.input) (output c.args.out.now) c.in-Err.why c.from.result c.from.ensures c.in-Err.ensures.err
