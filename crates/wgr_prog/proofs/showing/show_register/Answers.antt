use Rattle.std.proofs.Common.{ℕ, List, Bor, option_map}
use Rattle.sqlite.specs.WalFiles.{image_at}
use Rattle.wgr_prog.specs.Showing.{SaysOfFiles}
use Rattle.wgr_prog.proofs.ShowingLemmas.{read_at, shows_text, stays_read}
use Rattle.wgr_prog.proofs.showing.show_register.Goals as goal

pub returns-clause-kept : goal.returns-clause-kept
returns-clause-kept g c =
    let says = SaysOfFiles (option_map (λ (name : Bor (List ℕ)). name.now) c.args.tenant) c.args.is_json c.text_of-shown.result in
    stays_read _ (image_at g.S.Start) c.close.result says
    (read_at _ (image_at g.S.Start) c.close.result c.in-Ok.register c.text_of-shown.new.register says c.in-Ok.ensures.open c.text_of-shown.ensures.clean c.text_of-shown.ensures.stands c.text_of-shown.ensures.says c.close.ensures)

pub returns-clause-shown : goal.returns-clause-shown
returns-clause-shown g c =
    let tenant = option_map (λ (name : Bor (List ℕ)). name.now) c.args.tenant in
    let says = SaysOfFiles tenant c.args.is_json c.text_of-shown.result in
    shows_text _ (image_at g.S.Start) c.close.result tenant c.args.is_json c.text_of-shown.result c.text_of-shown.ensures.ends
    (read_at _ (image_at g.S.Start) c.close.result c.in-Ok.register c.text_of-shown.new.register says c.in-Ok.ensures.open c.text_of-shown.ensures.clean c.text_of-shown.ensures.stands c.text_of-shown.ensures.says c.close.ensures)
