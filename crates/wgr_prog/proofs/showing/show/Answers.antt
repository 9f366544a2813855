use Rattle.std.proofs.Common.{ℕ, List, Bor, None, option_map}
use Rattle.sqlite.specs.WalFiles.{image_at}
use Rattle.wgr_prog.proofs.ShowingLemmas.{shows, shows_fault}
use Rattle.wgr_prog.proofs.showing.show.Goals as goal

pub returns-in-Ok-clause-shown : goal.returns-in-Ok-clause-shown
returns-in-Ok-clause-shown g c =
    shows _ (image_at g.S.Start) c.show_register.result.1 (option_map (λ (name : Bor (List ℕ)). name.now) c.args.tenant) c.args.is_json c.show_register.result.0 c.in-Ok.ensures.ok c.show_register.ensures.shown

pub returns-in-Err-clause-shown : goal.returns-in-Err-clause-shown
returns-in-Err-clause-shown g c =
    shows_fault _ (image_at g.S.Start) None (option_map (λ (name : Bor (List ℕ)). name.now) c.args.tenant) c.args.is_json c.in-Err.why c.from.result c.from.ensures c.in-Err.ensures.err
