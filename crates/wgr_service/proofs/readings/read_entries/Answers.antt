use Rattle.std.proofs.Common.{Bor, List, ℕ, option_map, sym, ◌∙◌}
use Rattle.wgr_service.proofs.ReadingLemmas.{reads_none}
use Rattle.wgr_service.proofs.readings.read_entries.Goals as goal

pub returns-in-Ok-Some : goal.returns-in-Ok-Some
returns-in-Ok-Some g c =
    let some = rw c.in-Ok-Some.field-0-is at c.in-Ok-Some.ensures.some in
    let json = rw c.in-Ok-Some.field-0-is at c.in-Ok-Some.ensures.json in
    (c.in-Ok.ensures.keeps, tt, λ db late at clean. (c.in-Ok.census, c.in-Ok.ensures.listed db late at clean, (some, json)))

pub returns-in-Ok-None : goal.returns-in-Ok-None
returns-in-Ok-None g c =
    let formed = sym c.in-Ok-true.field-0-test ∙ c.in-Ok-true.ensures in
    let none = rw c.in-Ok-None.field-0-is at c.in-Ok-None.ensures.none in
    reads_none g.S.Store c.args.office.now c.census.new.self c.in-Ok.census c.in-Ok.ensures.keeps c.in-Ok.ensures.listed (option_map (λ (name : Bor (List ℕ)). name.now) c.args.tenant) c.args.is_json formed none
