use Rattle.std.proofs.Common.{◌∙◌, ℕ, List, ◌++◌, Some, Bor, ap, map}
use Rattle.clap.specs.Words.{found_of}
use Rattle.clap.proofs.WalkLemmas.{raw_values-rows}
use Rattle.wgr_command_line.proofs.values.all.Goals as goal

pub returns-in_default : goal.returns-in_default
returns-in_default c = c.in_default.ensures ∙ raw_values-rows (found_of c.args.found.now) _

pub returns : goal.returns
returns c =
    let items = c.in_ok-extend_from_slice.ensures.items ∙ ap (λ (before : List (Bor (List ℕ))). before ++ c.in-Some.texts.now) c.new-all.ensures.items in
    ap (λ (texts : List (Bor (List ℕ))). Some (map (λ (text : Bor (List ℕ)). text.now) texts)) items ∙ c.in-Some.ensures ∙ raw_values-rows (found_of c.args.found.now) _
