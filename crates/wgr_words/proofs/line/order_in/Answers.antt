use Rattle.std.proofs.Common.{◌≡◌, ◌∙◌, List, ℕ, Option, Some, ap, option_map, sym}
use Rattle.wgr_words.specs.declared.line.OrderLine.{OrderLine}
use Rattle.wgr_words.specs.Line.{line_asked, line_in, words_in}
use Rattle.wgr_words.proofs.line.order_in.Goals as goal

-- the line's words are those of the order that was found
found_in : (o : Option OrderLine) (line : OrderLine) (text given : List ℕ) → o ≡ Some line → option_map line_asked o ≡ line_in (words_in text) → text ≡ given → line_in (words_in given) ≡ Some (line_asked line)
found_in o line text given is read same = ap (λ (t : List ℕ). line_in (words_in t)) (sym same) ∙ sym read ∙ ap (option_map line_asked) is

pub returns-in-Ok-order_of_line-clause-ok : goal.returns-in-Ok-order_of_line-clause-ok
returns-in-Ok-order_of_line-clause-ok c = (
  line_asked c.in-Some.found,
  found_in c.in_ok-found.field-0 c.in-Some.found c.in-Ok.text.now c.args.line.now c.in-Some.is c.in_ok-found.ensures c.in-Ok.ensures.cases.0,
  c.in-Ok-order_of_line.ensures.ok,
)

pub returns-in-Err-Field-clause-err : goal.returns-in-Err-Field-clause-err
returns-in-Err-Field-clause-err c = (
  line_asked c.in-Some.found,
  found_in c.in_ok-found.field-0 c.in-Some.found c.in-Ok.text.now c.args.line.now c.in-Some.is c.in_ok-found.ensures c.in-Ok.ensures.cases.0,
  rw c.in-Err-Field.field-0-is at c.in-Err-Field.ensures.err,
)
