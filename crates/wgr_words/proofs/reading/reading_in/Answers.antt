use Rattle.std.proofs.Common.{◌≡◌, ◌∙◌, Bool, true, false, List, ℕ, Option, None, Result, IfOk, Ok, Err, cond, option_map, refl, sym}
use Rattle.std.specs.Str.{IsUtf8, is_utf8}
use Rattle.std.proofs.lemmas.Str.{IsUtf8-from_is_utf8, is_utf8-from_IsUtf8}
use Rattle.std.specs.declared.alloc.AllocError.{AllocError}
use Rattle.wgr_words.specs.declared.reading.Reading.{Reading}
use Rattle.wgr_words.specs.Line.{words_in}
use Rattle.wgr_words.specs.Reading.{reading_asked, reading_in, reading_in_line}
use Rattle.wgr_words.proofs.reading.reading_in.Goals as goal

of_text : (text line : List ℕ) → text ≡ line → IsUtf8 line → reading_in (words_in text) ≡ reading_in_line line
of_text text line same is = rw (is_utf8-from_IsUtf8 line is, same) refl

of_none : (line : List ℕ) → ¬ (IsUtf8 line) → None ≡ reading_in_line line
of_none line other = by_test (is_utf8 line) refl
  where
    by_test : (is_text : Bool) → is_text ≡ is_utf8 line → None ≡ cond is_text (reading_in (words_in line)) None
    by_test true is = absurd (other (IsUtf8-from_is_utf8 line (sym is)))
    by_test false is = refl

if_text : (found : Result (Option Reading) AllocError) (text line : List ℕ) → text ≡ line → IsUtf8 line
    → IfOk found (λ f. option_map reading_asked f ≡ reading_in (words_in text)) → IfOk found (λ f. option_map reading_asked f ≡ reading_in_line line)
if_text (Ok f) text line same is read = read ∙ of_text text line same is
if_text (Err e) text line same is read = read

pub returns-in-Ok : goal.returns-in-Ok
returns-in-Ok c = if_text c.read_text.result c.in-Ok.text.now c.args.line.now c.in-Ok.ensures.cases.0 c.in-Ok.ensures.cases.1 c.read_text.ensures

pub returns-in-Err : goal.returns-in-Err
returns-in-Err c = of_none c.args.line.now c.in-Err.ensures.cases.0
