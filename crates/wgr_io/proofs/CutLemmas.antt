-- What was written of a text as a write failed.
use Rattle.std.proofs.Common.{◌≡◌, ◌++◌, ℕ, List, [], Option, Result, Ok, Err, IfErr, OnErr, take, drop, ap, sym, ◌∙◌, append-nil, append_assoc, take-append-drop}
use Rattle.std.specs.Io.KnownBytes.{Appends}
use Rattle.std.proofs.KnownBytes.{Appends-trans}
use Rattle.wgr_io.specs.Device.{IsCut}
use Rattle.wgr_io.specs.declared.whole.WriteFault.{WriteFault}

-- what holds of a failure holds of whichever result there is
pub on_err : {T E P : Type 0} (r : Result T E) → P → OnErr r P
on_err (Ok x) p = tt
on_err (Err e) p = p

pub cut_at : (sent : ℕ) (before after : Option (List ℕ)) (text : List ℕ) → Appends before after (take sent text) → IsCut before after text
cut_at sent before after text written = (take sent text, drop sent text, sym (take-append-drop sent text), written)

pub cut_at_its_end : (before after : Option (List ℕ)) (text : List ℕ) → Appends before after text → IsCut before after text
cut_at_its_end before after text written = (text, [], sym (append-nil text), written)

-- a text that is cut is a longer one that is cut
pub cut_longer : (before after : Option (List ℕ)) (text more : List ℕ) → IsCut before after text → IsCut before after (text ++ more)
cut_longer before after text more (beginning, rest, is, written) = (beginning, rest ++ more, ap (λ t. t ++ more) is ∙ append_assoc beginning rest more, written)

-- and so it is behind what was written whole
pub cut_behind : (before mid after : Option (List ℕ)) (first text : List ℕ) → Appends before mid first → IsCut mid after text → IsCut before after (first ++ text)
cut_behind before mid after first text wrote (beginning, rest, is, written) =
    (first ++ beginning, rest, ap (λ t. first ++ t) is ∙ sym (append_assoc first beginning rest), Appends-trans before mid after first beginning wrote written)

-- the same of a call that may have failed
pub cut_if_failed : {T : Type 0} (r : Result T WriteFault) (before mid after : Option (List ℕ)) (first text : List ℕ) → Appends before mid first
    → IfErr r (λ fault. Appends mid after (take fault.sent text)) → OnErr r (IsCut before after (first ++ text))
cut_if_failed (Ok t) before mid after first text wrote sent = tt
cut_if_failed (Err fault) before mid after first text wrote sent = cut_behind before mid after first text wrote (cut_at fault.sent mid after text sent)
