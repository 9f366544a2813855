-- From the spans of a head to its parts, and to the message.
use Rattle.std.proofs.Common.{◌≡◌, ℕ, List, map, ap, sym, refl, ◌∙◌, subst, codes}
use Rattle.std.specs.Prelude.{Result}
use Rattle.httparse.specs.Grammar.{RequestHead}
use Rattle.httparse.specs.declared.spans.HeaderSpan.{HeaderSpan}
use Rattle.httparse.specs.Spans.{header_bytes, name_and_value}
use Rattle.wgr_http.specs.Field.{Occurrence, IsField, values, occurrence, in_head, field_view}
use Rattle.wgr_http.specs.Head.{HasHead}
use Rattle.wgr_http.specs.Message.{judged, message_of, Answers, headed, MessageView}
use Rattle.wgr_http.specs.declared.field_lines.FieldLines.{FieldLines}
use Rattle.wgr_http.specs.declared.message.MessageFault.{MessageFault}
use Rattle.wgr_http.proofs.FieldLemmas.{field_occurs}

-- a line of the spans is one of the head's fields
pub field_in_head : (name front : List ℕ) (found : FieldLines) (hs : List HeaderSpan) (h : RequestHead)
    → map (header_bytes front) hs ≡ map name_and_value h.fields
    → IsField found (values name (map (header_bytes front) hs)) → field_view found ≡ in_head name h
field_in_head name front found hs h is field =
    field_occurs found _ field ∙ ap (λ (x : List (List ℕ × List ℕ)). occurrence (values name x)) is

pub answers_head : (bytes rest method target : List ℕ) (h : RequestHead) (a l e : Occurrence) (r : Result MessageView MessageFault) → HasHead bytes h rest
    → method ≡ h.method → target ≡ h.target → a ≡ in_head (codes "authorization") h
    → l ≡ in_head (codes "content-length") h → e ≡ in_head (codes "transfer-encoding") h
    → r ≡ judged method target a l e rest → Answers bytes r
answers_head bytes rest method target h a l e r has m t ea el ee is =
    let same : r ≡ message_of h rest = is ∙ rw (m, t, ea, el, ee) refl in
    subst (Answers bytes) (sym same) (headed h rest has)
