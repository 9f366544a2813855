-- What is taken of a reader's bytes.
use Rattle.std.specs.Prelude.{◌≡◌, ℕ, ◌≤◌, ◌<◌, ◌++◌, List, length, take, EachIndex, Option, Some, None, Result}
use Rattle.std.specs.List.{concat}
use Rattle.httparse.specs.Grammar.{RequestHead}
use Rattle.wgr_http.specs.Extent.{extent}
use Rattle.wgr_http.specs.Head.{HasHead, HasNoHead}
use Rattle.wgr_http.specs.Message.{Answers, MessageView}
use Rattle.wgr_http.specs.declared.message.MessageFault.{MessageFault}
use Rattle.wgr_io.specs.Device.{AddsPieces, AllGave, EndAtNothing}

-- whatever bytes come after these, the answer stays the same
abbrev pub IsDecided : List ℕ → Type 0
IsDecided bytes = (more : List ℕ) (r : Result MessageView MessageFault) → Answers bytes r → Answers (bytes ++ more) r

-- the answer for the beginning is that for all bytes of a reader, where they are known
abbrev pub AnswersAs : List ℕ → Option (List ℕ) → Type 0
AnswersAs front None = Unit {0}
AnswersAs front (Some all) = (r : Result MessageView MessageFault) → Answers front r → Answers all r

-- at most 8,193 bytes, or as many as a head wants
pub record IsNoMore (bytes : List ℕ) : Type 0 where
  pub none : HasNoHead bytes → length bytes ≤ 8193
  pub head : (h : RequestHead) (rest : List ℕ) → HasHead bytes h rest → 8193 < length bytes → length bytes ≤ extent h

-- No read was made once those before it had given what decides the answer, nor after one that gave none.
pub record StopWhenDecided (pieces : List (List ℕ)) : Type 0 where
  pub undecided : EachIndex pieces (λ k. ¬ (IsDecided (concat (take k pieces))))
  pub some : EndAtNothing pieces

-- so the message was read; the first two are what the reader's calls gave, before and after, where that is known
abbrev pub IsReadInTime : Option (List (List ℕ)) → Option (List (List ℕ)) → List ℕ → Type 0
IsReadInTime old new message =
    (pieces : List (List ℕ)) × AddsPieces old new pieces × (concat pieces ≡ message) × StopWhenDecided pieces

-- and each read gave some bytes, so that more may come
abbrev pub IsReadOn : Option (List (List ℕ)) → Option (List (List ℕ)) → List ℕ → Type 0
IsReadOn old new message =
    (pieces : List (List ℕ)) × AddsPieces old new pieces × (concat pieces ≡ message) × StopWhenDecided pieces × AllGave pieces
