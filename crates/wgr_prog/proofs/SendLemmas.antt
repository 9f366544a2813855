-- An order or a reading that is sent to a service.
use Rattle.std.proofs.Common.{◌≡◌, ◌++◌, ℕ, Bool, true, false, List, [], ◌∷◌, Result, Ok, Err, IfErr, IfOk, OnErr, OnOk, inr}
use Rattle.std.specs.Prelude.{IfSome}
use Rattle.std.specs.declared.vec.Vec.{Vec}
use Rattle.std.specs.declared.alloc.Global.{Global}
use Rattle.std.specs.Io.KnownBytes.{Appends}
use Rattle.wgr_io.specs.Device.{IsCut}
use Rattle.wgr_service.specs.Network.{Log, Logs, called, ended}
use Rattle.wgr_service.proofs.ConnectionLemmas.{logs_more}
use Rattle.wgr_words.specs.Line.{is_line, line_text}
use Rattle.wgr_words.specs.Order.{Input, TakesInput}
use Rattle.wgr_words.specs.Sent.{option_words}
use Rattle.wgr_words.specs.Words.{without_newline}
use Rattle.wgr_prog.specs.Sending.{Call, MayBreak, SendsLine, SendsToken, has_failed}
use Rattle.wgr_prog.specs.declared.send.SendFault.{SendFault}
use Rattle.wgr_prog.specs.declared.send.SendFault.TheVariants as fault

-- a call of the service, until its connection was ended
pub exchanged : (path : List ℕ) (line : List (List ℕ)) (before mid after : Log) (c : Call) (answer : Result (Vec ℕ Global) SendFault) → Logs before mid (called path c.input c.before ∷ []) → Logs mid after (ended c.after c.read_failed c.write_failed ∷ [])
    → is_line line ≡ true → IfOk answer (λ reply. Appends c.before c.after (line_text line) × IfSome c.input (λ all. reply.items ≡ all)) → OnErr answer (IsCut c.before c.after (line_text line)) → IfErr answer (λ why. MayBreak why (has_failed c)) → OnOk answer (has_failed c ≡ false) → SendsLine path line before after answer
exchanged path line before mid after c (Ok reply) first last whole ok cut err sound = record {
  call = c;
  logged = logs_more before mid after (called path c.input c.before ∷ []) (ended c.after c.read_failed c.write_failed ∷ []) first last;
  whole = whole;
  written = ok.0;
  read = ok.1;
  sound = sound;
}
exchanged path line before mid after c (Err fault.BadOrder) first last whole ok cut err sound = absurd err
exchanged path line before mid after c (Err fault.BadToken) first last whole ok cut err sound = absurd err
exchanged path line before mid after c (Err fault.NoMemory) first last whole ok cut err sound =
    inr (c, logs_more before mid after (called path c.input c.before ∷ []) (ended c.after c.read_failed c.write_failed ∷ []) first last, cut, err)
exchanged path line before mid after c (Err fault.Device) first last whole ok cut err sound =
    (whole, inr (c, logs_more before mid after (called path c.input c.before ∷ []) (ended c.after c.read_failed c.write_failed ∷ []) first last, cut, err))

-- with the token that is all of the input
pub with_token : (path : List ℕ) (words : List (List ℕ)) (is_json : Bool) (before after : Log) (old new : Input) (text : List ℕ) (answer : Result (Vec ℕ Global) SendFault) → TakesInput old new text → is_line (without_newline text ∷ []) ≡ true
    → SendsLine path (words ++ without_newline text ∷ option_words is_json) before after answer → SendsToken path words is_json before after old new answer
with_token path words is_json before after old new text (Ok reply) taken word sends = (text, taken, word, sends)
with_token path words is_json before after old new text (Err fault.BadOrder) taken word sends = (text, taken, word, sends)
with_token path words is_json before after old new text (Err fault.BadToken) taken word sends = absurd sends
with_token path words is_json before after old new text (Err fault.NoMemory) taken word sends = inr (text, taken, word, sends)
with_token path words is_json before after old new text (Err fault.Device) taken word sends = inr (text, taken, word, sends)
