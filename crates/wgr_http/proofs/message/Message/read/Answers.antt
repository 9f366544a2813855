use Rattle.std.proofs.Common.{◌≡◌, ◌-◌, ℕ, List, length, take, drop, arith}
use Rattle.std.proofs.lemmas.List.{take_all, length-drop}
use Rattle.wgr_http.specs.Message.{unheaded}
use Rattle.wgr_http.proofs.ReadLemmas.{answers_head}
use Rattle.wgr_http.proofs.message.Message.read.Goals as goal

pub returns-in-Some : goal.returns-in-Some
returns-in-Some c =
    let found = c.in-Some.ensures.some in
    let parts = found.2 in
    let bytes : List ℕ = c.args.bytes.now in
    let n : ℕ = c.in-Some.head.len in
    let all : take (length bytes - n) (drop n bytes) ≡ drop n bytes = take_all (length bytes - n) (drop n bytes) (omega (arith, length-drop n bytes)) in
    answers_head bytes (drop n bytes) _ _ found.0 _ _ _ _ found.1 parts.method parts.target parts.authorization parts.content_length parts.transfer_encoding
    (rw all at c.judge.ensures)

pub returns-in-None : goal.returns-in-None
returns-in-None c = unheaded c.headless_fault.result c.in-None.ensures.none c.headless_fault.ensures
