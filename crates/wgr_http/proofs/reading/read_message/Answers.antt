use Rattle.std.proofs.Common.{◌≡◌, ◌≤◌, ◌++◌, ℕ, List, [], Option, Result, Ok, Err, OnOk, length, subst, sym, inl, inr, ◌⊎◌}
use Rattle.std.specs.Io.KnownBytes.{Consumes, IsAtEnd}
use Rattle.std.proofs.KnownBytes.{Consumes-nil}
use Rattle.wgr_http.specs.Extent.{HasExtent}
use Rattle.wgr_http.specs.Reading.{IsDecided, AnswersAs, IsNoMore}
use Rattle.wgr_http.proofs.Deciding.{extent_decides, read_of, no_more}
use Rattle.wgr_http.proofs.reading.read_message.Goals as goal

-- read to the end of the body, or to the end of the input
body_read : {E : Type 0} (old new : Option (List ℕ)) (head message more : List ℕ) (n : ℕ) (r : Result (Unit {0}) E) → HasExtent head n → message ≡ head ++ more
    → Consumes old new message → OnOk r ((n ≤ length message) ⊎ IsAtEnd new) → OnOk r (AnswersAs message old)
body_read old new head message more n (Err e) has is took why = tt
body_read old new head message more n (Ok u) has is took (inl enough) =
    read_of old new message took (inl (subst IsDecided (sym is) (extent_decides head more n has (subst (λ (x : List ℕ). n ≤ length x) is enough))))
body_read old new head message more n (Ok u) has is took (inr end) = read_of old new message took (inr end)

none_taken : (a : Option (List ℕ)) (message : List ℕ) → message ≡ [] → Consumes a a message
none_taken a message is = subst (Consumes a a) (sym is) (Consumes-nil a)

pub returns-in-Some-clause-whole : goal.returns-in-Some-clause-whole
returns-in-Some-clause-whole g c =
    let has = rw c.in-Some.is at c.in_ok-extent.ensures.some in
    let more = c.read_body.ensures.grown in
    body_read (g.R.Read.remaining c.args.input.now) _ c.read_head.new.message.items _ more.0 c.in-Some.extent c.read_body.result has more.1
    (c.read_body.ensures.bytes _ (c.in_ok-extent.ensures.bytes _ (none_taken (g.R.Read.remaining c.args.input.now) _ c.clear.ensures.items))) c.read_body.ensures.whole

pub returns-in-None-clause-whole : goal.returns-in-None-clause-whole
returns-in-None-clause-whole g c =
    let none = rw c.in-None.is at c.in_ok-extent.ensures.none in
    read_of (g.R.Read.remaining c.args.input.now) _ c.read_head.new.message.items (c.in_ok-extent.ensures.bytes _ (none_taken (g.R.Read.remaining c.args.input.now) _ c.clear.ensures.items)) none.1

pub returns-in-Some-clause-no_more : goal.returns-in-Some-clause-no_more
returns-in-Some-clause-no_more g c =
    let has = rw c.in-Some.is at c.in_ok-extent.ensures.some in
    let more = c.read_body.ensures.grown in
    let most = rw more.1 at c.read_body.ensures.most in
    subst IsNoMore (sym more.1) (no_more c.read_head.new.message.items more.0 c.in-Some.extent has c.in_ok-extent.ensures.short most)
