-- Facts of results.
use Rattle.std.proofs.Common.{◌≡◌, Result, Ok, Err, OnOk, OnErr, IfErr, IfOk, IfSome, IfNone, Option, Some, None, is_ok}

pub if_ok : {X E : Type 0} (r : Result X E) (P Q : X → Type 0) → ((x : X) → P x → Q x) → IfOk r P → IfOk r Q
if_ok (Ok x) P Q f h = f x h
if_ok (Err e) P Q f h = tt

pub if_both : {X E : Type 0} (r : Result X E) (P Q R : X → Type 0) → ((x : X) → P x → Q x → R x) → IfOk r P → IfOk r Q → IfOk r R
if_both (Ok x) P Q R f p q = f x p q
if_both (Err e) P Q R f p q = tt

pub on_err : {X E : Type 0} (r : Result X E) (P : Type 0) → P → OnErr r P
on_err (Ok x) P h = tt
on_err (Err e) P h = h

-- where one result is Ok exactly where another is
pub on_ok : {X E Y F : Type 0} (r : Result X E) (s : Result Y F) (P Q : Type 0) → (P → Q) → OnOk r P → is_ok s ≡ is_ok r → OnOk s Q
on_ok (Ok x) (Ok y) P Q f h same = f h
on_ok (Ok x) (Err e) P Q f h same = tt
on_ok (Err e) (Ok y) P Q f h same = absurd cc
on_ok (Err e) (Err d) P Q f h same = tt

pub if_err : {X E Y F : Type 0} (r : Result X E) (s : Result Y F) (P : E → Type 0) (Q : Type 0) → ((e : E) → P e → Q) → IfErr r P → is_ok s ≡ is_ok r → OnErr s Q
if_err (Ok x) (Ok y) P Q f h same = tt
if_err (Ok x) (Err e) P Q f h same = absurd cc
if_err (Err e) (Ok y) P Q f h same = tt
if_err (Err e) (Err d) P Q f h same = f e h

pub push_if : {X E : Type 0} (r : Result X E) (A : Type 0) (P : E → Type 0) → (A → IfErr r P) → IfErr r (λ e. A → P e)
push_if (Ok x) A P h = tt
push_if (Err e) A P h = h

pub if_some : {X : Type 0} (o : Option X) (P Q : X → Type 0) → ((x : X) → P x → Q x) → IfSome o P → IfSome o Q
if_some (Some x) P Q f h = f x h
if_some None P Q f h = tt

pub if_none : {X : Type 0} (o : Option X) (P Q : Type 0) → (P → Q) → IfNone o P → IfNone o Q
if_none (Some x) P Q f h = tt
if_none None P Q f h = f h
