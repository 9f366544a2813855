use Rattle.std.proofs.Common.{◌≡◌, ℕ, List, [], ◌∷◌, length, arith, refl}
use Rattle.wgr_http.specs.Message.{empty, refused, long, cut}
use Rattle.wgr_http.proofs.message.headless_fault.Goals as goal

no_bytes : (bytes : List ℕ) → length bytes ≡ 0 → bytes ≡ []
no_bytes [] is = refl
no_bytes (b ∷ bytes) is = absurd (omega (arith, is))

pub returns-then-is_empty : goal.returns-then-is_empty
returns-then-is_empty c = empty (no_bytes c.args.bytes.now (grind (arith, c.is_empty.ensures, c.if-is_empty.ensures)))

pub returns-then-bytes-le-MAX_HEAD : goal.returns-then-bytes-le-MAX_HEAD
returns-then-bytes-le-MAX_HEAD c = cut (grind (arith, c.is_empty.ensures, c.if-is_empty.ensures)) (omega (arith, c.if-bytes-le-MAX_HEAD.true))

pub returns-then-may_become_head : goal.returns-then-may_become_head
returns-then-may_become_head c = long (c.may_become_head.ensures.may c.if-may_become_head.true) (omega (arith, c.if-bytes-le-MAX_HEAD.false))

pub returns-else-may_become_head : goal.returns-else-may_become_head
returns-else-may_become_head c = refused (c.may_become_head.ensures.never c.if-may_become_head.false)
