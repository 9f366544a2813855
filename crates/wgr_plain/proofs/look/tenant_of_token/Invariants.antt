use Rattle.std.proofs.Common.{◌≡◌, drop}
use Rattle.wgr_model.specs.Steps.{tenant_of_token}
use Rattle.wgr_plain.proofs.look.tenant_of_token.Given as goal

-- no token before has the digest
abbrev pub invariant-loop-token : goal.invariant-loop-token
invariant-loop-token l = tenant_of_token l.tokens l.digest ≡ tenant_of_token (drop l.token-index l.tokens) l.digest
