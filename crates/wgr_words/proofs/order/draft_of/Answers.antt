use Rattle.std.proofs.Common.{option_map, refl}
use Rattle.wgr_words.specs.Asked.{NetworkAdd, TokenGrant, network_asked}
use Rattle.wgr_words.specs.Order.{IsDraftFault}
use Rattle.wgr_words.proofs.OrderLemmas.{passed, right_fault}
use Rattle.wgr_words.proofs.order.draft_of.Goals as goal

pub returns-in_err-new_network-in-NetworkAdd-clause-err : goal.returns-in_err-new_network-in-NetworkAdd-clause-err
returns-in_err-new_network-in-NetworkAdd-clause-err c =
    rw c.in-NetworkAdd.is (passed _ _ (IsDraftFault (NetworkAdd (network_asked c.in-NetworkAdd.words))) c.from_residual-in_err-new_network-in-NetworkAdd.ensures.1 c.in_err-new_network-in-NetworkAdd.ensures.err)

pub returns-in_ok-new_network-in-NetworkAdd-clause-ok : goal.returns-in_ok-new_network-in-NetworkAdd-clause-ok
returns-in_ok-new_network-in-NetworkAdd-clause-ok c = rw c.in-NetworkAdd.is (refl, c.in_ok-new_network-in-NetworkAdd.ensures.ok)

pub returns-in_err-right-in-TokenGrant-clause-err : goal.returns-in_err-right-in-TokenGrant-clause-err
returns-in_err-right-in-TokenGrant-clause-err c =
    let text = c.in-TokenGrant.tenant.now in
    let word = option_map (λ word. word.now) c.in-TokenGrant.right in
    rw c.in-TokenGrant.is (passed _ _ (IsDraftFault (TokenGrant text word)) c.from_residual-in_err-right-in-TokenGrant.ensures.1
    (right_fault text c.in_ok-tenant-in-TokenGrant.tenant word _ c.in_ok-tenant-in-TokenGrant.ensures c.in_err-right-in-TokenGrant.ensures))
