use Rattle.std.proofs.Common.{subst}
use Rattle.wgr_words.specs.Asked.{order_asked}
use Rattle.wgr_words.specs.declared.order.OrderDraft.{OrderDraft}
use Rattle.wgr_words.specs.declared.order.OrderDraft.TheVariants as draft
use Rattle.wgr_words.specs.Order.{IsDraftOf}
use Rattle.wgr_words.proofs.OrderLemmas.{grant_fault}
use Rattle.wgr_words.proofs.order.order_of.Goals as goal

pub returns-in_err-digest-in-Grant-clause-ordered : goal.returns-in_err-digest-in-Grant-clause-ordered
returns-in_err-digest-in-Grant-clause-ordered g c =
    let asked = order_asked c.args.words.now in
    let drafted : IsDraftOf asked (draft.Grant c.in-Grant.tenant c.in-Grant.right) = subst (λ (d : OrderDraft). IsDraftOf asked d) c.in-Grant.is c.in_ok-order.ensures.ok in
    grant_fault asked c.in-Grant.tenant c.in-Grant.right _ _ _ _ c.from_residual-in_err-digest-in-Grant.ensures.1 drafted c.in_err-digest-in-Grant.ensures
