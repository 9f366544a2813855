use Rattle.std.proofs.Common.{[], ◌∷◌, refl, ◌∙◌}
use Rattle.wgr_schema.proofs.FormLemmas.{seven_are}
use Rattle.wgr_schema.proofs.indexes.are_register_indexes.Goals as goal

pub returns-else-not-is_index-6-clause-is : goal.returns-else-not-is_index-6-clause-is
returns-else-not-is_index-6-clause-is c so =
    seven_are c.args.indexes.now _ _ _ _ _ _ _ c.in-len7.len_at_least c.in-len7.len_below c.tenant-item.is c.token-item.is c.slot-item.is c.endpoint-item.is c.key-item.is c.prefix-item.is c.peer-item.is
    ∙ (λ z. (c.if-not-is_index.ensures.is refl) z ∷ (c.if-not-is_index-2.ensures.is refl) z ∷ (c.if-not-is_index-3.ensures.is refl) z ∷ (c.if-not-is_index-4.ensures.is refl) z
    ∷ (c.if-not-is_index-5.ensures.is refl) z ∷ (c.if-not-is_index-6.ensures.is refl) z ∷ (c.is_index-in-len7-6.ensures.is so) z ∷ [])
