use Rattle.std.proofs.Common.{Some, inl, inr, ap, ◌∙◌}
use Rattle.wgr_schema.specs.declared.version.Version.TheVariants.{One, Two, Three}
use Rattle.wgr_schema.proofs.version.check_layout.Goals as goal

pub returns-in-Ok-Some-Three-clause-right : goal.returns-in-Ok-Some-Three-clause-right
returns-in-Ok-Some-Three-clause-right g c clean = (c.in-Ok-Some-Three.ensures.answer clean Three).0 (c.in-Ok-Some-Three.field-0-is ∙ ap Some c.in-Ok-Some-Three.field-0-0-is)

pub returns-in-Ok-Some-Two-clause-earlier : goal.returns-in-Ok-Some-Two-clause-earlier
returns-in-Ok-Some-Two-clause-earlier g c clean is = inr ((c.in-Ok-Some-Two.ensures.answer clean Two).0 (c.in-Ok-Some-Two.field-0-is ∙ ap Some c.in-Ok-Some-Two.field-0-0-is))

pub returns-in-Ok-Some-One-clause-earlier : goal.returns-in-Ok-Some-One-clause-earlier
returns-in-Ok-Some-One-clause-earlier g c clean is = inl ((c.in-Ok-Some-One.ensures.answer clean One).0 (c.in-Ok-Some-One.field-0-is ∙ ap Some c.in-Ok-Some-One.field-0-0-is))
