use Rattle.std.proofs.Common.{inl, subst, sym}
use Rattle.wgr_prog.specs.OnRegister.{EndsAs}
use Rattle.wgr_prog.proofs.RegisterLemmas.{ends_as}
use Rattle.wgr_prog.proofs.register_words.done_or_failed.Goals as goal

pub returns-in-Ok : goal.returns-in-Ok
returns-in-Ok g c = subst (EndsAs _ _ _ c.args.order.now) (sym c.as_failure.ensures) (ends_as _ _ _ c.args.order.now _ c.in-Ok.ensures.ended)

pub returns-in-Err : goal.returns-in-Err
returns-in-Err g c = inl c.in-Err.ensures.kept
