use Rattle.std.proofs.Common.{◌≡◌, [], true, refl, arith}
use Rattle.std.specs.List.{list_any}
use Rattle.wgr_model.specs.Register.{is_same}
use Rattle.wgr_checks.proofs.ListLemmas.{all_places}
use Rattle.wgr_checks.proofs.readers.are_of_these.Goals as goal

pub returns : goal.returns
returns c up = ((λ told. all_places (λ digest. list_any (is_same digest) c.args.all.now ≡ true) c.args.digests.now [] (λ k low. c.loop-digest.invariant up k (omega (arith, low, c.loop-digest-test.false)))), (λ all. refl))
