use Rattle.std.proofs.Common.{◌≡◌, ◌+◌, ◌++◌, ◌∷◌, [], filter, refl, sym, ap, subst, ◌∙◌, take}
use Rattle.std.proofs.lemmas.List.{take_all, take_more}
use Rattle.wgr_peers.specs.declared.peer.Peer.{Peer}
use Rattle.wgr_peers.specs.Limits.{is_expired}
use Rattle.wgr_peers.specs.Peers.{is_live}
use Rattle.wgr_register.proofs.CachedLemmas.{steady_push}
use Rattle.wgr_register.proofs.files.steady_moments.Goals as goal

pub loop-peer-init : goal.loop-peer-init
loop-peer-init c = record { within = c.all-moments.ensures c.args.now; steady = λ m is. refl }

pub loop-peer-preserved : goal.loop-peer-preserved
loop-peer-preserved c =
    let xs = c.args.peers.now in
    let i = c.loop-peer.peer-index in
    let p : Peer = c.peer-item.result in
    let more : take (i + 1) xs ≡ take i xs ++ p ∷ [] = take_more xs i p c.loop-peer-test.true ∙ ap (λ (q : Peer). take i xs ++ q ∷ []) (sym c.peer-item.is) in
    record {
      within = c.around-moments.ensures.within c.loop-peer.invariant.within;
      steady = λ m is. subst (λ ps. filter (is_live m) ps ≡ filter (is_live c.args.now) ps) (sym more)
          (steady_push m c.args.now (take i xs) p (c.loop-peer.invariant.steady m (c.around-moments.ensures.narrower m is)) (subst (λ end. is_expired m end ≡ is_expired c.args.now end) c.seconds.ensures.value (c.around-moments.ensures.steady m is)));
    }

pub returns-clause-steady : goal.returns-clause-steady
returns-clause-steady c m is = subst (λ ps. filter (is_live m) ps ≡ filter (is_live c.args.now) ps) (take_all c.loop-peer.peer-index c.args.peers.now c.loop-peer-test.false) (c.loop-peer.invariant.steady m is)
