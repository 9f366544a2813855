use Rattle.std.proofs.Common.{◌≡◌, ◌∙◌, filter, subst, sym}
use Rattle.wgr_peers.specs.Peers.{is_live}
use Rattle.wgr_register.proofs.CachedLemmas.{same_config}
use Rattle.wgr_register.proofs.files.made_text.Goals as goal

pub returns-clause-current : goal.returns-clause-current
returns-clause-current g c t current formed =
    let n = c.args.network.now in
    c.keep_file.ensures t current (
      n,
      formed,
      λ m is.
          c.in_ok-file.ensures
          ∙ sym (same_config n m c.args.now c.args.form (subst (λ ps. filter (is_live m) ps ≡ filter (is_live c.args.now) ps) c.peers.ensures (c.steady_moments-moments.ensures.steady m is))),
    )
