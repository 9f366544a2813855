use Rattle.std.proofs.Common.{◌≡◌, ℕ, inl, refl, sym, ap₂, subst}
use Rattle.clap.specs.Words.{Text}
use Rattle.wgr_text.specs.Prefix.{AddrValue, PrefixValue}
use Rattle.wgr_text.specs.PrefixText.{Spells}
use Rattle.wgr_text.proofs.RoundTrips.{Spells_unique}
use Rattle.wgr_pool.specs.Pool.{IsPool}
use Rattle.wgr_prog.specs.Status.{SpellsPool}
use Rattle.wgr_prog.proofs.program.run_plan.Goals as goal

-- a text that spells no pool with one address and length spells none with others
spells_no_pool : (bytes text : Text) (address : AddrValue) (length : ℕ) → bytes ≡ text → Spells bytes address length → ¬ (IsPool (record { address = address; length = length })) → (pool : PrefixValue) → ¬ (SpellsPool text pool)
spells_no_pool bytes text address length same spelled no_pool pool is =
    let one = Spells_unique text pool.address address pool.length length is.0 (subst (λ (t : Text). Spells t address length) same spelled) in
    let pools : pool ≡ record { address = address; length = length } = ap₂ (λ a k. record { address = a; length = k }) one.0 one.1 in
    no_pool (subst (λ (p : PrefixValue). IsPool p) pools is.1)

spells_nothing : (bytes text : Text) → bytes ≡ text → ((a : AddrValue) (k : ℕ) → ¬ (Spells bytes a k)) → (pool : PrefixValue) → ¬ (SpellsPool text pool)
spells_nothing bytes text same none pool is = none pool.address pool.length (subst (λ (t : Text). Spells t pool.address pool.length) (sym same) is.0)

pub returns-in_default : goal.returns-in_default
returns-in_default g c = inl (record {
  no_pool = spells_nothing c.as_bytes.result.now c.args.pool.now c.as_bytes.ensures.value c.in_default.ensures.none;
  kept = refl;
  refused = c.refusal.ensures.status;
})

pub returns-in_default-new : goal.returns-in_default-new
returns-in_default-new g c = inl (record {
  no_pool = spells_no_pool c.as_bytes.result.now c.args.pool.now _ _ c.as_bytes.ensures.value c.in-Some.ensures.spelled (λ is. cc (c.in_default-new.ensures.is_pool.1 is));
  kept = refl;
  refused = c.refusal-in_default-new.ensures.status;
})
