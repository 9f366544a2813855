use Rattle.sqlite.specs.Held.{state}
use Rattle.wgr_sql.proofs.ResultLemmas.{if_ok}
use Rattle.wgr_entries.proofs.ComeLemmas.{tenant_came}
use Rattle.std.proofs.Common.{pos, [], ◌∷◌}
use Rattle.sqlite.specs.declared.types.Value.TheVariants.{Int, Text}
use Rattle.wgr_tables.specs.Writes.{TenantGained}
use Rattle.wgr_tables.proofs.Commits.{steps_once}
use Rattle.wgr_tables.proofs.StopLemmas.{written_fails}
use Rattle.wgr_entries.proofs.Meanings.{insert_tenant_text}
use Rattle.wgr_entries.proofs.StopLemmas.{insert_tenant_writes}
use Rattle.wgr_entries.proofs.tenant.NewTenantWriting.run.Goals as goal

pub returns-clause-step : goal.returns-clause-step
returns-clause-step g c clean =
    let old = state g.S.Store c.args.tx.now.conn.now in
    let new = state g.S.Store c.execute.new.tx.conn.now in
    steps_once (TenantGained (record { id = c.args.self.now.id; name = c.args.self.now.name.now })) old new c.execute.result (λ inside register.
    (c.execute.ensures.kept clean inside, if_ok c.execute.result _ _ (λ count h. (tenant_came old new (register h.1.was_open) c.args.self.now.id c.args.self.now.name.now count (rw (c.number_value.ensures, c.as_bytes.ensures.value, c.as_str.ensures.value) at h.0), h.1)) (c.execute.ensures.ran clean inside)))

pub returns-clause-cause : goal.returns-clause-cause
returns-clause-cause g c =
    written_fails (state g.S.Store c.args.tx.now.conn.now) (state g.S.Store c.execute.new.tx.conn.now) insert_tenant_text (Int (pos c.args.self.now.id) ∷ Text c.args.self.now.name.now ∷ []) c.execute.result (λ others. insert_tenant_writes others _ _) (rw (c.number_value.ensures, c.as_bytes.ensures.value, c.as_str.ensures.value) at c.execute.ensures.cause)
