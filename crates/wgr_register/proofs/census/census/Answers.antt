use Rattle.std.proofs.Common.{map, ap, ◌∙◌}
use Rattle.sqlite.specs.Held.{state}
use Rattle.wgr_model.proofs.GatherLemmas.{map_map}
use Rattle.wgr_columns.specs.Decode.{tables_of}
use Rattle.wgr_entries.specs.Lookups.{settled}
use Rattle.wgr_sql.specs.Causes.{HasCause}
use Rattle.wgr_sql.proofs.CauseLemmas.{cause_after, handed}
use Rattle.wgr_sql.proofs.SurvivesLemmas.{survives_next}
use Rattle.wgr_register.specs.Census.{with_counts}
use Rattle.wgr_register.proofs.CauseLemmas.{network_kept, tenant_kept}
use Rattle.wgr_register.proofs.ThirdLemmas.{reads_also, third_next}
use Rattle.wgr_register.proofs.census.census.Goals as goal

pub returns-in_err-tenants-clause-reads : goal.returns-in_err-tenants-clause-reads
returns-in_err-tenants-clause-reads g c = reads_also c.tenants.ensures.reads

pub returns-in_err-tenants-clause-cause : goal.returns-in_err-tenants-clause-cause
returns-in_err-tenants-clause-cause g c db pending stood good =
    handed (HasCause (state g.S.Store c.args.conn.now) (state g.S.Store c.tenants.new.conn)) c.from_residual.result c.in_err-tenants.field-0.0 c.from_residual.ensures.1
    (c.in_err-tenants.ensures.cause db pending stood (tenant_kept (tables_of db) good))

pub returns-in_err-tokens-clause-reads : goal.returns-in_err-tokens-clause-reads
returns-in_err-tokens-clause-reads g c = third_next (reads_also c.tenants.ensures.reads) c.granted_tokens.ensures.reads

pub returns-in_err-tokens-clause-cause : goal.returns-in_err-tokens-clause-cause
returns-in_err-tokens-clause-cause g c db pending stood good =
    let old = state g.S.Store c.args.conn.now in
    let mid = state g.S.Store c.tenants.new.conn in
    let new = state g.S.Store c.granted_tokens.new.conn in
    handed (HasCause old new) c.from_residual-in_err-tokens.result c.in_err-tokens.field-0.0 c.from_residual-in_err-tokens.ensures.1
    (cause_after old mid new ⊥ ⊥ (λ _. ⊥) (λ _. ⊥) c.tenants.ensures.reads.survives c.granted_tokens.ensures.reads.survives (λ none. none) c.in_err-tokens.field-0.0
    (c.in_err-tokens.ensures.cause db pending (c.tenants.ensures.reads.stands db pending stood) good))

pub returns-in_err-network_entries-clause-reads : goal.returns-in_err-network_entries-clause-reads
returns-in_err-network_entries-clause-reads g c = third_next (third_next (reads_also c.tenants.ensures.reads) c.granted_tokens.ensures.reads) (reads_also c.settled_networks.ensures.reads)

pub returns-in_err-network_entries-clause-cause : goal.returns-in_err-network_entries-clause-cause
returns-in_err-network_entries-clause-cause g c db pending stood good =
    let old = state g.S.Store c.args.conn.now in
    let mid = state g.S.Store c.granted_tokens.new.conn in
    let new = state g.S.Store c.settled_networks.new.conn in
    let before = survives_next old (state g.S.Store c.tenants.new.conn) mid c.tenants.ensures.reads.survives c.granted_tokens.ensures.reads.survives in
    handed (HasCause old new) c.from_residual-in_err-network_entries.result c.in_err-network_entries.field-0.0 c.from_residual-in_err-network_entries.ensures.1
    (cause_after old mid new ⊥ ⊥ (λ _. ⊥) (λ _. ⊥) before c.settled_networks.ensures.reads.survives (λ none. none) c.in_err-network_entries.field-0.0
    (c.in_err-network_entries.ensures.cause db pending (c.granted_tokens.ensures.reads.stands db pending (c.tenants.ensures.reads.stands db pending stood) good.rows.meta) (network_kept (tables_of db) good)))

pub returns-in_err-networks-clause-reads : goal.returns-in_err-networks-clause-reads
returns-in_err-networks-clause-reads g c = third_next (third_next (third_next (reads_also c.tenants.ensures.reads) c.granted_tokens.ensures.reads) (reads_also c.settled_networks.ensures.reads)) (reads_also c.all_counted.ensures.reads)

pub returns-in_err-networks-clause-cause : goal.returns-in_err-networks-clause-cause
returns-in_err-networks-clause-cause g c db pending stood good =
    let old = state g.S.Store c.args.conn.now in
    let near = state g.S.Store c.granted_tokens.new.conn in
    let mid = state g.S.Store c.settled_networks.new.conn in
    let new = state g.S.Store c.all_counted.new.conn in
    let first = survives_next old (state g.S.Store c.tenants.new.conn) near c.tenants.ensures.reads.survives c.granted_tokens.ensures.reads.survives in
    let before = survives_next old near mid first c.settled_networks.ensures.reads.survives in
    handed (HasCause old new) c.from_residual-in_err-networks.result c.in_err-networks.field-0.0 c.from_residual-in_err-networks.ensures.1
    (cause_after old mid new ⊥ ⊥ (λ _. ⊥) (λ _. ⊥) before c.all_counted.ensures.reads.survives (λ none. none) c.in_err-networks.field-0.0
    (c.in_err-networks.ensures.cause db pending (c.settled_networks.ensures.reads.stands db pending (c.granted_tokens.ensures.reads.stands db pending (c.tenants.ensures.reads.stands db pending stood) good.rows.meta))))

pub returns-clause-reads : goal.returns-clause-reads
returns-clause-reads g c = third_next (third_next (third_next (reads_also c.tenants.ensures.reads) c.granted_tokens.ensures.reads) (reads_also c.settled_networks.ensures.reads)) (reads_also c.all_counted.ensures.reads)

pub returns-clause-listed : goal.returns-clause-listed
returns-clause-listed g c db pending stood third clean =
    let f = with_counts (tables_of db) in
    let one = c.tenants.ensures.reads.stands db pending stood in
    let two = c.granted_tokens.ensures.reads.stands db pending one third in
    let three = c.settled_networks.ensures.reads.stands db pending two in
    let clean3 = c.all_counted.ensures.reads.clean clean in
    let clean2 = c.settled_networks.ensures.reads.clean clean3 in
    let clean1 = c.granted_tokens.ensures.reads.clean clean2 in
    let (rows, same, are) = c.in_ok-network_entries.ensures.listed db pending two clean3 in
    record {
      tenants = c.in_ok-tenants.ensures.listed db pending stood clean1;
      tokens = c.in_ok-tokens.ensures.listed db pending one third clean2;
      rows = rows;
      same = same;
      networks = c.in_ok-networks.ensures.counted db pending three clean ∙ ap (map f) are ∙ map_map settled f rows;
    }
