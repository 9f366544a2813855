use Rattle.std.proofs.Common.{pos, [], ◌∷◌}
use Rattle.sqlite.specs.declared.types.Value.TheVariants.{Int, Blob}
use Rattle.wgr_sql.proofs.ResultLemmas.{if_ok}
use Rattle.wgr_tables.proofs.AskedLemmas.{answered_here}
use Rattle.wgr_tables.proofs.ReadLemmas.{rows_read, reads_query}
use Rattle.wgr_rows.specs.Keyed.{HaveNumbers, ShowKey}
use Rattle.wgr_rows.proofs.KeyLemmas.{key_answered, key_asks, key_listed, key_numbers, key_text}
use Rattle.wgr_rows.proofs.key.key_rows.Goals as goal

pub returns-clause-reads : goal.returns-clause-reads
returns-clause-reads g c = reads_query g.S.Store c.args.conn.now c.query.new.conn key_text c.query.ensures.survives (λ others. (key_asks others).means.plain) c.query.ensures.kept c.query.ensures.idle

pub returns-clause-listed : goal.returns-clause-listed
returns-clause-listed g c db pending stood clean =
    if_ok c.query.result _ _ (λ rows given. rows_read g.S.Store c.args.conn.now c.query.new.conn db pending stood key_text c.query.ensures.survives (ShowKey c.args.network c.args.key.now.0) (Int (pos c.args.network) ∷ Blob c.args.key.now.0 ∷ []) (λ a b register found. key_listed a b register found c.args.network c.args.key.now.0) clean rows.items
    (rw c.number_value.ensures at given)) (c.query.ensures.shown clean)

pub returns-clause-numbers : goal.returns-clause-numbers
returns-clause-numbers g c db pending stood clean =
    if_ok c.query.result _ _ (λ rows given. rows_read g.S.Store c.args.conn.now c.query.new.conn db pending stood key_text c.query.ensures.survives (λ t. HaveNumbers) (Int (pos c.args.network) ∷ Blob c.args.key.now.0 ∷ []) (λ a b register found. key_numbers a b register found c.args.network c.args.key.now.0) clean rows.items
    (rw c.number_value.ensures at given)) (c.query.ensures.shown clean)

pub returns-clause-cause : goal.returns-clause-cause
returns-clause-cause g c db pending stood = (rw c.number_value.ensures at c.query.ensures.cause) (answered_here g.S.Store c.args.conn.now c.query.new.conn db pending stood c.query.ensures.survives key_text (Int (pos c.args.network) ∷ Blob c.args.key.now.0 ∷ []) (λ others. key_answered others c.args.network c.args.key.now.0))
