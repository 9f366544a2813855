use Rattle.std.proofs.Common.{[], ◌∷◌}
use Rattle.sqlite.specs.declared.types.Value.TheVariants.{Blob}
use Rattle.sqlite.specs.Held.{state}
use Rattle.wgr_sql.proofs.ResultLemmas.{if_ok}
use Rattle.wgr_entries.proofs.ReaderLemmas.{reader_gone, drop_reader_writes}
use Rattle.wgr_entries.proofs.ReaderTexts.{drop_reader_text}
use Rattle.wgr_entries.proofs.ThirdLemmas.{third_fails}
use Rattle.wgr_entries.proofs.reader.drop_reader.Goals as goal

pub returns-clause-step : goal.returns-clause-step
returns-clause-step g c clean inside start =
    let old = state g.S.Store c.args.tx.now.conn.now in
    let new = state g.S.Store c.execute.new.tx.conn.now in
    (c.execute.ensures.kept clean inside, if_ok c.execute.result _ _ (λ count h. (reader_gone old new (start h.1.was_open) c.args.digest.now count h.0, h.1)) (c.execute.ensures.ran clean inside))

pub returns-clause-keeps : goal.returns-clause-keeps
returns-clause-keeps g c clean inside _ = (c.execute.ensures.kept clean inside, if_ok c.execute.result _ _ (λ count h. (tt, h.1)) (c.execute.ensures.ran clean inside))

pub returns-clause-cause : goal.returns-clause-cause
returns-clause-cause g c =
    third_fails (state g.S.Store c.args.tx.now.conn.now) (state g.S.Store c.execute.new.tx.conn.now) drop_reader_text (Blob c.args.digest.now ∷ []) c.execute.result (λ schema h. drop_reader_writes schema h c.args.digest.now) c.execute.ensures.cause
