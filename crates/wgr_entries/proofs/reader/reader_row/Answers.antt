use Rattle.std.proofs.Common.{[], ◌∷◌}
use Rattle.sqlite.specs.declared.types.Value.TheVariants.{Blob}
use Rattle.wgr_sql.proofs.ResultLemmas.{if_ok}
use Rattle.wgr_entries.specs.Readers.{ShowReader}
use Rattle.wgr_entries.proofs.LookupLemmas.{on_each}
use Rattle.wgr_entries.proofs.ReaderLemmas.{reader_answered, reader_listed, reader_plain}
use Rattle.wgr_entries.proofs.ReaderTexts.{digest_text}
use Rattle.wgr_entries.proofs.ThirdLemmas.{answered_third, reads_third, rows_third}
use Rattle.wgr_entries.proofs.reader.reader_row.Goals as goal

pub returns-clause-reads : goal.returns-clause-reads
returns-clause-reads g c = reads_third g.S.Store c.args.conn.now c.query.new.conn digest_text c.query.ensures.survives reader_plain c.query.ensures.kept c.query.ensures.idle

pub returns-clause-listed : goal.returns-clause-listed
returns-clause-listed g c db pending stood third clean =
    if_ok c.query.result _ _ (λ rows given. rows_third g.S.Store c.args.conn.now c.query.new.conn digest_text c.query.ensures.survives db pending stood third (ShowReader c.args.digest.now) (Blob c.args.digest.now ∷ [])
    (λ a b start found. reader_listed a b start found c.args.digest.now) clean rows.items given) (c.query.ensures.shown clean)

pub returns-clause-open : goal.returns-clause-open
returns-clause-open g c clean = on_each c.query.result _ _ (λ rows given. given.was_open) (c.query.ensures.shown clean)

pub returns-clause-cause : goal.returns-clause-cause
returns-clause-cause g c db pending stood third =
    c.query.ensures.cause (answered_third g.S.Store c.args.conn.now c.query.new.conn digest_text c.query.ensures.survives db pending stood third (Blob c.args.digest.now ∷ []) (λ schema h. reader_answered schema h c.args.digest.now))
