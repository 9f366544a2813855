use Rattle.std.proofs.Common.{[], map}
use Rattle.wgr_sql.proofs.ResultLemmas.{if_ok}
use Rattle.wgr_columns.specs.Decode.{reader_in}
use Rattle.wgr_columns.specs.Stored.{AreStored}
use Rattle.wgr_entries.specs.Readers.{AreReadersOf, stored_reader}
use Rattle.wgr_entries.proofs.ReaderLemmas.{readers_answered, readers_listed, readers_plain, readers_stored}
use Rattle.wgr_entries.proofs.ReaderTexts.{digests_text}
use Rattle.wgr_entries.proofs.ThirdLemmas.{answered_third, reads_third, rows_third}
use Rattle.wgr_entries.proofs.reader.reader_rows.Goals as goal

pub returns-clause-reads : goal.returns-clause-reads
returns-clause-reads g c = reads_third g.S.Store c.args.conn.now c.query.new.conn digests_text c.query.ensures.survives readers_plain c.query.ensures.kept c.query.ensures.idle

pub returns-clause-listed : goal.returns-clause-listed
returns-clause-listed g c db pending stood third clean =
    if_ok c.query.result _ _ (λ rows given. rows_third g.S.Store c.args.conn.now c.query.new.conn digests_text c.query.ensures.survives db pending stood third (λ t l. AreReadersOf t (map reader_in l)) [] readers_listed clean rows.items given) (c.query.ensures.shown clean)

pub returns-clause-cause : goal.returns-clause-cause
returns-clause-cause g c db pending stood third =
    c.query.ensures.cause (answered_third g.S.Store c.args.conn.now c.query.new.conn digests_text c.query.ensures.survives db pending stood third [] readers_answered)

pub returns-clause-stored : goal.returns-clause-stored
returns-clause-stored g c db pending stood third clean =
    if_ok c.query.result _ _ (λ rows given. rows_third g.S.Store c.args.conn.now c.query.new.conn digests_text c.query.ensures.survives db pending stood third (λ t. AreStored stored_reader reader_in) [] readers_stored clean rows.items given) (c.query.ensures.shown clean)
