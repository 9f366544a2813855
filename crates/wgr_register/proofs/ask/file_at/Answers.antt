use Rattle.wgr_columns.specs.Decode.{tables_of}
use Rattle.sqlite.specs.Held.{state}
use Rattle.wgr_sql.specs.Causes.{HasCause}
use Rattle.wgr_sql.proofs.CauseLemmas.{handed}
use Rattle.wgr_register.proofs.ask.file_at.Goals as goal

-- ---- a file that is kept

pub returns-in-Some-clause-text : goal.returns-in-Some-clause-text
returns-in-Some-clause-text g c db pending stood good is clean = rw c.in-Some.is at c.in-Ok.ensures.text (tables_of db) is

pub returns-in-Some-clause-memory : goal.returns-in-Some-clause-memory
returns-in-Some-clause-memory g c db pending stood good is clean = c.kept_text.ensures.rest (tables_of db) is

-- ---- or one that is made

pub returns-in_err-network-clause-cause : goal.returns-in_err-network-clause-cause
returns-in_err-network-clause-cause g c db pending stood good there =
    handed (HasCause (state g.S.Store c.args.conn.now) (state g.S.Store c.take_network.new.conn)) c.from_residual.result c.in_err-network.field-0.0 c.from_residual.ensures.1 (c.in_err-network.ensures.cause db pending stood good there)

pub returns-clause-text : goal.returns-clause-text
returns-clause-text g c db pending stood good is clean =
    let here = c.kept_text.ensures.rest (tables_of db) is in
    (c.in_ok-network.network, c.in_ok-network.ensures.formed db pending stood good here clean, c.in-Ok-made_text.ensures.text)

pub returns-clause-memory : goal.returns-clause-memory
returns-clause-memory g c db pending stood good is clean =
    let t = tables_of db in
    let here = c.kept_text.ensures.rest t is in
    let formed = c.in_ok-network.ensures.formed db pending stood good here clean in
    c.keep.ensures t (c.made_text.ensures.rest t (c.take_network.ensures.rest t here) formed) formed
