use Rattle.std.proofs.Common.{Bool, sym, ap, not, ◌∙◌}
use Rattle.sqlite.specs.Held.{state}
use Rattle.wgr_columns.specs.Decode.{tables_of}
use Rattle.wgr_model.specs.Register.{right_of}
use Rattle.wgr_sql.specs.Causes.{HasCause}
use Rattle.wgr_sql.proofs.CauseLemmas.{handed}
use Rattle.wgr_tables.proofs.ReadLemmas.{reads_still}
use Rattle.wgr_register.proofs.RightLemmas.{change_allowed, reading_allowed}
use Rattle.wgr_register.proofs.ThirdLemmas.{reads_also}
use Rattle.wgr_register.proofs.ask.may_ask.Goals as goal

pub returns-then-allows-clause-reads : goal.returns-then-allows-clause-reads
returns-then-allows-clause-reads g c = reads_also (reads_still g.S.Store c.args.conn.now c.requires.idle)

pub returns-then-allows-clause-told : goal.returns-then-allows-clause-told
returns-then-allows-clause-told g c db pending stood third clean = sym (reading_allowed (right_of (tables_of db).readers c.args.digest.now) c.args.command.now (sym c.allows.ensures ∙ c.if-allows.true))

pub returns-in_err-reader-clause-cause : goal.returns-in_err-reader-clause-cause
returns-in_err-reader-clause-cause g c db pending stood third =
    handed (HasCause (state g.S.Store c.args.conn.now) (state g.S.Store c.is_reader.new.conn)) c.from_residual.result c.in_err-reader.field-0.0 c.from_residual.ensures.1 (c.in_err-reader.ensures.cause db pending stood third)

pub returns-clause-told : goal.returns-clause-told
returns-clause-told g c db pending stood third clean =
    ap not (c.in_ok-reader.ensures.found db pending stood third clean) ∙ change_allowed _ c.args.command.now (sym c.allows.ensures ∙ c.if-allows.false)
