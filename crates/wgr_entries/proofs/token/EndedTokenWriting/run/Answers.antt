use Rattle.std.proofs.Common.{◌≡◌, subst, sym, arith}
use Rattle.sqlite.specs.State.{HasCleanDisk}
use Rattle.sqlite.specs.Held.{state}
use Rattle.wgr_model.specs.Register.{Bytes}
use Rattle.wgr_model.specs.Rows.{Tables}
use Rattle.wgr_sql.specs.Steps.{Then}
use Rattle.wgr_tables.specs.Writes.{Changes, TokenLost, Written}
use Rattle.wgr_entries.specs.OrderSteps.{TokenRowGoes}
use Rattle.wgr_entries.specs.Readers.{ReaderGoes, ReaderStays}
use Rattle.wgr_entries.specs.Stops.{TokenRowStays}
use Rattle.wgr_entries.specs.ThirdVersion.{IsThird}
use Rattle.wgr_entries.proofs.TokenLemmas.{first_stops, goes_whole, second_stops, steps_to}
use Rattle.wgr_entries.proofs.token.EndedTokenWriting.run.Goals as goal

-- the write that is told of a token of this digest
abbrev Told : Bytes → Tables → Written → Type 0
Told digest t one = IsThird t × (one ≡ TokenLost digest)

all_goes : (digest : Bytes) (t u : Tables) (one : Written) → Then (ReaderGoes digest) (TokenRowGoes digest) t u → Told digest t one → Changes one t u
all_goes digest t u one both told = subst (λ w. Changes w t u) (sym told.1) (goes_whole digest t u both)

pub returns-in_err-drop_reader-clause-cause : goal.returns-in_err-drop_reader-clause-cause
returns-in_err-drop_reader-clause-cause g c =
    let digest = c.args.self.now.digest.now in
    first_stops (ReaderStays digest) (ReaderGoes digest) (TokenRowStays digest) (state g.S.Store c.args.tx.now.conn.now) (state g.S.Store c.drop_reader.new.tx.conn.now)
    c.from_residual.result c.in_err-drop_reader.field-0.0 c.from_residual.ensures.1 c.in_err-drop_reader.ensures.cause

pub returns-clause-step : goal.returns-clause-step
returns-clause-step g c clean =
    let old = state g.S.Store c.args.tx.now.conn.now in
    let mid = state g.S.Store c.drop_reader.new.tx.conn.now in
    let new = state g.S.Store c.drop_token_row.new.tx.conn.now in
    let digest = c.args.self.now.digest.now in
    let before : HasCleanDisk mid = omega (arith, c.drop_token_row.ensures.survives.clean, clean) in
    steps_to (ReaderGoes digest) (TokenRowGoes digest) (Told digest) (λ t one told. told.0) (all_goes digest) old mid new c.in_ok-drop_reader.field-0 (c.in_ok-drop_reader.ensures.keeps before) (c.in_ok-drop_reader.ensures.step before)
    c.drop_token_row.result (c.drop_token_row.ensures.keeps clean) (c.drop_token_row.ensures.step clean)

pub returns-clause-cause : goal.returns-clause-cause
returns-clause-cause g c =
    let old = state g.S.Store c.args.tx.now.conn.now in
    let mid = state g.S.Store c.drop_reader.new.tx.conn.now in
    let new = state g.S.Store c.drop_token_row.new.tx.conn.now in
    let digest = c.args.self.now.digest.now in
    second_stops (ReaderStays digest) (ReaderGoes digest) (TokenRowStays digest) old mid new c.in_ok-drop_reader.field-0 c.drop_token_row.result (λ clean. c.in_ok-drop_reader.ensures.step clean)
    c.drop_reader.ensures.survives c.drop_token_row.ensures.survives c.drop_token_row.ensures.cause
