use Rattle.std.proofs.Common.{◌≡◌, subst, sym, arith}
use Rattle.sqlite.specs.State.{HasCleanDisk}
use Rattle.sqlite.specs.Held.{state}
use Rattle.wgr_model.specs.declared.right.Right.{Right}
use Rattle.wgr_model.specs.declared.right.Right.TheVariants.{Full, Read}
use Rattle.wgr_model.specs.Register.{Token}
use Rattle.wgr_model.specs.Rows.{Tables}
use Rattle.wgr_sql.specs.Steps.{Then}
use Rattle.wgr_sql.specs.declared.fault.Fault.{Fault}
use Rattle.wgr_tables.specs.Standing.{StepsAs}
use Rattle.wgr_tables.specs.Stops.{FailsBy}
use Rattle.wgr_tables.specs.Writes.{Changes, TokenGained, Written}
use Rattle.wgr_tables.proofs.Commits.{steps_as}
use Rattle.wgr_tables.proofs.StopLemmas.{weaker_fails}
use Rattle.wgr_entries.specs.OrderSteps.{TokenRowComes}
use Rattle.wgr_entries.specs.Readers.{ReaderComes, ReaderStaysOut}
use Rattle.wgr_entries.specs.Stops.{TokenRowStaysOut, TokenStaysOut}
use Rattle.wgr_entries.specs.ThirdVersion.{IsThird}
use Rattle.wgr_entries.proofs.TokenLemmas.{comes_to_all, comes_to_read, first_stops, second_stops, steps_to}
use Rattle.wgr_entries.proofs.token.NewTokenWriting.run.Goals as goal

-- the write that is told of a token of this right
abbrev Told : Token → Right → Tables → Written → Type 0
Told token right t one = IsThird t × (one ≡ TokenGained token right)

all_come : (token : Token) (t u : Tables) (one : Written) → TokenRowComes token t u → Told token Full t one → Changes one t u
all_come token t u one row told = subst (λ w. Changes w t u) (sym told.1) (comes_to_all token t u row)

to_read : (token : Token) (t u : Tables) (one : Written) → Then (ReaderComes token.digest) (TokenRowComes token) t u → Told token Read t one → Changes one t u
to_read token t u one both told = subst (λ w. Changes w t u) (sym told.1) (comes_to_read token t u both)

pub returns-in-Full-clause-step : goal.returns-in-Full-clause-step
returns-in-Full-clause-step g c clean =
    let old = state g.S.Store c.args.tx.now.conn.now in
    let new = state g.S.Store c.insert_token_row.new.tx.conn.now in
    let token : Token = record { digest = c.args.self.now.digest.now; tenant = c.args.self.now.tenant } in
    subst (λ right. StepsAs {E = Fault} (Told token right) old new c.insert_token_row.result) (sym c.in-Full.is)
    (steps_as (TokenRowComes token) (Told token Full) (all_come token) old new c.insert_token_row.result (c.insert_token_row.ensures.step clean))

pub returns-in-Full-clause-cause : goal.returns-in-Full-clause-cause
returns-in-Full-clause-cause g c =
    let old = state g.S.Store c.args.tx.now.conn.now in
    let new = state g.S.Store c.insert_token_row.new.tx.conn.now in
    let token : Token = record { digest = c.args.self.now.digest.now; tenant = c.args.self.now.tenant } in
    subst (λ right. FailsBy (λ t. IsThird t → TokenStaysOut token right t) old new c.insert_token_row.result) (sym c.in-Full.is)
    (weaker_fails (TokenRowStaysOut token) (λ t. IsThird t → TokenRowStaysOut token t) old new c.insert_token_row.result (λ t stop _. stop) c.insert_token_row.ensures.cause)

pub returns-in_err-insert_reader-in-Read-clause-cause : goal.returns-in_err-insert_reader-in-Read-clause-cause
returns-in_err-insert_reader-in-Read-clause-cause g c =
    let old = state g.S.Store c.args.tx.now.conn.now in
    let mid = state g.S.Store c.insert_reader.new.tx.conn.now in
    let token : Token = record { digest = c.args.self.now.digest.now; tenant = c.args.self.now.tenant } in
    subst (λ right. FailsBy (λ t. IsThird t → TokenStaysOut token right t) old mid c.from_residual.result) (sym c.in-Read.is)
    (first_stops (ReaderStaysOut token.digest) (ReaderComes token.digest) (TokenRowStaysOut token) old mid c.from_residual.result c.in_err-insert_reader-in-Read.field-0.0 c.from_residual.ensures.1 c.in_err-insert_reader-in-Read.ensures.cause)

pub returns-in_ok-insert_reader-in-Read-clause-step : goal.returns-in_ok-insert_reader-in-Read-clause-step
returns-in_ok-insert_reader-in-Read-clause-step g c clean =
    let old = state g.S.Store c.args.tx.now.conn.now in
    let mid = state g.S.Store c.insert_reader.new.tx.conn.now in
    let new = state g.S.Store c.insert_token_row-in-Read.new.tx.conn.now in
    let token : Token = record { digest = c.args.self.now.digest.now; tenant = c.args.self.now.tenant } in
    let before : HasCleanDisk mid = omega (arith, c.insert_token_row-in-Read.ensures.survives.clean, clean) in
    let made = c.in_ok-insert_reader-in-Read in
    subst (λ right. StepsAs {E = Fault} (Told token right) old new c.insert_token_row-in-Read.result) (sym c.in-Read.is)
    (steps_to (ReaderComes token.digest) (TokenRowComes token) (Told token Read) (λ t one told. told.0) (to_read token) old mid new made.field-0 (made.ensures.keeps before) (made.ensures.step before)
    c.insert_token_row-in-Read.result (c.insert_token_row-in-Read.ensures.keeps clean) (c.insert_token_row-in-Read.ensures.step clean))

pub returns-in_ok-insert_reader-in-Read-clause-cause : goal.returns-in_ok-insert_reader-in-Read-clause-cause
returns-in_ok-insert_reader-in-Read-clause-cause g c =
    let old = state g.S.Store c.args.tx.now.conn.now in
    let mid = state g.S.Store c.insert_reader.new.tx.conn.now in
    let new = state g.S.Store c.insert_token_row-in-Read.new.tx.conn.now in
    let token : Token = record { digest = c.args.self.now.digest.now; tenant = c.args.self.now.tenant } in
    let made = c.in_ok-insert_reader-in-Read in
    subst (λ right. FailsBy (λ t. IsThird t → TokenStaysOut token right t) old new c.insert_token_row-in-Read.result) (sym c.in-Read.is)
    (second_stops (ReaderStaysOut token.digest) (ReaderComes token.digest) (TokenRowStaysOut token) old mid new made.field-0 c.insert_token_row-in-Read.result (λ clean. made.ensures.step clean)
    c.insert_reader.ensures.survives c.insert_token_row-in-Read.ensures.survives c.insert_token_row-in-Read.ensures.cause)
