use Rattle.std.proofs.Common.{[], ◌∷◌, subst}
use Rattle.wgr_text.specs.Prefix.{IsAddr}
use Rattle.wgr_sql.proofs.ResultLemmas.{if_ok}
use Rattle.wgr_columns.specs.Decode.{AreNatural}
use Rattle.wgr_columns.proofs.FieldLemmas.{fits_128}
use Rattle.wgr_tables.proofs.AskedLemmas.{answered_here}
use Rattle.wgr_tables.proofs.ReadLemmas.{rows_read, reads_query}
use Rattle.wgr_rows.specs.Holder.{ShowPrefix}
use Rattle.wgr_rows.proofs.LeadShown.{prefix_listed, prefix_numbers}
use Rattle.wgr_rows.proofs.LeadTexts.{prefix_answered, prefix_asks, prefix_params, prefix_text}
use Rattle.wgr_rows.proofs.allowed.prefix_rows.Goals as goal

pub returns-clause-reads : goal.returns-clause-reads
returns-clause-reads g c = reads_query g.S.Store c.args.conn.now c.query.new.conn prefix_text c.query.ensures.survives (λ others. (prefix_asks others).means.plain) c.query.ensures.kept c.query.ensures.idle

pub returns-clause-listed : goal.returns-clause-listed
returns-clause-listed g c db pending stood clean =
    let low = fits_128 _ _ (subst IsAddr c.address-address.ensures.value c.address-address.ensures.fits) in
    if_ok c.query.result _ _ (λ rows given. rows_read g.S.Store c.args.conn.now c.query.new.conn db pending stood prefix_text c.query.ensures.survives (ShowPrefix c.args.network c.args.prefix.now) (prefix_params c.args.network c.args.prefix.now)
    (λ a b register found. prefix_listed a b register found c.args.network c.args.prefix.now low) clean rows.items
    (rw (c.bytes_of-lo.ensures, c.number.ensures.value, c.number_value.ensures, c.family_value.ensures, c.family.ensures.value, c.number_value-2.ensures, c.from.ensures, c.length.ensures.value, c.address-address.ensures.value) at given)) (c.query.ensures.shown clean)

pub returns-clause-numbers : goal.returns-clause-numbers
returns-clause-numbers g c db pending stood clean =
    let low = fits_128 _ _ (subst IsAddr c.address-address.ensures.value c.address-address.ensures.fits) in
    if_ok c.query.result _ _ (λ rows given. rows_read g.S.Store c.args.conn.now c.query.new.conn db pending stood prefix_text c.query.ensures.survives (λ t. AreNatural (6 ∷ [])) (prefix_params c.args.network c.args.prefix.now)
    (λ a b register found. prefix_numbers a b register found c.args.network c.args.prefix.now low) clean rows.items
    (rw (c.bytes_of-lo.ensures, c.number.ensures.value, c.number_value.ensures, c.family_value.ensures, c.family.ensures.value, c.number_value-2.ensures, c.from.ensures, c.length.ensures.value, c.address-address.ensures.value) at given)) (c.query.ensures.shown clean)

pub returns-clause-cause : goal.returns-clause-cause
returns-clause-cause g c db pending stood =
    (rw (c.bytes_of-lo.ensures, c.number.ensures.value, c.number_value.ensures, c.family_value.ensures, c.family.ensures.value, c.number_value-2.ensures, c.from.ensures, c.length.ensures.value, c.address-address.ensures.value) at c.query.ensures.cause)
    (answered_here g.S.Store c.args.conn.now c.query.new.conn db pending stood c.query.ensures.survives prefix_text (prefix_params c.args.network c.args.prefix.now) (λ others. prefix_answered others c.args.network c.args.prefix.now))
