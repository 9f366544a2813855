use Rattle.std.proofs.Common.{subst, [], ◌∷◌, pos}
use Rattle.sqlite.specs.Held.{state}
use Rattle.wgr_text.specs.Prefix.{IsAddr}
use Rattle.wgr_sql.proofs.ResultLemmas.{if_ok}
use Rattle.wgr_tables.proofs.AllowedLemmas.{route_gone}
use Rattle.wgr_columns.proofs.FieldLemmas.{fits_128}
use Rattle.sqlite.specs.declared.types.Value.TheVariants.{Int, Blob}
use Rattle.wgr_tables.proofs.Meanings.{drop_route_text}
use Rattle.wgr_tables.proofs.StopLemmas.{written_fails, drop_route_writes}
use Rattle.wgr_columns.specs.Decode.{bytes_of}
use Rattle.wgr_model.specs.Rows.{family_number}
use Rattle.wgr_tables.proofs.route.drop_route.Goals as goal

pub returns-clause-step : goal.returns-clause-step
returns-clause-step g c clean inside register =
    let old = state g.S.Store c.args.tx.now.conn.now in
    let new = state g.S.Store c.execute.new.tx.conn.now in
    let low = fits_128 _ _ (subst IsAddr c.address-address.ensures.value c.address-address.ensures.fits) in (
      c.execute.ensures.kept clean inside,
      if_ok c.execute.result _ _ (λ count h. (
        route_gone old new (register h.1.was_open) c.args.network c.args.prefix.now count low
            (rw (c.bytes_of-lo.ensures, c.number.ensures.value, c.number_value.ensures, c.family_value.ensures, c.family.ensures.value, c.number_value-2.ensures, c.from.ensures, c.length.ensures.value, c.address-address.ensures.value) at h.0),
        h.1,
      )) (c.execute.ensures.ran clean inside),
    )

pub returns-clause-cause : goal.returns-clause-cause
returns-clause-cause g c =
    let old = state g.S.Store c.args.tx.now.conn.now in
    let new = state g.S.Store c.execute.new.tx.conn.now in
    let prefix = c.args.prefix.now in
    written_fails old new drop_route_text (Int (pos c.args.network) ∷ Int (pos (family_number prefix.address.family)) ∷ Blob (bytes_of prefix.address.number) ∷ Int (pos prefix.length) ∷ []) c.execute.result
    (λ others. drop_route_writes others _ _ _ _)
    (rw (c.bytes_of-lo.ensures, c.number.ensures.value, c.number_value.ensures, c.family_value.ensures, c.family.ensures.value, c.number_value-2.ensures, c.from.ensures, c.length.ensures.value, c.address-address.ensures.value) at c.execute.ensures.cause)
