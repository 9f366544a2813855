use Rattle.std.proofs.Common.{◌≡◌, subst, refl, inr, arith, [], ◌∷◌, pos}
use Rattle.wgr_text.specs.Prefix.{IsAddr}
use Rattle.wgr_model.specs.Rows.{last_of, family_number, peer_id}
use Rattle.sqlite.specs.Held.{state}
use Rattle.wgr_sql.proofs.ResultLemmas.{if_ok}
use Rattle.wgr_columns.specs.Decode.{route_kind, bytes_of}
use Rattle.wgr_tables.proofs.AllowedLemmas.{allowed_came}
use Rattle.wgr_columns.proofs.FieldLemmas.{fits_128}
use Rattle.wgr_tables.proofs.Meanings.{insert_route_text, insert_route_means}
use Rattle.sqlite.specs.declared.types.Value.TheVariants.{Int, Blob}
use Rattle.wgr_tables.proofs.StopLemmas.{written_fails, insert_route_writes}
use Rattle.wgr_tables.proofs.route.add_route.Goals as goal

pub returns-clause-step : goal.returns-clause-step
returns-clause-step g c clean inside register =
    let old = state g.S.Store c.args.tx.now.conn.now in
    let new = state g.S.Store c.execute.new.tx.conn.now in
    let real : IsAddr c.args.prefix.now.address = subst IsAddr c.address-address.ensures.value c.address-address.ensures.fits in
    let low = fits_128 _ _ real in
    let high = fits_128 _ _ c.span.ensures.set.last_in.0 in
    let last : c.span.result.hi.number ≡ (last_of c.args.prefix.now).number = omega (arith, c.span.ensures.ends.last) in (
      c.execute.ensures.kept clean inside,
      if_ok c.execute.result _ _ (λ count h.
          let came = allowed_came route_kind insert_route_text (inr refl) insert_route_means old new (register h.1.was_open) c.args.network c.args.prefix.now c.span.result.hi.number c.args.number count low high last
          (rw (
            c.bytes_of-lo.ensures,
            c.number.ensures.value,
            c.number_value.ensures,
            c.family_value.ensures,
            c.family.ensures.value,
            c.bytes_of-hi.ensures,
            c.number-2.ensures.value,
            c.peer_id_value.ensures,
            c.number_value-2.ensures,
            c.from.ensures,
            c.length.ensures.value,
            c.address-address.ensures.value,
          ) at h.0) in
          (record { sound = came.sound; schema = came.schema; made = (real, came.made) }, h.1)) (c.execute.ensures.ran clean inside),
    )

pub returns-clause-cause : goal.returns-clause-cause
returns-clause-cause g c =
    let last : c.span.result.hi.number ≡ (last_of c.args.prefix.now).number = omega (arith, c.span.ensures.ends.last) in
    let old = state g.S.Store c.args.tx.now.conn.now in
    let new = state g.S.Store c.execute.new.tx.conn.now in
    let prefix = c.args.prefix.now in
    written_fails old new insert_route_text
    (Int (pos c.args.network) ∷ Int (pos (family_number prefix.address.family)) ∷ Blob (bytes_of prefix.address.number) ∷ Int (pos prefix.length) ∷ Blob (bytes_of (last_of prefix).number) ∷ Int (pos (peer_id c.args.network c.args.number)) ∷ [])
    c.execute.result (λ others. insert_route_writes others _ _ _ _ _ _)
    (rw (
      c.bytes_of-lo.ensures,
      c.number.ensures.value,
      c.number_value.ensures,
      c.family_value.ensures,
      c.family.ensures.value,
      c.bytes_of-hi.ensures,
      c.number-2.ensures.value,
      c.peer_id_value.ensures,
      c.number_value-2.ensures,
      c.from.ensures,
      c.length.ensures.value,
      c.address-address.ensures.value,
      last,
    ) at c.execute.ensures.cause)
