use Rattle.std.proofs.Common.{◌≡◌, ◌+◌, ◌-◌, ℕ, subst, refl, inl, arith, [], ◌∷◌, pos}
use Rattle.wgr_text.specs.Prefix.{block, width}
use Rattle.wgr_text.specs.declared.addr.Family.{Family}
use Rattle.wgr_text.specs.declared.addr.Family.TheVariants.{V4, V6}
use Rattle.wgr_pool.specs.PrefixTests.{full}
use Rattle.sqlite.specs.Held.{state}
use Rattle.wgr_sql.proofs.ResultLemmas.{if_ok}
use Rattle.wgr_columns.specs.Decode.{address_kind, bytes_of}
use Rattle.wgr_tables.proofs.AllowedLemmas.{allowed_came}
use Rattle.wgr_columns.proofs.FieldLemmas.{fits_128}
use Rattle.wgr_tables.proofs.Meanings.{insert_address_text, insert_address_means}
use Rattle.sqlite.specs.declared.types.Value.TheVariants.{Blob, Int}
use Rattle.wgr_tables.proofs.StopLemmas.{written_fails, insert_address_writes}
use Rattle.wgr_tables.specs.Stops.{FailsBy, IsStatementRefused}
use Rattle.wgr_model.specs.Rows.{family_number, peer_id}
use Rattle.wgr_tables.proofs.enter.add_address.Goals as goal

-- an address at full length is the last of its prefix
last_itself : (f : Family) (n : ℕ) → n ≡ n + block f (width f) - 1
last_itself V4 n = omega arith
last_itself V6 n = omega arith

pub returns-clause-step : goal.returns-clause-step
returns-clause-step g c clean inside register =
    let old = state g.S.Store c.args.tx.now.conn.now in
    let new = state g.S.Store c.execute.new.tx.conn.now in
    let address = c.args.peer.now.address in
    let low = fits_128 address.family address.number c.family-family.ensures.fits in (
      c.execute.ensures.kept clean inside,
      if_ok c.execute.result _ _ (λ count h. (
        allowed_came address_kind insert_address_text (inl refl) insert_address_means old new (register h.1.was_open)
            c.args.network (full address) address.number c.args.peer.now.number count low low (last_itself address.family address.number)
            (rw (c.bytes_of-bytes.ensures, c.number.ensures.value, c.number_value.ensures, c.family_value.ensures, c.peer_id_value.ensures, c.number_value-2.ensures, c.from.ensures, c.width.ensures, c.family-family.ensures.value) at h.0),
        h.1,
      )) (c.execute.ensures.ran clean inside),
    )

pub returns-clause-cause : goal.returns-clause-cause
returns-clause-cause g c =
    let network = c.args.network in
    let address = c.args.peer.now.address in
    let old = state g.S.Store c.args.tx.now.conn.now in
    let new = state g.S.Store c.execute.new.tx.conn.now in
    let id = peer_id network c.args.peer.now.number in
    let params = λ (hi : ℕ). Int (pos network) ∷ Int (pos (family_number address.family)) ∷ Blob (bytes_of address.number) ∷ Int (pos (width address.family)) ∷ Blob (bytes_of hi) ∷ Int (pos id) ∷ [] in
    subst (λ hi. FailsBy (IsStatementRefused insert_address_text (params hi)) old new c.execute.result) (last_itself address.family address.number)
    (written_fails old new insert_address_text (params address.number) c.execute.result (λ others. insert_address_writes others _ _ _ _ _ _)
    (rw (c.bytes_of-bytes.ensures, c.number.ensures.value, c.number_value.ensures, c.family_value.ensures, c.peer_id_value.ensures, c.number_value-2.ensures, c.from.ensures, c.width.ensures, c.family-family.ensures.value) at c.execute.ensures.cause))
