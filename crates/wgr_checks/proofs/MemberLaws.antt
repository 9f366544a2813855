-- Rows that are written as the register writes them are rows of a register.
use Rattle.std.proofs.Common.{◌≡◌, ℕ, List, ◌∷◌, [], map, sym, subst, inl, inr}
use Rattle.sqlite.specs.Order.{Row}
use Rattle.sqlite_rules.specs.Lists.{Has}
use Rattle.sqlite_rules.proofs.ListLemmas.{all_has}
use Rattle.wgr_model.specs.Rows.{AllowedRow, PeerRow, family_number}
use Rattle.wgr_sql.proofs.Answers.{map-both}
use Rattle.wgr_columns.specs.Decode.{IsNumberAt, AreAllowed, ArePeers, HaveKinds, HaveStatuses, allowed_in, allowed_addresses, allowed_numbers, family_of, number_at, peer_in, peer_numbers}
use Rattle.wgr_checks.specs.Sorted.{AreAmong}
use Rattle.wgr_checks.proofs.TenantLaws.{keyed_by_ids}
use Rattle.wgr_checks.proofs.TokenLaws.{keyed_by_rowids}
use Rattle.wgr_columns.specs.Fields.{IsSpelledAt}
use Rattle.wgr_checks.specs.PeerRows.{AreWrittenPeers, IsPeerRow}
use Rattle.wgr_checks.specs.AllowedRows.{AreWrittenAllowed, IsAllowedRow}

module _ (networks : List ℕ) (rows : List Row) where
  module _ (good : AreWrittenPeers networks rows) where
    peer_row : (r : Row) → Has rows r → IsPeerRow r
    peer_row r here = all_has IsPeerRow rows r good.each here

    peer_number : (r : Row) → Has rows r → (p : ℕ) → Has peer_numbers p → IsNumberAt r p
    peer_number r here p (inl e) = subst (IsNumberAt r) (sym e) (peer_row r here).id
    peer_number r here p (inr (inl e)) = subst (IsNumberAt r) (sym e) (peer_row r here).network
    peer_number r here p (inr (inr (inl e))) = subst (IsNumberAt r) (sym e) (peer_row r here).until
    peer_number r here p (inr (inr (inr (inl e)))) = subst (IsNumberAt r) (sym e) (peer_row r here).keepalive
    peer_number r here p (inr (inr (inr (inr none)))) = absurd none

    pub peers_are : ArePeers rows × HaveStatuses rows × AreAmong (map (λ p. p.network) (map peer_in rows)) networks
    peers_are = (
      record {
        keyed = keyed_by_ids rows (λ r here. (peer_row r here).id) good.ids;
        numbers_are = peer_number;
        addresses_are = λ r here p none. absurd none;
        families_are = λ r here p none. absurd none;
      },
      (λ r here. (peer_row r here).status),
      subst (λ l. AreAmong l networks) (sym (map-both peer_in (λ (p : PeerRow). p.network) rows)) good.among,
    )

  module _ (good : AreWrittenAllowed networks rows) where
    allowed_row : (r : Row) → Has rows r → IsAllowedRow r
    allowed_row r here = all_has IsAllowedRow rows r good.each here

    allowed_number : (r : Row) → Has rows r → (p : ℕ) → Has allowed_numbers p → IsNumberAt r p
    allowed_number r here p (inl e) = subst (IsNumberAt r) (sym e) (allowed_row r here).network
    allowed_number r here p (inr (inl e)) = subst (IsNumberAt r) (sym e) (allowed_row r here).family.0
    allowed_number r here p (inr (inr (inl e))) = subst (IsNumberAt r) (sym e) (allowed_row r here).length
    allowed_number r here p (inr (inr (inr (inl e)))) = subst (IsNumberAt r) (sym e) (allowed_row r here).peer
    allowed_number r here p (inr (inr (inr (inr none)))) = absurd none

    allowed_address : (r : Row) → Has rows r → (p : ℕ) → Has allowed_addresses p → IsSpelledAt r p
    allowed_address r here p (inl e) = subst (IsSpelledAt r) (sym e) (allowed_row r here).lo
    allowed_address r here p (inr (inl e)) = subst (IsSpelledAt r) (sym e) (allowed_row r here).hi
    allowed_address r here p (inr (inr none)) = absurd none

    allowed_family : (r : Row) → Has rows r → (p : ℕ) → Has (2 ∷ []) p → number_at r p ≡ family_number (family_of (number_at r p))
    allowed_family r here p (inl e) = subst (λ x. number_at r x ≡ family_number (family_of (number_at r x))) (sym e) (allowed_row r here).family.1
    allowed_family r here p (inr none) = absurd none

    pub allowed_are : AreAllowed rows × HaveKinds rows × AreAmong (map (λ a. a.network) (map allowed_in rows)) networks
    allowed_are = (
      record {
        keyed = keyed_by_rowids rows good.own_rowids;
        numbers_are = allowed_number;
        addresses_are = allowed_address;
        families_are = allowed_family;
      },
      (λ r here. (allowed_row r here).kind),
      subst (λ l. AreAmong l networks) (sym (map-both allowed_in (λ (a : AllowedRow). a.network) rows)) good.among,
    )
