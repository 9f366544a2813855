-- A row that holds, where the rows are consistent, has its prefix and the id of its peer.
use Rattle.std.proofs.Common.{◌≡◌, ◌<◌, ◌^◌, ◌++◌, ◌≤◌, ℕ, Bool, true, false, pos, List, [], ◌∷◌, length, nat_eq, inl, inr, refl, sym, ap, subst, ◌∙◌, arith, eqb-true, length-append}
use Rattle.sqlite.specs.declared.types.Value.TheVariants.{Int}
use Rattle.sqlite.specs.Order.{Row}
use Rattle.sqlite.specs.Given.{HasGiven}
use Rattle.sqlite.specs.Held.{Held, state}
use Rattle.sqlite.specs.State.{State, Shown}
use Rattle.sqlite.specs.Store.{Ghosts}
use Rattle.sqlite.specs.Term.{eval_all}
use Rattle.sqlite_rules.specs.Lists as there
use Rattle.sqlite_rules.proofs.ListLemmas.{has_left}
use Rattle.wgr_text.specs.Prefix.{PrefixValue, IsAddr, IsPrefix}
use Rattle.wgr_pool.proofs.Bools.{and_true}
use Rattle.wgr_model.specs.Laws.{Has}
use Rattle.wgr_model.specs.Rows.{peer_id}
use Rattle.wgr_columns.specs.Decode.{IsRegister, allowed_in, number_at, tables_of}
use Rattle.wgr_columns.specs.Fields.{IsPeerIdAt, IsPrefixAt}
use Rattle.wgr_rows.specs.HeldRows.{hold_params, holds_text, last_number, max_holds}
use Rattle.wgr_rows.specs.Stopping.{HavePool}
use Rattle.wgr_rows.proofs.HoldLemmas.{IsChosen, as_many, chosen_each, held, holds_listed}
use Rattle.wgr_rows.proofs.Meaning.{hold_places}
use Rattle.wgr_rows.proofs.HeldLemmas.{leads_to, masked_row}
use Rattle.wgr_rows.proofs.Coming.{goes_on, pool_high}
use Rattle.wgr_rows.proofs.FewLemmas.{few_holds}
use Rattle.wgr_rows.proofs.OwnRows.{among}

-- a row has its prefix, and the id of its peer, if that is shown
abbrev pub IsRead : Bool → ℕ → Row → Type 0
IsRead shows_peers network r = IsPrefixAt r 2 × (shows_peers ≡ true → IsPeerIdAt r 6 network)

module _ (shows_peers : Bool) (old new : State) (register : IsRegister old.now) (network : ℕ) (pool : PrefixValue) (start : ℕ) (low : start < 2 ^ 128) (high : last_number pool < 2 ^ 128) (rows : List Row) (shown : Shown (holds_text shows_peers) (hold_params network pool start) old new rows) (have : HavePool (tables_of old.now) network pool) where
  abbrev chosen : Row → Type 0
  chosen = IsChosen shows_peers old new register network pool start low high rows shown

  abbrev as_shown : Bool → Row → Row
  as_shown all x = eval_all (hold_places all) (hold_params network pool start ∷ x ∷ [])

  there_is : (x : Row) → chosen x → Has (tables_of old.now).allowed (allowed_in x)
  there_is x is = among allowed_in (old.now.trees 10) x is.0

  own : (x : Row) → chosen x → (allowed_in x).network ≡ have.row.id
  own x is = eqb-true (allowed_in x).network network (and_true (nat_eq (allowed_in x).network network) _ is.1).0 ∙ sym have.id_is

  prefix_there : (x : Row) → chosen x → IsPrefixAt (as_shown true x) 2
  prefix_there x is =
      let w = register.written.allowed in
      let masked = masked_row (tables_of old.now) have.consistent have.row have.there (allowed_in x) (there_is x is) (own x is) in
      record {
        address = record { family_is = (w.numbers_are x is.0 2 (inr (inl refl)), w.families_are x is.0 2 (inl refl)); spelled = w.addresses_are x is.0 3 (inl refl); fits = masked.0 };
        length = w.numbers_are x is.0 4 (inr (inr (inl refl)));
        prefix = masked.1;
      }

  -- the columns of the prefix are the same whether the peer is shown or not
  prefix_read : (all : Bool) (x : Row) → chosen x → IsPrefixAt (as_shown all x) 2
  prefix_read true x is = prefix_there x is
  prefix_read false x is = let it = prefix_there x is in record { address = record { family_is = it.address.family_is; spelled = it.address.spelled; fits = it.address.fits }; length = it.length; prefix = it.prefix }

  peer_read : (x : Row) → chosen x → IsPeerIdAt (as_shown true x) 6 network
  peer_read x is =
      let leads = leads_to (tables_of old.now) have.consistent have.row have.there (allowed_in x) (there_is x is) (own x is) in
      let id : number_at x 6 ≡ peer_id network leads.0 = leads.2 ∙ ap (λ i. peer_id i leads.0) have.id_is in
      (leads.0, leads.1, register.written.allowed.numbers_are x is.0 6 (inr (inr (inr (inl refl)))) ∙ ap (λ n. Int (pos n)) id)

  peer_shown : (x : Row) → chosen x → shows_peers ≡ true → IsPeerIdAt (as_shown shows_peers x) 6 network
  peer_shown x is shows = subst (λ b. IsPeerIdAt (as_shown b x) 6 network) (sym shows) (peer_read x is)

  rows_read : (r : Row) → there.Has rows r → IsRead shows_peers network r
  rows_read = chosen_each shows_peers old new register network pool start low high rows shown (IsRead shows_peers network) (λ x is. (prefix_read shows_peers x is, peer_shown x is))

-- ---- rows that were given so far

module _ {S : Type 0} (g : Ghosts S) (h : Held S) (shows_peers : Bool) (register : IsRegister (state g h).now) (network : ℕ) (pool : PrefixValue) (start : ℕ) (is : IsPrefix pool) (fits : IsAddr pool.address) (low : start < 2 ^ 128) (have : HavePool (tables_of (state g h).now) network pool)
    (front : List Row) (given : HasGiven g (holds_text shows_peers) (hold_params network pool start) h front) where
  high : last_number pool < 2 ^ 128
  high = pool_high pool is fits

  all : (tail : List Row) × Shown (holds_text shows_peers) (hold_params network pool start) (state g h) (state g h) (front ++ tail)
  all = goes_on g h shows_peers register have.consistent.rows.keyed network pool start low high front given

  -- they are no more than a network may have
  pub few_given : length front ≤ max_holds
  few_given =
      let rows = front ++ all.0 in
      let s = state g h in
      let few = few_holds (tables_of s.now) network pool start have (held shows_peers s s register network pool start low high rows all.1) (holds_listed shows_peers s s register network pool start low high rows all.1) in
      let long = as_many shows_peers s s register network pool start low high rows all.1 in
      let both = length-append front all.0 in
      omega (arith, few, long, both)

  -- and each is read
  pub given_read : (r : Row) → there.Has front r → IsRead shows_peers network r
  given_read r here = rows_read shows_peers (state g h) (state g h) register network pool start low high (front ++ all.0) all.1 have r (has_left front all.0 r here)
