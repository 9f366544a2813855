-- What an ask owes to the rows.
use Rattle.std.proofs.Common.{◌≡◌, ℕ, Bool, true, false, ◌&&◌, List, [], ◌∷◌, Some, Ok, nat_eq, refl, sym, ap, ap₂, subst, ◌∙◌, arith, true≢false, option_map}
use Rattle.std.specs.Prelude.{if◌then◌else◌}
use Rattle.wgr_core.specs.Network.{NetworkValue}
use Rattle.wgr_core.specs.declared.command.Command.{Command}
use Rattle.wgr_core.specs.declared.reply.Reply.{Reply}
use Rattle.wgr_model.specs.Consistent.{IsNetworkEntry, same_slot, slot}
use Rattle.wgr_model.specs.Laws.{Has}
use Rattle.wgr_model.specs.Register.{Bytes, NetworkEntry, IsSame, is_same, right_of}
use Rattle.wgr_model.specs.RowAsks.{ChangesReplaceRows, NetworksAreFound, ReadersLeaveRows, ReadingsLeaveRows, RefusalsLeaveRows}
use Rattle.wgr_model.specs.RowLaws.{AreConsistent, IsRowStep}
use Rattle.wgr_model.specs.Rows.{AreRowsOf, NetworkRow, Tables, network_entry_of, register_of}
use Rattle.wgr_model.specs.Steps.{Ask, ReadOnly, Replied, act, acted, allows, ask, asked, network_at, outcome, put_network, tenant_of_token, with_network}
use Rattle.wgr_model.proofs.CallLemmas.{reader_asks}
use Rattle.wgr_model.proofs.CollectLemmas.{has_map}
use Rattle.wgr_model.proofs.CommitLemmas.{committed}
use Rattle.wgr_model.proofs.GatherLemmas.{eqb_self}
use Rattle.wgr_model.proofs.KeptLemmas.{act_settings}
use Rattle.wgr_model.proofs.LookLemmas.{is_same_refl}
use Rattle.wgr_model.proofs.RunLemmas.{same_itself}
use Rattle.wgr_model.proofs.SameLemmas.{at_has, has_find, network_found, slot_tells}

-- a network that is put in its own place
pub put_itself : (hs : List NetworkEntry) (id : ℕ) (name : Bytes) (n : NetworkValue) → network_at hs id name ≡ Some n → with_network hs id name n ≡ hs
put_itself [] id name n e = refl
put_itself (h ∷ hs) id name n e = by_test (nat_eq h.tenant id && is_same name h.name) e (put_itself hs id name n) where
  by_test : (b : Bool) → (if b then Some h.network else network_at hs id name) ≡ Some n → (network_at hs id name ≡ Some n → with_network hs id name n ≡ hs) → (if b then record h { network = n } ∷ hs else h ∷ with_network hs id name n) ≡ h ∷ hs
  by_test true g rest = let is : n ≡ h.network = grind (arith, g) in ap {A = NetworkValue} (λ m. record h { network = m } ∷ hs) is
  by_test false g rest = ap (λ xs. h ∷ xs) (rest g)

module _ (t : Tables) (is : AreConsistent t) (w : NetworkRow) (there : Has t.networks w) where
  held : NetworkEntry
  held = network_entry_of t w

  pub found : network_at (register_of t).networks w.tenant w.name ≡ Some (network_entry_of t w).network
  found = network_found (register_of t).networks w.tenant w.name
      ∙ ap (option_map (λ h. h.network)) (has_find (λ h. nat_eq h.tenant w.tenant && is_same w.name h.name) slot same_slot (slot_tells w.tenant w.name) (register_of t).networks (network_entry_of t w) is.consistent.slots
      (has_map (network_entry_of t) t.networks w there) (ap₂ (λ x y. x && y) (eqb_self w.tenant) (is_same_refl w.name)))

  -- what the command gives is what the ask gives
  pub asked_at : (digest : Bytes) (now : ℕ) (command : Command) (done : Reply × NetworkValue) → tenant_of_token t.tokens digest ≡ Some w.tenant → allows (right_of t.readers digest) command ≡ true → act (network_entry_of t w).network now command ≡ Ok done
      → outcome (register_of t) (Ask digest w.name now command) 0 ≡ (Replied done.0 done.1, put_network (register_of t) w.tenant w.name done.1)
  asked_at digest now command done token may e =
      ap (λ x. ask (register_of t) digest w.name now command x) token
      ∙ ap (λ b. if b then asked now command (register_of t) w.tenant w.name (network_at (register_of t).networks w.tenant w.name) else (ReadOnly, register_of t)) may
      ∙ ap (λ n. asked now command (register_of t) w.tenant w.name n) found
      ∙ ap (λ x. acted (register_of t) w.tenant w.name x) e

  pub replaced_at : (u : Tables) (digest : Bytes) (now : ℕ) (command : Command) (done : Reply × NetworkValue) → tenant_of_token t.tokens digest ≡ Some w.tenant → allows (right_of t.readers digest) command ≡ true → act (network_entry_of t w).network now command ≡ Ok done
      → AreRowsOf (put_network (register_of t) w.tenant w.name done.1) u → IsRowStep t (Ask digest w.name now command) (Replied done.0 done.1) u
  replaced_at u digest now command done token may e rows = record {
    after = put_network (register_of t) w.tenant w.name done.1;
    step = record {
      new = 0;
      unused = λ _. tt;
      answered = ap (λ o. o.0) (sym (asked_at digest now command done token may e));
      rows = subst (λ r. IsSame r (put_network (register_of t) w.tenant w.name done.1)) (ap (λ o. o.1) (sym (asked_at digest now command done token may e))) (same_itself (put_network (register_of t) w.tenant w.name done.1));
    };
    rows = rows;
  }

pub networks_are_found : NetworksAreFound
networks_are_found t w is there = found t is w there

pub refusals_leave_rows : RefusalsLeaveRows
refusals_leave_rows t e new is stays refused = record {
  after = register_of t;
  step = record { new = new; unused = λ done. absurd (true≢false (sym done ∙ refused)); answered = refl; rows = subst (λ r. IsSame r (register_of t)) (sym stays) (same_itself (register_of t)) };
  rows = is.rows;
}

pub readers_leave_rows : ReadersLeaveRows
readers_leave_rows t id digest name now command is known may_not =
    record { after = register_of t; step = reader_asks (register_of t) digest name now command id known may_not; rows = is.rows }

pub readings_leave_rows : ReadingsLeaveRows
readings_leave_rows t w digest now command reply is there token may e =
    replaced_at t is w there t digest now command (reply, (network_entry_of t w).network) token may e
    (subst (λ hs. AreRowsOf (record (register_of t) { networks = hs }) t) (sym (put_itself (register_of t).networks w.tenant w.name (network_entry_of t w).network (found t is w there))) is.rows)

pub changes_replace_rows : ChangesReplaceRows
changes_replace_rows t u w digest now command done is there token may e replaces =
    let n = (network_entry_of t w).network in
    let h = has_map (network_entry_of t) t.networks w there in
    let rules = (at_has IsNetworkEntry (register_of t).networks (network_entry_of t w) is.consistent.networks h).rules in
    replaced_at t is w there u digest now command done token may e
    (committed (register_of t) t u (network_entry_of t w) done.1 is.rows is.consistent h (act_settings n now command done rules e) replaces)
