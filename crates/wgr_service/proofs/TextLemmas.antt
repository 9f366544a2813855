-- Lines of a text that were carried out, and one more.
use Rattle.std.proofs.Common.{◌≡◌, ◌==◌, ◌<◌, ◌≤◌, ◌+◌, ℕ, suc, zero, Bool, true, false, cond, not, List, [], ◌∷◌, ◌++◌, Option, Some, None, Result, append-nil, append_assoc, length, get_or, map, max, take, drop, ap, refl, subst, sym, ◌∙◌, arith}
use Rattle.std.specs.Prelude.{flat_map}
use Rattle.std.specs.Io.KnownBytes.{Appends}
use Rattle.std.specs.List.{position_or_len}
use Rattle.std.proofs.lemmas.Bool.Decides.{nat_tests}
use Rattle.std.proofs.lemmas.List.{flat_map_more, map-append}
use Rattle.sqlite.specs.State.{HasCleanDisk}
use Rattle.sqlite.specs.Store.{Ghosts}
use Rattle.sqlite.specs.Held.{Held, state}
use Rattle.wgr_model.specs.Register.{Bytes}
use Rattle.wgr_model.specs.RowLaws.{RowsAreIsolated}
use Rattle.wgr_office.specs.Between.{AreCalls, IsCall}
use Rattle.wgr_office.proofs.BetweenLemmas.{calls_more, passed}
use Rattle.wgr_orders.specs.declared.order.Order.{Order}
use Rattle.wgr_register.specs.declared.fault.Done.{Done}
use Rattle.wgr_register.specs.declared.fault.OrderFault.{OrderFault}
use Rattle.wgr_words.specs.declared.line.LineFault.{LineFault}
use Rattle.wgr_io.specs.Device.{IsCut}
use Rattle.wgr_service.specs.Connections.{Asked, Exchange, Ordered, given_answer, asked_event}
use Rattle.wgr_service.specs.Lines.{end_status, end_text}
use Rattle.wgr_service.specs.Texts.{AreOrders, EndsInput, HasCarriedOut, IsCutAtLast, IsNoOrder, SpellsLine, greatest, lines_in}
use Rattle.wgr_service.specs.declared.lines.LineEnd.{LineEnd}
use Rattle.wgr_service.specs.declared.lines.LineEnd.TheVariants as line_end
use Rattle.wgr_service.proofs.ConnectionLemmas.{appends_more}

-- ---- the first line of a text

-- the first newline ends it
pub line_ended : (text : List ℕ) (end : ℕ) → end < length text → (get_or text end 0 == 10) ≡ true → ((k : ℕ) → k < end → (get_or text k 0 == 10) ≡ false)
    → lines_in text ≡ Some (take end text) ∷ lines_in (drop (suc end) text)
line_ended [] end within here before = absurd (omega arith)
line_ended (b ∷ text) zero within here before = rw here refl
line_ended (b ∷ text) (suc end) within here before =
    let differs : (b == 10) ≡ false = before 0 (omega arith) in
    let later : lines_in text ≡ Some (take end text) ∷ lines_in (drop (suc end) text) = line_ended text end (omega arith) here (λ (k : ℕ) (below : k < end). before (suc k) (omega arith)) in
    rw (differs, later) refl

-- how many bytes stand before the first newline
abbrev before_newline : List ℕ → ℕ
before_newline text = position_or_len (λ (byte : ℕ). byte == 10) text

-- without one it is unfinished
pub line_unfinished : (text : List ℕ) → 0 < length text → length text ≤ before_newline text → lines_in text ≡ None ∷ []
line_unfinished [] some none = absurd (omega arith)
line_unfinished (b ∷ []) some none = by_test (b == 10) refl none
  where
    by_test : (v : Bool) → (b == 10) ≡ v → 1 ≤ cond (not v) 1 0 → lines_in (b ∷ []) ≡ None ∷ []
    by_test true is h = absurd (omega (arith, h))
    by_test false is h = rw is refl
line_unfinished (b ∷ x ∷ text) some none = by_test (b == 10) refl none (line_unfinished (x ∷ text) (omega arith))
  where
    by_test : (v : Bool) → (b == 10) ≡ v → suc (length (x ∷ text)) ≤ cond (not v) (1 + before_newline (x ∷ text)) 0 → (length (x ∷ text) ≤ before_newline (x ∷ text) → lines_in (x ∷ text) ≡ None ∷ [])
        → lines_in (b ∷ x ∷ text) ≡ None ∷ []
    by_test true is h later = absurd (omega (arith, h))
    by_test false is h later = rw (is, later (omega (arith, h))) refl

-- ---- what is written

module _ (old mid new : Option Bytes) (ends : List LineEnd) (end : LineEnd) (first : Appends old mid (flat_map end_text ends)) where
  pub end_written : Appends mid new (end_text end) → Appends old new (flat_map end_text (ends ++ end ∷ []))
  end_written next = subst (Appends old new) (flat_map_more end_text [] ends end) (appends_more old mid new (flat_map end_text ends) (end_text end) first next)

  end_cut : IsCut mid new (end_text end) → IsCut old new (flat_map end_text (ends ++ end ∷ []))
  end_cut (beginning, rest, is, wrote) =
      let front = flat_map end_text ends in
      let parts : flat_map end_text (ends ++ end ∷ []) ≡ (front ++ beginning) ++ rest =
      sym (flat_map_more end_text [] ends end) ∙ ap (λ (z : Bytes). front ++ z) is ∙ sym (append_assoc front beginning rest) in
      (front ++ beginning, rest, parts, appends_more old mid new front beginning first wrote)

-- so a first part of all is written
pub cut_at_last : (before after : Option Bytes) (ends : List LineEnd) → IsCutAtLast before after ends → IsCut before after (flat_map end_text ends)
cut_at_last before after ends (earlier, last, mid, is, first, cut) = subst (λ (es : List LineEnd). IsCut before after (flat_map end_text es)) (sym is) (end_cut before mid after earlier last first cut)

pub greatest_more : (ends : List LineEnd) (end : LineEnd) → greatest (ends ++ end ∷ []) ≡ max (greatest ends) (end_status end)
greatest_more [] end = omega arith
greatest_more (e ∷ ends) end = omega (arith, greatest_more ends end)

-- ---- which orders the lines spell

orders_more : (lines : List (Option Bytes)) (ends : List LineEnd) (xs : List Exchange) (line : Option Bytes) (order : Order) (ended : Result Done OrderFault)
    → AreOrders lines ends xs → SpellsLine line order → AreOrders (lines ++ line ∷ []) (ends ++ line_end.Ended ended ∷ []) (xs ++ Ordered order ended ∷ [])
orders_more [] [] [] line order ended so_far spells = (spells, refl, tt)
orders_more [] [] (x ∷ xs) line order ended so_far spells = absurd so_far
orders_more [] (e ∷ ends) xs line order ended so_far spells = absurd so_far
orders_more (l ∷ lines) [] xs line order ended so_far spells = absurd so_far
orders_more (l ∷ lines) (line_end.Ended r ∷ ends) [] line order ended so_far spells = absurd so_far
orders_more (l ∷ lines) (line_end.Ended r ∷ ends) (Asked now message answer ∷ xs) line order ended so_far spells = absurd so_far
orders_more (l ∷ lines) (line_end.Ended r ∷ ends) (Ordered o q ∷ xs) line order ended so_far spells = (so_far.0, so_far.1, orders_more lines ends xs line order ended so_far.2 spells)
orders_more (l ∷ lines) (line_end.Unspelled why ∷ ends) xs line order ended so_far spells = (so_far.0, orders_more lines ends xs line order ended so_far.1 spells)

none_more : (lines : List (Option Bytes)) (ends : List LineEnd) (xs : List Exchange) (line : Option Bytes) (why : LineFault)
    → AreOrders lines ends xs → IsNoOrder line why → AreOrders (lines ++ line ∷ []) (ends ++ line_end.Unspelled why ∷ []) xs
none_more [] [] [] line why so_far is = (is, tt)
none_more [] [] (x ∷ xs) line why so_far is = absurd so_far
none_more [] (e ∷ ends) xs line why so_far is = absurd so_far
none_more (l ∷ lines) [] xs line why so_far is = absurd so_far
none_more (l ∷ lines) (line_end.Ended r ∷ ends) [] line why so_far is = absurd so_far
none_more (l ∷ lines) (line_end.Ended r ∷ ends) (Asked now message answer ∷ xs) line why so_far is = absurd so_far
none_more (l ∷ lines) (line_end.Ended r ∷ ends) (Ordered o q ∷ xs) line why so_far is = (so_far.0, so_far.1, none_more lines ends xs line why so_far.2 is)
none_more (l ∷ lines) (line_end.Unspelled w ∷ ends) xs line why so_far is = (so_far.0, none_more lines ends xs line why so_far.1 is)

-- ---- all of them

-- the lines so far had these ends
pub record HaveEnded {S : Type 0} (g : Ghosts S) (old new : Held S) (lines : List (Option Bytes)) (ends : List LineEnd) : Type 0 where
  pub xs : List Exchange
  pub orders : AreOrders lines ends xs
  pub calls : AreCalls g old new (map asked_event xs) (map given_answer xs)

module _ {S : Type 0} (g : Ghosts S) where
  pub end_clean : (old new : Held S) (line : Option Bytes) (end : LineEnd) → EndsInput g old new line end → HasCleanDisk (state g new) → HasCleanDisk (state g old)
  end_clean old new (Some line) (line_end.Ended ended) ends clean = ends.2.call.clean clean
  end_clean old new (Some line) (line_end.Unspelled why) ends clean = subst (λ (conn : Held S). HasCleanDisk (state g conn)) ends.0 clean
  end_clean old new None end ends clean = subst (λ (conn : Held S). HasCleanDisk (state g conn)) ends.0 clean

  pub none_ended : (old : Held S) → HaveEnded g old old [] []
  none_ended old = record { xs = []; orders = tt; calls = refl }

  module _ (old mid new : Held S) (lines : List (Option Bytes)) (ends : List LineEnd) (so_far : HaveEnded g old mid lines ends) where
    with_order : (line : Option Bytes) (order : Order) (ended : Result Done OrderFault) → SpellsLine line order → IsCall g mid new (asked_event (Ordered order ended)) (given_answer (Ordered order ended))
        → HaveEnded g old new (lines ++ line ∷ []) (ends ++ line_end.Ended ended ∷ [])
    with_order line order ended spells one =
        let xs = so_far.xs in
        let x = Ordered order ended in
        record {
          xs = xs ++ x ∷ [];
          orders = orders_more lines ends xs line order ended so_far.orders spells;
          calls =
              subst (λ es. AreCalls g old new es (map given_answer (xs ++ x ∷ []))) (sym (map-append asked_event xs (x ∷ [])))
              (subst (AreCalls g old new (map asked_event xs ++ asked_event x ∷ [])) (sym (map-append given_answer xs (x ∷ [])))
              (calls_more g old mid new (map asked_event xs) (map given_answer xs) (asked_event x) (given_answer x) so_far.calls one));
        }

    with_none : (line : Option Bytes) (why : LineFault) → IsNoOrder line why → new ≡ mid → HaveEnded g old new (lines ++ line ∷ []) (ends ++ line_end.Unspelled why ∷ [])
    with_none line why is same =
        let xs = so_far.xs in
        record {
          xs = xs;
          orders = none_more lines ends xs line why so_far.orders is;
          calls = subst (λ (conn : Held S). AreCalls g old conn (map asked_event xs) (map given_answer xs)) (sym same) so_far.calls;
        }

    pub ended_more : (line : Option Bytes) (end : LineEnd) → EndsInput g mid new line end → HaveEnded g old new (lines ++ line ∷ []) (ends ++ end ∷ [])
    ended_more (Some line) (line_end.Ended ended) one = with_order (Some line) one.0 ended one.1 one.2.call
    ended_more (Some line) (line_end.Unspelled why) one = with_none (Some line) why one.1 one.0
    ended_more None end one = subst (λ (e : LineEnd). HaveEnded g old new (lines ++ None ∷ []) (ends ++ e ∷ [])) (sym one.1) (with_none None _ refl one.0)

  pub carried_out : (old new : Held S) (lines : List (Option Bytes)) (ends : List LineEnd) → RowsAreIsolated → HaveEnded g old new lines ends → HasCarriedOut g old new lines ends
  carried_out old new lines ends law so_far = record {
    xs = so_far.xs;
    orders = so_far.orders;
    run = λ db late at clean. passed g old new db late (map asked_event so_far.xs) (map given_answer so_far.xs) law so_far.calls at clean;
  }

-- ---- the lines that are left

not_empty : (n : ℕ) → (n == 0) ≡ true → 0 < n → ⊥
not_empty n none some = grind (arith, nat_tests)

pub some_bytes : (text : Bytes) → false ≡ (length text == 0) → 0 < length text
some_bytes [] some = cc some
some_bytes (b ∷ text) some = omega arith

-- the next line
pub taken_more : (text rest after : Bytes) (taken : List (Option Bytes)) (line : Option Bytes) → lines_in text ≡ taken ++ lines_in rest → lines_in rest ≡ line ∷ lines_in after
    → lines_in text ≡ (taken ++ line ∷ []) ++ lines_in after
taken_more text rest after taken line so_far next = so_far ∙ ap (λ (z : List (Option Bytes)). taken ++ z) next ∙ sym (append_assoc taken (line ∷ []) (lines_in after))

-- or none
pub all_taken : (text rest : Bytes) (taken : List (Option Bytes)) → lines_in text ≡ taken ++ lines_in rest → true ≡ (length rest == 0) → lines_in text ≡ taken
all_taken text [] taken so_far none = so_far ∙ append-nil taken
all_taken text (b ∷ rest) taken so_far none = absurd (not_empty (length (b ∷ rest)) (sym none) (omega arith))
