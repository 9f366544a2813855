-- A schema that has the register's tables, and the lists of which it is made.
use Rattle.std.proofs.Common.{◌≡◌, ◌↔◌, true, ◌++◌, take, drop, sym, ap, subst, ◌∙◌}
use Rattle.std.specs.List.{list_all}
use Rattle.std.proofs.lemmas.List.{take-append-drop}
use Rattle.sqlite.specs.Schema.{Schema}
use Rattle.wgr_columns.specs.Layout.{register_tables, register_indexes, is_apart, is_past, refers_to_no_later}
use Rattle.wgr_columns.specs.LaidOut.{BeginsWithRegister, IsLaidOut}

pub laid_out_is : (s : Schema) → BeginsWithRegister s ↔ IsLaidOut s
laid_out_is s = (there, back)
  where
    there : BeginsWithRegister s → IsLaidOut s
    there h =
        let tables : s.tables ≡ register_tables ++ drop 6 s.tables = sym (take-append-drop 6 s.tables) ∙ ap (λ l. l ++ drop 6 s.tables) h.tables in
        let indexes : s.indexes ≡ register_indexes ++ drop 7 s.indexes = sym (take-append-drop 7 s.indexes) ∙ ap (λ l. l ++ drop 7 s.indexes) h.indexes in
        record {
          others = record { tables = drop 6 s.tables; indexes = drop 7 s.indexes; views = s.views };
          schema_is = λ k. record { tables = tables k; indexes = indexes k; views = s.views };
          apart = record { tables = h.apart; unreferred = h.unreferred; indexes = h.past };
        }

    back : IsLaidOut s → BeginsWithRegister s
    back h = record {
      tables = ap (λ (x : Schema). take 6 x.tables) h.schema_is;
      indexes = ap (λ (x : Schema). take 7 x.indexes) h.schema_is;
      apart = subst (λ (x : Schema). list_all (is_apart register_tables) (drop 6 x.tables) ≡ true) (sym h.schema_is) h.apart.tables;
      unreferred = subst (λ (x : Schema). list_all refers_to_no_later (drop 6 x.tables) ≡ true) (sym h.schema_is) h.apart.unreferred;
      past = subst (λ (x : Schema). list_all is_past (drop 7 x.indexes) ≡ true) (sym h.schema_is) h.apart.indexes;
    }
