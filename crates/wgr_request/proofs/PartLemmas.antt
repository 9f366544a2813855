-- The parts of an ASCII path are text, and so are the names of the routes.
use Rattle.std.proofs.Common.{◌≡◌, ℕ, zero, suc, ◌-◌, List, [], ◌∷◌, Bool, true, false, cond, refl, inl, inr, ◌⊎◌, arith, length, take, drop, subst}
use Rattle.std.specs.Prelude.{Option, Some, None, nat_lt, ltb, leb, ◌&&◌, ◌==◌}
use Rattle.std.specs.List.{list_all}
use Rattle.std.specs.Str.{IsAscii, IsUtf8}
use Rattle.std.proofs.lemmas.Str.{IsAscii-take, IsAscii-drop, IsUtf8-from_ascii, IsUtf8-nil}
use Rattle.std.proofs.lemmas.Str.Ascii.{IsAscii-nil, IsAscii-cons}
use Rattle.matchit.specs.Rows.{RowsOf, param_token, catch_all_token}
use Rattle.matchit.proofs.OnLiterals.{matchit_on_literals}
use Rattle.std.proofs.lemmas.Bool.Decides.{nat_tests}
use Rattle.matchit.specs.Params.{walk, part_of, wild_from, wild_stop, after_token, AllText}
use Rattle.matchit.specs.Router.{RouteOf}
use Rattle.matchit.specs.Seek.{own, step, or_else, with_suffix, param_step, seek, first, longest_suffix, segment, has_slash, same_text}
use Rattle.wgr_request.specs.Paths.{route_rows}
use Rattle.wgr_request.specs.Target.{ArePartsTexts, all_ascii}
use Rattle.wgr_request.specs.declared.paths.Place.{Place}

part_text : (bytes : List ℕ) (start end : ℕ) (b : Bool) → IsAscii bytes → IsUtf8 (cond b (take (end - start) (drop start bytes)) [])
part_text bytes start end true h = IsUtf8-from_ascii _ (IsAscii-take _ _ (IsAscii-drop _ _ h))
part_text bytes start end false h = IsUtf8-nil

part_is_text : (bytes : List ℕ) (start end : ℕ) → IsAscii bytes → IsUtf8 (part_of bytes start end)
part_is_text bytes start end h = part_text bytes start end (leb start end && leb end (length bytes)) h

walk_texts : (pattern text path : List ℕ) (names : List (ℕ × ℕ)) (token at : ℕ) → IsAscii text → IsAscii path → AllText (walk pattern text path names token at)
walk_texts pattern text path [] token at t p = tt
walk_texts pattern text path (name ∷ rest) token at t p =
    let from : ℕ × ℕ = wild_from (drop token pattern) (length path) token at in (
      part_is_text text name.0 name.1 t,
      part_is_text path from.1 (wild_stop pattern from.0 path from.1) p,
      walk_texts pattern text path rest (after_token from.0) (wild_stop pattern from.0 path from.1) t p,
    )

module _ {K : Type 0} (P : K → Type 0) where
  abbrev pub AllKeys : RowsOf K → Type 0
  AllKeys [] = Unit {0}
  AllKeys ((t, key) ∷ rest) = P key × AllKeys rest

  cond_keys : (b : Bool) (xs ys : RowsOf K) → AllKeys xs → AllKeys ys → AllKeys (cond b xs ys)
  cond_keys true xs ys x y = x
  cond_keys false xs ys x y = y

  cond_pairs : (b : Bool) (p q : ℕ × RowsOf K) → AllKeys p.1 → AllKeys q.1 → AllKeys (cond b p q).1
  cond_pairs true p q x y = x
  cond_pairs false p q x y = y

  own_key : (rs : RowsOf K) (k : K) → AllKeys rs → own rs ≡ Some k → P k
  own_key [] k all is = cc is
  own_key (([], key) ∷ rest) k all is = let e : key ≡ k = cc is in subst P e all.0
  own_key ((x ∷ t, key) ∷ rest) k all is = own_key rest k all.1 is

  step_keys : (b : ℕ) (rs : RowsOf K) → AllKeys rs → AllKeys (step b rs)
  step_keys b [] all = tt
  step_keys b (([], key) ∷ rest) all = step_keys b rest all.1
  step_keys b ((x ∷ t, key) ∷ rest) all = cond_keys (x == b) ((t, key) ∷ step b rest) (step b rest) (all.0, step_keys b rest all.1) (step_keys b rest all.1)

  suffix_keys : (suffix : List ℕ) (rs : RowsOf K) → AllKeys rs → AllKeys (with_suffix suffix rs)
  suffix_keys suffix [] all = tt
  suffix_keys suffix ((t, key) ∷ rest) all = cond_keys (same_text (segment t) suffix) ((t, key) ∷ with_suffix suffix rest) (with_suffix suffix rest) (all.0, suffix_keys suffix rest all.1) (suffix_keys suffix rest all.1)

  param_keys : (rs : RowsOf K) (path : List ℕ) → AllKeys rs → AllKeys (param_step rs path).1
  unfolding param_step
  param_keys rs path all =
      let suffix : List ℕ = longest_suffix (segment path) rs in
      cond_pairs (ltb 0 (length suffix)) (length (segment path) - length suffix, with_suffix suffix rs) (cond (has_slash path) (0, []) (length path, rs))
      (suffix_keys suffix rs all) (cond_pairs (has_slash path) (0, []) (length path, rs) tt all)

  or_else_some : (x y : Option K) (k : K) → or_else x y ≡ Some k → (x ≡ Some k) ⊎ (y ≡ Some k)
  or_else_some None y k is = inr is
  or_else_some (Some a) y k is = inl is

  seek_key : (skip : ℕ) (rs : RowsOf K) (path : List ℕ) (k : K) → AllKeys rs → seek skip rs path ≡ Some k → P k
  unfolding seek
  seek_key zero rs [] k all is = own_key rs k all is
  seek_key (suc skip) rs [] k all is = own_key rs k all is
  seek_key (suc skip) rs (b ∷ path) k all is = seek_key skip rs path k all is
  seek_key zero rs (b ∷ path) k all is =
      let after : ℕ × RowsOf K = param_step (step param_token rs) (b ∷ path) in
      let by_param : Option K = seek (after.0 - 1) after.1 path in
      let by_rest : Option K = own (step catch_all_token rs) in
      elim (or_else_some _ (or_else by_param by_rest) k is) [
        | inl a ↦ seek_key 0 (step b rs) path k (step_keys b rs all) a
        | inr c ↦ elim (or_else_some by_param by_rest k c) [
          | inl d ↦ seek_key (after.0 - 1) after.1 path k (param_keys (step param_token rs) (b ∷ path) (step_keys param_token rs all)) d
          | inr e ↦ own_key (step catch_all_token rs) k (step_keys catch_all_token rs all) e
        ]
      ]

-- a route's text is ASCII, as a test
abbrev has_ascii_text : RouteOf Place → Type 0
has_ascii_text r = list_all (λ b. nat_lt b 128) r.text ≡ true

ascii_rows : AllKeys has_ascii_text route_rows
unfolding matchit_on_literals route_rows
ascii_rows = (refl, (refl, (refl, (refl, (refl, (refl, (refl, (refl, (refl, (refl, (refl, tt)))))))))))

both : (a b : Bool) → (a && b) ≡ true → (a ≡ true) × (b ≡ true)
both true b h = (refl, h)
both false b h = cc h

pub ascii_from_test : (bs : List ℕ) → list_all (λ b. nat_lt b 128) bs ≡ true → IsAscii bs
ascii_from_test [] h = IsAscii-nil
ascii_from_test (b ∷ bs) h =
    let p = both (nat_lt b 128) (list_all (λ x. nat_lt x 128) bs) h in
    IsAscii-cons b bs (grind (arith, nat_tests)) (ascii_from_test bs p.1)

-- the parts of an ASCII path that one of the routes takes
pub route_texts : (path : List ℕ) (r : RouteOf Place) → all_ascii path ≡ true → first route_rows path ≡ Some r → ArePartsTexts r.pattern r.text path r.names
route_texts path r ascii is =
    walk_texts r.pattern r.text path r.names 0 0 (ascii_from_test r.text (seek_key has_ascii_text 0 route_rows path r ascii_rows is)) (ascii_from_test path ascii)

-- what is taken as ASCII is ASCII
pub ascii_taken : (b : Bool) (bytes text : List ℕ) → all_ascii bytes ≡ b → Some text ≡ cond b (Some bytes) None → all_ascii text ≡ true
ascii_taken true bytes text is e = let same : text ≡ bytes = cc e in rw same is
ascii_taken false bytes text is e = cc e
