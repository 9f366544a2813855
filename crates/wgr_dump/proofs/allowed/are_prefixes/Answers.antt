use Rattle.std.proofs.Common.{◌≡◌, true, false, [], ◌∷◌, Option, Some, None, IfSome, IfNone, sym, subst}
use Rattle.std.specs.Option.{is_some}
use Rattle.std.proofs.lemmas.Bool.{false≢true}
use Rattle.wgr_text.specs.Prefix.{PrefixValue}
use Rattle.wgr_dump.specs.Fields.{OneByOne, SpellsMasked}
use Rattle.wgr_dump.proofs.MeantLemmas.{each_first, each_rest, each_more}
use Rattle.wgr_dump.proofs.allowed.are_prefixes.Goals as goal

none_read : (r : Option PrefixValue) (P : Type 0) → is_some r ≡ false → IfNone r P → P
none_read None P is none = none
none_read (Some p) P is none = absurd (false≢true (sym is))

some_read : (r : Option PrefixValue) (Q : PrefixValue → Type 0) → is_some r ≡ true → IfSome r Q → (p : PrefixValue) × Q p
some_read None Q is some = absurd (false≢true is)
some_read (Some p) Q is some = (p, some)

pub returns-then-is_none : goal.returns-then-is_none
returns-then-is_none c ps each =
    let read = c.loop-item.invariant.left_to_read ps each in
    let here = each_first SpellsMasked c.in-Some.item.now _ _ c.in-Some.ensures read.0 read.1 in
    none_read c.read_masked.result ((p : PrefixValue) → ¬ (SpellsMasked c.in-Some.item.now p)) c.if-is_none.ensures c.read_masked.ensures.none here.0 here.1

pub loop-item-preserved : goal.loop-item-preserved
loop-item-preserved c = record {
  read = λ ps each. (
      let here = some_read c.read_masked.result (SpellsMasked c.in-Some.item.now) c.if-is_none.ensures c.read_masked.ensures.spelled in
      c.loop-item.invariant.read (here.0 ∷ ps) (each_more SpellsMasked c.in-Some.item.now _ _ c.in-Some.ensures here.0 here.1 ps each));
  left_to_read = λ qs each. (let old = c.loop-item.invariant.left_to_read qs each in each_rest SpellsMasked c.in-Some.item.now _ _ c.in-Some.ensures old.0 old.1);
}

pub returns : goal.returns
returns c = c.loop-item.invariant.read [] (subst (λ items. OneByOne SpellsMasked items []) (sym c.in_default.ensures.0) tt)
