use Rattle.std.proofs.Common.{◌≡◌, ◌∙◌, true, List, [], ◌∷◌, Option, None, is_some, map, inl, inr, option_and_then, option_map, refl, sym, ap, ap₂, subst}
use Rattle.clap.specs.Words.{App, HasKind, Kinds, Text, fault_of, is_simple, is_simple_and_free, subcommand_of, kind_of}
use Rattle.clap.specs.Kinds.{or_else}
use Rattle.clap.specs.declared.error.Error.{Error}
use Rattle.clap.specs.declared.error.kind.ErrorKind.TheVariants.{OutOfMemory}
use Rattle.clap.proofs.OnLiterals.{clap_on_literals}
use Rattle.clap.proofs.TakesLemmas.{passed_up}
use Rattle.wgr_command_line.specs.Words.{Asked, asked_in, asked_of, if_missing, named_by, unless_wrong, wgr_app}
use Rattle.wgr_command_line.proofs.invocation.read_words.Goals as goal

simple : is_simple wgr_app ≡ true
unfolding clap_on_literals
simple = refl

simple_and_free : is_simple_and_free wgr_app ≡ true
unfolding clap_on_literals
simple_and_free = refl

-- what a parse says of the kinds of its error
has_fault : (app : App) (words : List Text) (error : Error) → app ≡ wgr_app → (is_simple_and_free app ≡ true → HasKind (fault_of app words) error) → HasKind (fault_of wgr_app words) error
has_fault app words error is kinds = subst (λ (a : App). HasKind (fault_of a words) error) is (kinds (ap is_simple_and_free is ∙ simple_and_free))

-- where something is asked for, memory alone can be wanting
memory_alone : (kinds : Kinds) (asked : Option Asked) (error : Error) → HasKind kinds error → is_some (unless_wrong kinds asked) ≡ true → kind_of error ≡ OutOfMemory
memory_alone [] asked error (inl memory) some = memory
memory_alone [] asked error (inr none) some = absurd none
memory_alone (kind ∷ kinds) asked error has some = cc some

first_kinds : (kinds next : Kinds) (error : Error) → HasKind kinds error → HasKind (or_else kinds next) error
first_kinds [] next error (inl memory) = inl memory
first_kinds [] next error (inr none) = absurd none
first_kinds (kind ∷ kinds) next error has = has

none_asked : {A : Type 0} (asked : Option Asked) → asked ≡ None → is_some asked ≡ true → A
none_asked asked is some = cc (is, some)

pub returns-in_err-matches-clause-err : goal.returns-in_err-matches-clause-err
returns-in_err-matches-clause-err g c =
    let words = map g.S.AsStr.text c.args.words.now in
    let error = c.in_err-matches.field-0.0 in
    let fault = has_fault _ words error c.in_ok-command.ensures.app c.in_err-matches.ensures.kinds in
    passed_up _ _ _ c.from_residual-in_err-matches.ensures.1 (memory_alone (fault_of wgr_app words) (named_by words) error fault)

pub returns-in_err-matches-clause-kinds : goal.returns-in_err-matches-clause-kinds
returns-in_err-matches-clause-kinds g c =
    let words = map g.S.AsStr.text c.args.words.now in
    let error = c.in_err-matches.field-0.0 in
    let fault = has_fault _ words error c.in_ok-command.ensures.app c.in_err-matches.ensures.kinds in
    passed_up _ _ _ c.from_residual-in_err-matches.ensures.1 (first_kinds (fault_of wgr_app words) _ error fault)

pub returns-in-Some-clause-ok : goal.returns-in-Some-clause-ok
returns-in-Some-clause-ok g c =
    let words = map g.S.AsStr.text c.args.words.now in
    let app = c.in_ok-command.ensures.app in
    let fault : fault_of wgr_app words ≡ [] = sym (ap (λ (a : App). fault_of a words) app) ∙ c.in_ok-matches.ensures.kinds (ap is_simple_and_free app ∙ simple_and_free) in
    let rows = (c.in_ok-matches.ensures.ok.2 (ap is_simple app ∙ simple)).1 in
    let named = ap (option_and_then asked_in) (rows ∙ ap (λ (a : App). subcommand_of a words) app) in
    let asked = sym (ap (option_map asked_of) c.in-Some.is) ∙ c.in_ok-asked.ensures in
    ap₂ unless_wrong fault (sym named) ∙ sym asked

pub returns-clause-err : goal.returns-clause-err
returns-clause-err g c =
    let words = map g.S.AsStr.text c.args.words.now in
    let app = c.in_ok-command.ensures.app in
    let fault : fault_of wgr_app words ≡ [] = sym (ap (λ (a : App). fault_of a words) app) ∙ c.in_ok-matches.ensures.kinds (ap is_simple_and_free app ∙ simple_and_free) in
    let rows = (c.in_ok-matches.ensures.ok.2 (ap is_simple app ∙ simple)).1 in
    let named = sym (ap (option_map asked_of) c.in-None.is) ∙ c.in_ok-asked.ensures ∙ ap (option_and_then asked_in) (rows ∙ ap (λ (a : App). subcommand_of a words) app) in
    none_asked _ (ap₂ unless_wrong fault (sym named))

pub returns-clause-kinds : goal.returns-clause-kinds
returns-clause-kinds g c =
    let words = map g.S.AsStr.text c.args.words.now in
    let app = c.in_ok-command.ensures.app in
    let fault : fault_of wgr_app words ≡ [] = sym (ap (λ (a : App). fault_of a words) app) ∙ c.in_ok-matches.ensures.kinds (ap is_simple_and_free app ∙ simple_and_free) in
    let rows = (c.in_ok-matches.ensures.ok.2 (ap is_simple app ∙ simple)).1 in
    let named = sym (ap (option_map asked_of) c.in-None.is) ∙ c.in_ok-asked.ensures ∙ ap (option_and_then asked_in) (rows ∙ ap (λ (a : App). subcommand_of a words) app) in
    let kinds : Kinds → Option Asked → Kinds = λ kinds asked. or_else kinds (if_missing asked) in
    subst (λ (kinds : Kinds). HasKind kinds c.in_ok-error-in-None.field-0) (sym (ap₂ kinds fault (sym named))) (inr (inl c.in_ok-error-in-None.ensures.kind))
