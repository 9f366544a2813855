-- A text has one plan.
use Rattle.std.proofs.Common.{◌≡◌, ℕ, ◌+◌, List, [], ◌∷◌, refl, sym, ap, ◌∙◌, subst}
use Rattle.std.specs.Prelude.{Result, Ok, Err}
use Rattle.wgr_text.specs.declared.key.Key.{Key}
use Rattle.wgr_text.specs.KeyText.{SpellsKey}
use Rattle.wgr_text.specs.Prefix.{PrefixValue}
use Rattle.wgr_text.proofs.KeyLemmas.{one_key}
use Rattle.wgr_core.specs.declared.refusal.CommandRefusal.{CommandRefusal}
use Rattle.wgr_core.specs.declared.reply.Reply.{Reply}
use Rattle.wgr_core.specs.declared.reply.Reply.TheVariants as reply
use Rattle.wgr_core.specs.declared.reply.PeerView.{PeerView}
use Rattle.wgr_core.specs.Network.{NetworkValue}
use Rattle.wgr_core.specs.Outcome.{outcome_of}
use Rattle.wgr_text.specs.Lines.{lines_of}
use Rattle.wgr_plan.specs.declared.row_fault.RowFault.TheVariants as fault
use Rattle.wgr_plan.specs.Plan.{Plan, Plans, ends, no_key, refused, joined, no_more, refused_at, printed_first, joining, row_text, plan_network, IsPlanOf}

-- the ways in which a plan begins
data Begins : NetworkValue → ℕ → List ℕ → List (List ℕ) → Plan → Type 0 where
  without_key : (n : NetworkValue) (line : ℕ) (text : List ℕ) (more : List (List ℕ)) (p : Plan)
      → ((key : Key) → ¬ (SpellsKey text key))
      → p ≡ refused_at line fault.NoKey → Begins n line text more p
  with_refusal : (n : NetworkValue) (line : ℕ) (text : List ℕ) (more : List (List ℕ)) (p : Plan) (key : Key) (why : CommandRefusal)
      → SpellsKey text key → outcome_of n 0 (joining key) ≡ Err why
      → p ≡ refused_at line (fault.Refused why) → Begins n line text more p
  with_peer : (n : NetworkValue) (line : ℕ) (text : List ℕ) (more : List (List ℕ)) (p : Plan) (key : Key) (view : PeerView) (m : NetworkValue) (rest : Plan)
      → SpellsKey text key → outcome_of n 0 (joining key) ≡ Ok (reply.Peer view, m)
      → Plans m (line + 1) more rest → p ≡ printed_first (row_text view.peer) rest → Begins n line text more p

abbrev Is : NetworkValue → ℕ → List (List ℕ) → Plan → Type 0
Is n line [] p = p ≡ no_more
Is n line (text ∷ more) p = Begins n line text more p

plan_is : (n : NetworkValue) (line : ℕ) (lines : List (List ℕ)) (p : Plan) → Plans n line lines p → Is n line lines p
plan_is _ _ _ _ (ends n line) = refl
plan_is _ _ _ _ (no_key n line text more none) = without_key n line text more (refused_at line fault.NoKey) none refl
plan_is _ _ _ _ (refused n line text more key why spelled outcome) = with_refusal n line text more (refused_at line (fault.Refused why)) key why spelled outcome refl
plan_is _ _ _ _ (joined n line text more key view m p spelled outcome rest) = with_peer n line text more (printed_first (row_text view.peer) p) key view m p spelled outcome rest refl

-- the plans of some lines are equal, whatever network they begin with
abbrev Agree : ℕ → List (List ℕ) → Type 0
Agree line lines = (n : NetworkValue) (p q : Plan) → Plans n line lines p → Plans n line lines q → p ≡ q

-- one outcome of one key
same_outcome : (n : NetworkValue) (text : List ℕ) (one other : Key) (o : Result (Reply × NetworkValue) CommandRefusal) → SpellsKey text one → SpellsKey text other
    → outcome_of n 0 (joining other) ≡ o → outcome_of n 0 (joining one) ≡ o
same_outcome n text one other o s t is = subst (λ (key : Key). outcome_of n 0 (joining key) ≡ o) (sym (one_key text one other s t)) is

no_refusal_joins : (o : Result (Reply × NetworkValue) CommandRefusal) (why : CommandRefusal) (done : Reply × NetworkValue) → o ≡ Err why → o ≡ Ok done → ⊥
no_refusal_joins o why done a b = cc (a, b)

one_refusal : (o : Result (Reply × NetworkValue) CommandRefusal) (why other : CommandRefusal) → o ≡ Err why → o ≡ Err other → why ≡ other
one_refusal o why other a b = cc (a, b)

one_done : (o : Result (Reply × NetworkValue) CommandRefusal) (done other : Reply × NetworkValue) → o ≡ Ok done → o ≡ Ok other → done ≡ other
one_done o done other a b = cc (a, b)

one_view : (view other : PeerView) → reply.Peer view ≡ reply.Peer other → view ≡ other
one_view view other is = cc is

agree_first : (line : ℕ) (more : List (List ℕ)) → Agree (line + 1) more
    → (n : NetworkValue) (text : List ℕ) (p q : Plan) → Begins n line text more p → Begins n line text more q → p ≡ q
agree_first _ _ again _ _ _ _ (without_key n line text more p none p_is) b = by_none n line text more p _ none p_is b
  where
    by_none : (n : NetworkValue) (line : ℕ) (text : List ℕ) (more : List (List ℕ)) (p q : Plan) → ((key : Key) → ¬ (SpellsKey text key))
        → p ≡ refused_at line fault.NoKey → Begins n line text more q → p ≡ q
    by_none _ _ _ _ p _ none p_is (without_key n line text more q none' q_is) = p_is ∙ sym q_is
    by_none _ _ _ _ p _ none p_is (with_refusal n line text more q key why s o q_is) = absurd (none key s)
    by_none _ _ _ _ p _ none p_is (with_peer n line text more q key view m rest s o plan q_is) = absurd (none key s)
agree_first _ _ again _ _ _ _ (with_refusal n line text more p key why s o p_is) b = by_refusal n line text more p _ key why s o p_is b
  where
    by_refusal : (n : NetworkValue) (line : ℕ) (text : List ℕ) (more : List (List ℕ)) (p q : Plan) (key : Key) (why : CommandRefusal) → SpellsKey text key → outcome_of n 0 (joining key) ≡ Err why
        → p ≡ refused_at line (fault.Refused why) → Begins n line text more q → p ≡ q
    by_refusal _ _ _ _ p _ key why s o p_is (without_key n line text more q none q_is) = absurd (none key s)
    by_refusal _ _ _ _ p _ key why s o p_is (with_refusal n line text more q other why' t o' q_is) =
        let same : why ≡ why' = one_refusal _ why why' o (same_outcome n text key other _ s t o') in
        p_is ∙ ap (λ w. refused_at line (fault.Refused w)) same ∙ sym q_is
    by_refusal _ _ _ _ p _ key why s o p_is (with_peer n line text more q other view m rest t o' plan q_is) =
        absurd (no_refusal_joins _ why (reply.Peer view, m) o (same_outcome n text key other _ s t o'))
agree_first _ _ again _ _ _ _ (with_peer n line text more p key view m rest s o plan p_is) b = by_peer n line text more p _ key view m rest again s o plan p_is b
  where
    by_peer : (n : NetworkValue) (line : ℕ) (text : List ℕ) (more : List (List ℕ)) (p q : Plan) (key : Key) (view : PeerView) (m : NetworkValue) (rest : Plan) → Agree (line + 1) more
        → SpellsKey text key → outcome_of n 0 (joining key) ≡ Ok (reply.Peer view, m)
        → Plans m (line + 1) more rest → p ≡ printed_first (row_text view.peer) rest → Begins n line text more q → p ≡ q
    by_peer _ _ _ _ p _ key view m rest again s o plan p_is (without_key n line text more q none q_is) = absurd (none key s)
    by_peer _ _ _ _ p _ key view m rest again s o plan p_is (with_refusal n line text more q other why t o' q_is) =
        absurd (no_refusal_joins _ why (reply.Peer view, m) (same_outcome n text key other _ s t o') o)
    by_peer _ _ _ _ p _ key view m rest again s o plan p_is (with_peer n line text more q other view' m' rest' t o' plan' q_is) =
        let done : (reply.Peer view, m) ≡ (reply.Peer view', m') = one_done _ (reply.Peer view, m) (reply.Peer view', m') o (same_outcome n text key other _ s t o') in
        let views : view ≡ view' = one_view view view' (ap (λ (d : Reply × NetworkValue). d.0) done) in
        let rests : rest ≡ rest' = again m' rest rest' (subst (λ (m : NetworkValue). Plans m (line + 1) more rest) (ap (λ (d : Reply × NetworkValue). d.1) done) plan) plan' in
        p_is ∙ ap (λ (v : PeerView). printed_first (row_text v.peer) rest) views ∙ ap (printed_first (row_text view'.peer)) rests ∙ sym q_is

agree : (lines : List (List ℕ)) (line : ℕ) → Agree line lines
agree [] line n p q a b = plan_is n line [] p a ∙ sym (plan_is n line [] q b)
agree (text ∷ more) line n p q a b = agree_first line more (agree more (line + 1)) n text p q (plan_is n line (text ∷ more) p a) (plan_is n line (text ∷ more) q b)

pub one_plan : (pool : PrefixValue) (text : List ℕ) (p q : Plan) → IsPlanOf pool text p → IsPlanOf pool text q → p ≡ q
one_plan pool text p q a b = agree (lines_of text) 1 (plan_network pool) p q a b
