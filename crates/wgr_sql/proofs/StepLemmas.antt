-- Chains of steps in a transaction.
use Rattle.std.proofs.Common.{true, IsTrue, ℕ, List, [], ◌∷◌, ◌++◌, Ok, Err, Result, refl, sym, subst, ◌∙◌}
use Rattle.sqlite.specs.Effect.{Database}
use Rattle.sqlite.specs.State.{State, Shows, KeepsCommit}
use Rattle.wgr_sql.specs.Steps.{StepsOn, StepsFrom, Makes, Then, Each}

keeps_then : (a b c : State) → KeepsCommit a b → KeepsCommit b c → KeepsCommit a c
keeps_then a b c p q = record { was_open = λ h. p.was_open (q.was_open h); committed = λ h. q.committed h ∙ p.committed (q.was_open h) }

shows_then : (a b c : State) → Shows a b b.now a.committed true → Shows b c c.now b.committed true → Shows a c c.now a.committed true
shows_then a b c p q = record { was_open = p.was_open; is_open = q.is_open; now_is = refl; committed_is = q.committed_is ∙ p.committed_is; mode = q.mode }

module _ (good : Database → Type 0) where
  -- a plain step is a chain
  pub from_step : {X E : Type 0} (P : Database → Database → Type 0) (a b : State) (r : Result X E) → StepsOn good P a b r → StepsFrom good P a b r
  from_step P a b (Ok x) step inside start = let it = step inside start in (it.0, (it.1.1.mode, λ live. it.1))
  from_step P a b (Err e) step inside start = let it = step inside start in (it.0, tt)

  -- no step
  pub no_step : {X : Type 0} (E : Type 0) (P : Database → Database → Type 0) (a : State) (x : X) → ((d : Database) → good d → P d d) → StepsFrom {E = E} good P a a (Ok x)
  no_step E P a x same inside start = (
    record { was_open = λ h. h; committed = λ _. refl },
    (inside, λ live. (same a.now (start live), record { was_open = live; is_open = live; now_is = refl; committed_is = refl; mode = inside })),
  )

  module _ {X : Type 0} (E : Type 0) (P : Database → Database → Type 0) (sound : (d e : Database) → P d e → good e) (a b : State) (x : X) (first : StepsFrom {E = E} good P a b (Ok x))
      (inside : IsTrue a.in_transaction) (start : IsTrue a.is_open → good a.now) where
    pub next_inside : IsTrue b.in_transaction
    next_inside = (first inside start).1.0

    pub next_good : IsTrue b.is_open → good b.now
    next_good live = let it = first inside start in sound _ _ (it.1.1 (it.0.was_open live)).0

  -- whatever comes of the next step, nothing is committed
  pub still_keeps : {X Y E : Type 0} (P Q : Database → Database → Type 0) (a b c : State) (x : X) (r : Result Y E) → ((d e : Database) → P d e → good e) → StepsFrom {E = E} good P a b (Ok x) → StepsFrom good Q b c r
      → IsTrue a.in_transaction → (IsTrue a.is_open → good a.now) → KeepsCommit a c
  still_keeps {E = E} P Q a b c x r sound first next inside start =
      keeps_then a b c (first inside start).0 (next (next_inside E P sound a b x first inside start) (next_good E P sound a b x first inside start)).0

  -- a chain and a chain
  pub chain_then : {X Y E : Type 0} (P Q R : Database → Database → Type 0) (a b c : State) (x : X) (r : Result Y E) → ((d e f : Database) → P d e → Q e f → R d f) → ((d e : Database) → P d e → good e)
      → StepsFrom {E = E} good P a b (Ok x) → StepsFrom good Q b c r → StepsFrom good R a c r
  chain_then {Y = Y} {E = E} P Q R a b c x (Err e) join sound first next inside start = (still_keeps {Y = Y} P Q a b c x (Err e) sound first next inside start, tt)
  chain_then {E = E} P Q R a b c x (Ok y) join sound first next inside start =
      let one = first inside start in
      let two = next (next_inside E P sound a b x first inside start) (next_good E P sound a b x first inside start) in (
        keeps_then a b c one.0 two.0,
        (
          two.1.0,
          λ live.
              let p = one.1.1 live in
              let q = two.1.1 p.1.is_open in
              (join _ _ _ p.0 q.0, shows_then a b c p.1 q.1),
        ),
      )

  -- a chain that a plain step ends: its success says that the store was open all along
  pub chain_ends : {X Y E : Type 0} (P Q R : Database → Database → Type 0) (a b c : State) (x : X) (r : Result Y E) → ((d e f : Database) → P d e → Q e f → R d f) → ((d e : Database) → P d e → good e)
      → StepsFrom {E = E} good P a b (Ok x) → StepsOn good Q b c r → StepsOn good R a c r
  chain_ends {Y = Y} {E = E} P Q R a b c x (Err e) join sound first next inside start = (still_keeps {Y = Y} P Q a b c x (Err e) sound first (from_step {X = Y} Q b c (Err e) next) inside start, tt)
  chain_ends {E = E} P Q R a b c x (Ok y) join sound first next inside start =
      let one = first inside start in
      let two = next (next_inside E P sound a b x first inside start) (next_good E P sound a b x first inside start) in
      let p = one.1.1 (one.0.was_open two.1.1.was_open) in
      (keeps_then a b c one.0 two.0, (join _ _ _ p.0 two.1.0, shows_then a b c p.1 two.1.1))

-- ---- relations of what is read in the database

pub each_more : {T X : Type 0} (step : X → T → T → Type 0) (xs : List X) (x : X) (t m u : T) → Each step xs t m → step x m u → Each step (xs ++ x ∷ []) t u
each_more step [] x t m u done next = (u, subst (λ s. step x s u) (sym done) next, refl)
each_more step (y ∷ xs) x t m u done next = (done.0, done.1, each_more step xs x done.0 m u done.2 next)

module _ {T : Type 0} (good : Database → Type 0) (view : Database → T) where
  made_then : (P Q : T → T → Type 0) (d e f : Database) → Makes good view P d e → Makes good view Q e f → Makes good view (Then P Q) d f
  made_then P Q d e f p q = record { sound = q.sound; schema = q.schema ∙ p.schema; made = (view e, p.made, q.made) }

  made_more : {X : Type 0} (step : X → T → T → Type 0) (xs : List X) (x : X) (d e f : Database) → Makes good view (Each step xs) d e → Makes good view (step x) e f → Makes good view (Each step (xs ++ x ∷ [])) d f
  made_more step xs x d e f p q = record { sound = q.sound; schema = q.schema ∙ p.schema; made = each_more step xs x _ _ _ p.made q.made }

  -- no step of a loop was made yet
  pub loop_begins : {X : Type 0} (E : Type 0) (step : X → T → T → Type 0) (a : State) → StepsFrom {X = ℕ} {E = E} good (Makes good view (Each step [])) a a (Ok 0)
  loop_begins E step a = no_step good {X = ℕ} E (Makes good view (Each step [])) a 0 (λ d h. record { sound = h; schema = refl; made = refl })

  -- one more step of a loop
  pub loop_more : {X Y : Type 0} (E : Type 0) (step : X → T → T → Type 0) (xs : List X) (x : X) (a b c : State) (y : Y) → StepsFrom {X = ℕ} {E = E} good (Makes good view (Each step xs)) a b (Ok 0)
      → StepsOn {E = E} good (Makes good view (step x)) b c (Ok y) → StepsFrom {X = ℕ} {E = E} good (Makes good view (Each step (xs ++ x ∷ []))) a c (Ok 0)
  loop_more E step xs x a b c y first next =
      chain_then good {X = ℕ} {Y = ℕ} {E = E} (Makes good view (Each step xs)) (Makes good view (step x)) (Makes good view (Each step (xs ++ x ∷ []))) a b c 0 (Ok 0) (made_more step xs x) (λ p q h. h.sound) first
      (from_step good {X = ℕ} {E = E} (Makes good view (step x)) b c (Ok 0) next)

  -- a step, and a step
  pub steps_then : {X Y : Type 0} (E : Type 0) (P Q : T → T → Type 0) (a b c : State) (x : X) (r : Result Y E) → StepsOn {E = E} good (Makes good view P) a b (Ok x) → StepsOn good (Makes good view Q) b c r
      → StepsOn good (Makes good view (Then P Q)) a c r
  steps_then E P Q a b c x r first next =
      chain_ends good {E = E} (Makes good view P) (Makes good view Q) (Makes good view (Then P Q)) a b c x r (made_then P Q) (λ p q h. h.sound) (from_step good {E = E} (Makes good view P) a b (Ok x) first) next

  -- a chain, and a step
  pub chain_then_step : {X Y : Type 0} (E : Type 0) (P Q : T → T → Type 0) (a b c : State) (x : X) (r : Result Y E) → StepsFrom {E = E} good (Makes good view P) a b (Ok x) → StepsOn good (Makes good view Q) b c r
      → StepsOn good (Makes good view (Then P Q)) a c r
  chain_then_step E P Q a b c x r first next = chain_ends good {E = E} (Makes good view P) (Makes good view Q) (Makes good view (Then P Q)) a b c x r (made_then P Q) (λ p q h. h.sound) first next

  -- a chain, and a chain
  pub chain_then_chain : {X Y : Type 0} (E : Type 0) (P Q : T → T → Type 0) (a b c : State) (x : X) (r : Result Y E) → StepsFrom {E = E} good (Makes good view P) a b (Ok x) → StepsFrom good (Makes good view Q) b c r
      → StepsFrom good (Makes good view (Then P Q)) a c r
  chain_then_chain E P Q a b c x r first next = chain_then good {E = E} (Makes good view P) (Makes good view Q) (Makes good view (Then P Q)) a b c x r (made_then P Q) (λ p q h. h.sound) first next
