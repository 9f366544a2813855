-- What an accepted command gives: always something, and the same on the network before a change as
-- after it, since no change replies with a file.
use Rattle.std.proofs.Common.{◌≡◌, ℕ, true, false, Option, Some, Result, Ok, Err, refl, sym, ap, ◌∙◌, option_map, is_some}
use Rattle.std.specs.Prelude.{IfOk}
use Rattle.wgr_core.specs.Adoption.{Adoption, adoption_of}
use Rattle.wgr_core.specs.Change.{Meets, applied_if}
use Rattle.wgr_core.specs.declared.change.Change.{Change}
use Rattle.wgr_core.specs.declared.command.Command.{Command}
use Rattle.wgr_core.specs.declared.command.Command.TheVariants as command
use Rattle.wgr_core.specs.declared.refusal.Refusal.{Refusal}
use Rattle.wgr_core.specs.declared.reply.Reply.{Reply}
use Rattle.wgr_core.specs.Network.{NetworkValue, live_at}
use Rattle.wgr_core.specs.Outcome.{Outcome, adopted, is_reading, lease_refusal, live_outcome, outcome_of, server_refusal, vacated}
use Rattle.wgr_core.specs.Refusals.{join_refusal, place, route_refusal}
use Rattle.wgr_core.specs.Owner.{owner_of}
use Rattle.wgr_peers.specs.Peers.{peer_of}
use Rattle.wgr_peers.specs.Routes.{route_of}
use Rattle.wgr_conf.specs.Files.{peer_config_text}
use Rattle.wgr_core.proofs.OutcomeCases.{kept_if_reading, owner_if, place_if, routed_if, stands_if, unless_if}
use Rattle.wgr_register.specs.Given.{OfFile, reply_given}

-- it gives something on `n`, and a change gives the same on every network
abbrev IsGiven : NetworkValue → ℕ → Command → Reply × NetworkValue → Type 0
IsGiven n now asked done = (is_some (reply_given now n done.0) ≡ true) × (is_reading asked ≡ false → (m : NetworkValue) → reply_given now m done.0 ≡ reply_given now n done.0)

adopted_if : (n : NetworkValue) (now : ℕ) (asked : Command) (r : Result Adoption (ℕ × Refusal)) → IfOk (adopted r) (IsGiven n now asked)
adopted_if n now asked (Err e) = tt
adopted_if n now asked (Ok s) = (refl, λ changes m. refl)

live_given : (n : NetworkValue) (now : ℕ) (asked : Command) → IfOk (live_outcome (live_at n now) now asked) (IsGiven n now asked)
live_given n now (command.Add key label wanted until keepalive) =
    let P = IsGiven n now (command.Add key label wanted until keepalive) in
    unless_if P (join_refusal (live_at n now) now key until) _ (λ admitted. place_if P (place (live_at n now) n.pool wanted) _ (λ a placed. (refl, λ changes m. refl)))
live_given n now (command.Move number wanted) =
    let P = IsGiven n now (command.Move number wanted) in
    stands_if P (peer_of (live_at n now).peers number) _ (λ p found. place_if P (place (vacated (live_at n now) (Some number)) n.pool wanted) _ (λ a placed. (refl, λ changes m. refl)))
live_given n now (command.Revoke number) = stands_if (IsGiven n now (command.Revoke number)) (peer_of (live_at n now).peers number) _ (λ p found. (refl, λ changes m. refl))
live_given n now (command.Route number prefix) =
    let P = IsGiven n now (command.Route number prefix) in
    stands_if P (peer_of (live_at n now).peers number) _ (λ p found. unless_if P (route_refusal (live_at n now) prefix) _ (λ allows. (refl, λ changes m. refl)))
live_given n now (command.Unroute prefix) = routed_if (IsGiven n now (command.Unroute prefix)) (live_at n now) (route_of (live_at n now).routes prefix) _ (λ number p found. (refl, λ changes m. refl))
live_given n now (command.Renew number until) =
    let P = IsGiven n now (command.Renew number until) in
    stands_if P (peer_of (live_at n now).peers number) _ (λ p found. unless_if P (lease_refusal now until) _ (λ allowed. (refl, λ changes m. refl)))
live_given n now (command.Adopt server lines) =
    let asked = command.Adopt server lines in
    unless_if (IsGiven n now asked) (server_refusal (live_at n now) server) _ (λ same. adopted_if n now asked (adoption_of (live_at n now) lines))
live_given n now command.List = (refl, λ changes m. refl)
live_given n now (command.Owner address) = owner_if (IsGiven n now (command.Owner address)) (live_at n now) (owner_of (live_at n now) address) (λ number found. (refl, λ changes m. refl))
live_given n now (command.ServerFile form) = (refl, λ changes m. let bad : true ≡ false = changes in cc)
live_given n now (command.PeerFile number form) =
    stands_if (IsGiven n now (command.PeerFile number form)) (peer_of (live_at n now).peers number) _
    (λ p found. (ap (λ o. is_some (option_map OfFile (option_map (peer_config_text (live_at n now) form) o))) found, λ changes m. let bad : true ≡ false = changes in cc))

abbrev IsGivenAfter : NetworkValue → ℕ → Reply × NetworkValue → Type 0
IsGivenAfter n now done = (is_some (reply_given now n done.0) ≡ true) × (reply_given now done.1 done.0 ≡ reply_given now n done.0)

weaker : (P Q : Reply × NetworkValue → Type 0) (o : Outcome) → ((done : Reply × NetworkValue) → P done → Q done) → IfOk o P → IfOk o Q
weaker P Q (Err why) tells holds = tt
weaker P Q (Ok done) tells holds = tells done holds

given_after : (n : NetworkValue) (now : ℕ) (asked : Command) → IfOk (outcome_of n now asked) (IsGivenAfter n now)
given_after n now asked =
    kept_if_reading (IsGivenAfter n now) n (is_reading asked) (live_outcome (live_at n now) now asked)
    (λ reads. weaker (IsGiven n now asked) (λ done. IsGivenAfter n now (done.0, n)) (live_outcome (live_at n now) now asked) (λ done is. (is.0, refl)) (live_given n now asked))
    (λ changes. weaker (IsGiven n now asked) (IsGivenAfter n now) (live_outcome (live_at n now) now asked) (λ done is. (is.0, is.1 changes done.1)) (live_given n now asked))

met : (n : NetworkValue) (now : ℕ) (reply : Reply) (change : Option Change) (o : Outcome) → Meets n (Ok (reply, change)) o → IfOk o (IsGivenAfter n now)
    → (is_some (reply_given now n reply) ≡ true) × (reply_given now (applied_if change n) reply ≡ reply_given now n reply)
met n now reply change (Err why) meets is = absurd meets
met n now reply change (Ok done) meets is =
    (ap (λ r. is_some (reply_given now n r)) meets.0 ∙ is.0, ap (λ m. reply_given now m reply) meets.1 ∙ ap (λ r. reply_given now done.1 r) meets.0 ∙ is.1 ∙ ap (λ r. reply_given now n r) (sym meets.0))

pub reply_gives : (n : NetworkValue) (now : ℕ) (asked : Command) (reply : Reply) (change : Option Change) → Meets n (Ok (reply, change)) (outcome_of n now asked)
    → (is_some (reply_given now n reply) ≡ true) × (reply_given now (applied_if change n) reply ≡ reply_given now n reply)
reply_gives n now asked reply change meets = met n now reply change (outcome_of n now asked) meets (given_after n now asked)
