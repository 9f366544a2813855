use Rattle.std.proofs.Common.{◌≡◌, true, false, [], sym, ap, ◌∙◌}
use Rattle.std.specs.Option.{option_map}
use Rattle.wgr_text.specs.Prefix.{PrefixValue}
use Rattle.wgr_orders.specs.Orders.{refusal_of}
use Rattle.wgr_model.specs.Register.{Register}
use Rattle.wgr_model.specs.Steps.{Settings, has_endpoint, overlapping, pool_refusal}
use Rattle.wgr_model.proofs.OrderSteps.{name_refusal, pool_is_bad, pool_is_held, port_is_held, room_decides}
use Rattle.wgr_orders.proofs.PlaceLemmas.{place_tells}
use Rattle.wgr_orders.proofs.admit.checked_pool.Goals as goal

pub returns-then-is_some : goal.returns-then-is_some
returns-then-is_some c =
    let r : Register = record { tenants = c.args.tenants.now; tokens = []; readers = []; networks = c.args.networks.now } in
    let told = sym (place_tells r.networks c.args.id c.args.name.now c.place_of.result (rw (← c.as_bytes.ensures) c.place_of.ensures)) ∙ sym c.is_some.ensures ∙ c.if-is_some.true in
    (name_refusal r c.args.id c.args.name.now c.args.settings.now told)

pub returns-in_default : goal.returns-in_default
returns-in_default c =
    let r : Register = record { tenants = c.args.tenants.now; tokens = []; readers = []; networks = c.args.networks.now } in
    let told = sym (place_tells r.networks c.args.id c.args.name.now c.place_of.result (rw (← c.as_bytes.ensures) c.place_of.ensures)) ∙ sym c.is_some.ensures ∙ c.if-is_some.false in
    (pool_is_bad r c.args.id c.args.name.now c.args.settings.now told c.in_default.ensures.none)

pub returns-in-Some-2 : goal.returns-in-Some-2
returns-in-Some-2 c =
    let r : Register = record { tenants = c.args.tenants.now; tokens = []; readers = []; networks = c.args.networks.now } in
    let told = sym (place_tells r.networks c.args.id c.args.name.now c.place_of.result (rw (← c.as_bytes.ensures) c.place_of.ensures)) ∙ sym c.is_some.ensures ∙ c.if-is_some.false in
    let pool = c.in-Some.ensures.some in
    let overlap : option_map refusal_of c.in_ok-why.field-0 ≡ pool_refusal (overlapping r.tenants r.networks c.args.settings.now.pool) =
    c.in_ok-why.ensures ∙ ap (λ (p : PrefixValue). pool_refusal (overlapping r.tenants r.networks p)) pool.1 in
    (pool_is_held r c.args.id c.args.name.now c.args.settings.now told pool.0 (refusal_of c.in-Some-2.why) (sym overlap ∙ ap (option_map refusal_of) c.in-Some-2.is))

pub returns-then-has_endpoint : goal.returns-then-has_endpoint
returns-then-has_endpoint c =
    let r : Register = record { tenants = c.args.tenants.now; tokens = []; readers = []; networks = c.args.networks.now } in
    let told = sym (place_tells r.networks c.args.id c.args.name.now c.place_of.result (rw (← c.as_bytes.ensures) c.place_of.ensures)) ∙ sym c.is_some.ensures ∙ c.if-is_some.false in
    let pool = c.in-Some.ensures.some in
    let overlap : option_map refusal_of c.in_ok-why.field-0 ≡ pool_refusal (overlapping r.tenants r.networks c.args.settings.now.pool) =
    c.in_ok-why.ensures ∙ ap (λ (p : PrefixValue). pool_refusal (overlapping r.tenants r.networks p)) pool.1 in
    let none = sym overlap ∙ ap (option_map refusal_of) c.in_default-2.is in
    let port = sym (c.has_endpoint.ensures ∙ ap {A = Settings} (λ s. has_endpoint r.networks (s.host, s.port)) c.settings.view_is) ∙ c.if-has_endpoint.true in
    (port_is_held r c.args.id c.args.name.now c.args.settings.now told pool.0 none port)

pub returns-then-is_full : goal.returns-then-is_full
returns-then-is_full c =
    let r : Register = record { tenants = c.args.tenants.now; tokens = []; readers = []; networks = c.args.networks.now } in
    let told = sym (place_tells r.networks c.args.id c.args.name.now c.place_of.result (rw (← c.as_bytes.ensures) c.place_of.ensures)) ∙ sym c.is_some.ensures ∙ c.if-is_some.false in
    let pool = c.in-Some.ensures.some in
    let overlap : option_map refusal_of c.in_ok-why.field-0 ≡ pool_refusal (overlapping r.tenants r.networks c.args.settings.now.pool) =
    c.in_ok-why.ensures ∙ ap (λ (p : PrefixValue). pool_refusal (overlapping r.tenants r.networks p)) pool.1 in
    let none = sym overlap ∙ ap (option_map refusal_of) c.in_default-2.is in
    let port = sym (c.has_endpoint.ensures ∙ ap {A = Settings} (λ s. has_endpoint r.networks (s.host, s.port)) c.settings.view_is) ∙ c.if-has_endpoint.false in
    let full = sym c.is_full.ensures ∙ c.if-is_full.true in
    (room_decides r c.args.id c.args.name.now c.args.settings.now told pool.0 none true port full)

pub returns : goal.returns
returns c =
    let r : Register = record { tenants = c.args.tenants.now; tokens = []; readers = []; networks = c.args.networks.now } in
    let told = sym (place_tells r.networks c.args.id c.args.name.now c.place_of.result (rw (← c.as_bytes.ensures) c.place_of.ensures)) ∙ sym c.is_some.ensures ∙ c.if-is_some.false in
    let pool = c.in-Some.ensures.some in
    let overlap : option_map refusal_of c.in_ok-why.field-0 ≡ pool_refusal (overlapping r.tenants r.networks c.args.settings.now.pool) =
    c.in_ok-why.ensures ∙ ap (λ (p : PrefixValue). pool_refusal (overlapping r.tenants r.networks p)) pool.1 in
    let none = sym overlap ∙ ap (option_map refusal_of) c.in_default-2.is in
    let port = sym (c.has_endpoint.ensures ∙ ap {A = Settings} (λ s. has_endpoint r.networks (s.host, s.port)) c.settings.view_is) ∙ c.if-has_endpoint.false in
    let full = sym c.is_full.ensures ∙ c.if-is_full.false in
    ((room_decides r c.args.id c.args.name.now c.args.settings.now told pool.0 none false port full), pool.1)
