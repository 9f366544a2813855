use Rattle.std.proofs.Common.{◌∙◌, ◌++◌, ◌&&◌, ◌==◌, ap, codes, is_some, length, map, not, subst, sym, Bor}
use Rattle.std.specs.List.Sorted.{IsPermutation}
use Rattle.std.specs.Option.{option_map}
use Rattle.serde_json.specs.Written.{compact_text}
use Rattle.wgr_model.specs.Register.{Tenant}
use Rattle.wgr_show.specs.Entries.{entry_of}
use Rattle.wgr_show.specs.Json.{register_data}
use Rattle.wgr_show.specs.Shown.{asked_tenants}
use Rattle.wgr_show.proofs.Listing.{shows_each, there_unless_missing}
use Rattle.wgr_show.proofs.show.show_text.Goals as goal

pub returns-then-is_missing-clause-none : goal.returns-then-is_missing-clause-none
returns-then-is_missing-clause-none c =
    let tenants = c.in_ok-tenants.tenants.items in
    let name = option_map (λ n. n.now) c.args.tenant in
    let found = subst (λ ts. IsPermutation (asked_tenants name ts) (map (λ r. r.now) tenants)) c.deref.ensures.value c.in_ok-tenants.ensures.same in
    let missing = ap (λ ts. is_some c.args.tenant && (length ts == 0)) (sym c.deref-2.ensures.value) ∙ sym c.is_missing.ensures ∙ c.if-is_missing.true in
    there_unless_missing c.args.tenant c.args.census.now.tenants.items tenants found ∙ ap not missing

pub returns-clause-some : goal.returns-clause-some
returns-clause-some c =
    let tenants = c.in_ok-tenants.tenants.items in
    let name = option_map (λ n. n.now) c.args.tenant in
    let found = subst (λ ts. IsPermutation (asked_tenants name ts) (map (λ r. r.now) tenants)) c.deref.ensures.value c.in_ok-tenants.ensures.same in
    let there = ap (λ ts. is_some c.args.tenant && (length ts == 0)) (sym c.deref-2.ensures.value) ∙ sym c.is_missing.ensures ∙ c.if-is_missing.false in
    there_unless_missing c.args.tenant c.args.census.now.tenants.items tenants found ∙ ap not there

pub returns-clause-json : goal.returns-clause-json
returns-clause-json c is_json =
    let tenants = c.in_ok-tenants.tenants.items in
    let tokens = c.in_ok-tokens.tokens.items in
    let networks = c.in_ok-networks.networks.items in
    let name = option_map (λ n. n.now) c.args.tenant in
    let found = subst (λ ts. IsPermutation (asked_tenants name ts) (map (λ r. r.now) tenants)) c.deref.ensures.value c.in_ok-tenants.ensures.same in
    let all_tokens = subst (λ ts. IsPermutation ts (map (λ r. r.now) tokens)) c.deref-3.ensures.value c.in_ok-tokens.ensures.same in
    let all_networks = subst (λ ns. IsPermutation ns (map (λ r. r.now) networks)) c.deref-4.ensures.value c.in_ok-networks.ensures.same in
    let made =
    ap (λ ts. map (λ t. entry_of c.deref-6.result.now c.deref-7.result.now t.now) ts) c.deref-5.ensures.value
    ∙ ap (λ xs. map (λ (t : Bor Tenant). entry_of xs c.deref-7.result.now t.now) tenants) c.deref-6.ensures.value
    ∙ ap (λ ns. map (λ (t : Bor Tenant). entry_of tokens ns t.now) tenants) c.deref-7.ensures.value in (
      map (λ (t : Bor Tenant). entry_of tokens networks t.now) tenants,
      record {
        tenants = map (λ r. r.now) tenants;
        asked_tenants = record { same = found; sorted = c.in_ok-tenants.ensures.sorted };
        each = shows_each c.args.census.now tokens networks all_tokens c.in_ok-tokens.ensures.sorted all_networks c.in_ok-networks.ensures.sorted tenants;
      },
      c.in_ok-text_of.ensures.json is_json ∙ ap (λ shown. compact_text (register_data shown) ++ codes "\n") made,
    )
