-- A body, a dump or an address has one outcome at most.
use Rattle.std.proofs.Common.{◌≡◌, ℕ, List, [], ◌∷◌, codes, Option, Some, None, Ok, Err, Bool, true, false, inl, inr, cond, refl, sym, ap, ap₂, subst, ◌∙◌, map}
use Rattle.std.specs.Prelude.{option_and_then}
use Rattle.serde_json.specs.Data.{Data}
use Rattle.serde_json.specs.Find.{as_str, get}
use Rattle.wgr_core.specs.declared.command.Command.{Command}
use Rattle.wgr_core.specs.declared.command.Command.TheVariants.{Adopt}
use Rattle.wgr_core.specs.declared.command.Command.TheVariants as command
use Rattle.wgr_dump.specs.Dump.{DumpValue}
use Rattle.wgr_dump.specs.Unique.{one_dump, one_masked}
use Rattle.wgr_dump.proofs.LawLemmas.{one_fault, not_both}
use Rattle.wgr_text.specs.Prefix.{width}
use Rattle.wgr_text.specs.PrefixText.{SpellsAddr}
use Rattle.wgr_text.proofs.KeyLemmas.{one_key}
use Rattle.wgr_text.proofs.RoundTrips.{Spells_unique}
use Rattle.wgr_text.proofs.Spelled.{SpellsAddr_unique}
use Rattle.wgr_dump.specs.Fields.{SpellsMasked}
use Rattle.wgr_text.specs.KeyText.{SpellsKey}
use Rattle.wgr_request.specs.Adopting.{adoption_asked, seen_peer}
use Rattle.wgr_request.specs.Bodies.{ReadCommand, With, IsJson, IsObject, OrBody, IsBody, has_only, AddFields, MoveFields, RouteFields, UnrouteFields, RenewFields, IsAdd, IsMove, IsRouteBody, IsUnroute, IsRenew}
use Rattle.wgr_request.specs.Commands.{IsCommand, IsPeers, IsAdoption, IsOwner}
use Rattle.wgr_request.specs.Fields.{IsFieldValue, IsText, SpellsFull, SpellsLabel, SpellsNamed, KeyField, LabelField, NamedField, PrefixField}
use Rattle.wgr_request.specs.Laws.{IsOne, OneOutcome}
use Rattle.wgr_request.specs.declared.fault.RequestFault.TheVariants.{BadDump}
use Rattle.wgr_request.specs.declared.fault.RequestField.{RequestField}
use Rattle.wgr_request.specs.declared.fault.RequestField.TheVariants.{Key, Label, Address, Prefix}

one_with : {A : Type 0} (IsValue : Option A → Type 0) (field : RequestField) (Next : A → ReadCommand → Type 0)
    → IsOne IsValue → ((a : A) → IsOne (Next a)) → IsOne (With IsValue field Next)
one_with IsValue field Next one next r s (inl a) (inl b) = a.1 ∙ sym b.1
one_with IsValue field Next one next r s (inl a) (inr b) = let e = one None (Some b.0) a.0 b.1 in cc e
one_with IsValue field Next one next r s (inr a) (inl b) = let e = one (Some a.0) None a.1 b.0 in cc e
one_with IsValue field Next one next r s (inr a) (inr b) =
    let e = one (Some a.0) (Some b.0) a.1 b.1 in
    let same : b.0 ≡ a.0 = cc e in
    next a.0 r s a.2 (subst (λ x. Next x s) same b.2)

-- ---- fields

one_text : {A : Type 0} (Form : List ℕ → A → Type 0) → ((text : List ℕ) → IsOne (Form text)) → (text : Option (List ℕ)) → IsOne (IsText Form text)
one_text Form one None r s a b = a ∙ sym b
one_text Form one (Some text) None None a b = refl
one_text Form one (Some text) None (Some y) a b = absurd (a y b)
one_text Form one (Some text) (Some x) None a b = absurd (b x a)
one_text Form one (Some text) (Some x) (Some y) a b = ap (λ z. Some z) (one text x y a b)

one_field : {A : Type 0} (Form : List ℕ → A → Type 0) → ((text : List ℕ) → IsOne (Form text)) → (absent : Option A) (d : Option Data) → IsOne (IsFieldValue (IsText Form) absent d)
one_field Form one absent None r s a b = a ∙ sym b
one_field Form one absent (Some d) r s a b = one_text Form one (as_str d) r s a b

one_full : (text : List ℕ) → IsOne (SpellsFull text)
one_full text a b s t = (Spells_unique text a b (width a.family) (width b.family) s t).0

one_named : (text : List ℕ) → IsOne (SpellsNamed text)
one_named text None s a b = absurd a
one_named text (Some x) None a b = absurd b
one_named text (Some x) (Some y) a b = ap (λ z. Some z) (one_full text x y a b)

one_label : (text : List ℕ) → IsOne (SpellsLabel text)
one_label text r s a b = a.0 ∙ sym b.0

-- ---- bodies

one_json : (bytes : List ℕ) → IsOne (IsJson bytes)
one_json bytes None None a b = refl
one_json bytes None (Some d) a b = let e = a b.0 in let f = b.1 in cc (e, f)
one_json bytes (Some d) None a b = let e = b a.0 in let f = a.1 in cc (e, f)
one_json bytes (Some d) (Some e) a b = sym a.1 ∙ b.1

one_object : (listed : List (List ℕ)) (body : List ℕ) → IsOne (IsObject listed body)
one_object listed body r s a b =
    let same : b.0 ≡ a.0 = one_json body b.0 a.0 b.1 a.1 in
    a.2 ∙ sym (b.2 ∙ ap (λ (d : Option Data). option_and_then (λ x. cond (has_only listed x) (Some x) None) d) same)

one_or_body : (Fields : Data → ReadCommand → Type 0) → ((d : Data) → IsOne (Fields d)) → (d : Option Data) → IsOne (OrBody Fields d)
one_or_body Fields one None r s a b = a ∙ sym b
one_or_body Fields one (Some d) r s a b = one d r s a b

one_body : (listed : List (List ℕ)) (Fields : Data → ReadCommand → Type 0) → ((d : Data) → IsOne (Fields d)) → (body : List ℕ) → IsOne (IsBody listed Fields body)
one_body listed Fields one body r s a b =
    let same : b.0 ≡ a.0 = one_object listed body b.0 a.0 b.1 a.1 in
    one_or_body Fields one a.0 r s a.2 (subst (λ d. OrBody Fields d s) same b.2)

pub one_add : (body : List ℕ) → IsOne (IsAdd body)
one_add body = one_body (codes "key" ∷ codes "label" ∷ codes "address" ∷ codes "end" ∷ codes "keepalive" ∷ []) AddFields (λ d.
    one_with (KeyField d) Key _ (one_field SpellsKey one_key None (get (codes "key") d)) λ key.
    one_with (LabelField d) Label _ (one_field SpellsLabel one_label (Some []) (get (codes "label") d)) λ label.
    one_with (NamedField d) Address _ (one_field SpellsNamed one_named (Some None) (get (codes "address") d)) λ address r s a b. a ∙ sym b) body

pub one_move : (number : ℕ) (body : List ℕ) → IsOne (IsMove number body)
one_move number body = one_body (codes "address" ∷ []) (MoveFields number) (λ d.
    one_with (NamedField d) Address _ (one_field SpellsNamed one_named (Some None) (get (codes "address") d)) λ address r s a b. a ∙ sym b) body

pub one_route : (number : ℕ) (body : List ℕ) → IsOne (IsRouteBody number body)
one_route number body = one_body (codes "prefix" ∷ []) (RouteFields number) (λ d.
    one_with (PrefixField d) Prefix _ (one_field SpellsMasked one_masked None (get (codes "prefix") d)) λ prefix r s a b. a ∙ sym b) body

pub one_unroute : (body : List ℕ) → IsOne (IsUnroute body)
one_unroute body = one_body (codes "prefix" ∷ []) UnrouteFields (λ d.
    one_with (PrefixField d) Prefix _ (one_field SpellsMasked one_masked None (get (codes "prefix") d)) λ prefix r s a b. a ∙ sym b) body

pub one_renew : (number : ℕ) (body : List ℕ) → IsOne (IsRenew number body)
one_renew number body = one_body (codes "end" ∷ []) (RenewFields number) (λ d r s a b. a ∙ sym b) body

-- ---- the other commands

pub one_command : (asked : Command) → IsOne (IsCommand asked)
one_command asked r s a b = a ∙ sym b

pub one_peers : (is_post : Bool) (body : List ℕ) → IsOne (IsPeers is_post body)
one_peers true body = one_add body
one_peers false body = one_command command.List

same_asked : (d e : DumpValue) → d.interface ≡ e.interface → d.lines ≡ e.lines → adoption_asked d ≡ adoption_asked e
same_asked d e interface lines =
    ap (λ i. Adopt i.public_key (map seen_peer d.lines)) interface ∙ ap (λ ls. Adopt e.interface.public_key (map seen_peer ls)) lines

pub one_adoption : (body : List ℕ) → IsOne (IsAdoption body)
one_adoption body r s (inl a) (inl b) =
    let same = one_dump body a.0.interface b.0.interface a.0.lines b.0.lines a.1 b.1 in
    a.2 ∙ ap (λ asked. Ok asked) (same_asked a.0 b.0 same.0 same.1) ∙ sym b.2
one_adoption body r s (inl a) (inr b) = absurd (not_both body a.0.interface a.0.lines b.0 b.1 a.1 b.2)
one_adoption body r s (inr a) (inl b) = absurd (not_both body b.0.interface b.0.lines a.0 a.1 b.1 a.2)
one_adoption body r s (inr a) (inr b) =
    let same = one_fault body a.0 a.1 b.0 b.1 a.2 b.2 in
    a.3 ∙ ap₂ (λ line field. Err (BadDump line field)) same.0 same.1 ∙ sym b.3

pub one_owner : (text : List ℕ) → IsOne (IsOwner text)
one_owner text =
    one_with (IsText SpellsAddr (Some text)) Address _ (one_text SpellsAddr SpellsAddr_unique (Some text)) λ address r s a b. a ∙ sym b

pub one_outcome : OneOutcome
one_outcome text number = (one_add text, one_move number text, one_route number text, one_unroute text, one_renew number text, one_adoption text, one_owner text)
