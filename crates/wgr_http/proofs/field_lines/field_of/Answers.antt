use Rattle.std.proofs.Common.{◌≡◌, ℕ, ◌+◌, List, get_or, refl, sym, ◌∙◌, arith, true, false, inl, inr}
use Rattle.std.specs.Str.{str_eq_ignore_ascii_case}
use Rattle.httparse.specs.declared.spans.HeaderSpan.{HeaderSpan}
use Rattle.httparse.specs.Spans.{header_bytes}
use Rattle.wgr_http.specs.declared.field_lines.FieldLines.TheVariants.{Absent}
use Rattle.wgr_http.proofs.FieldLemmas.{values_hit, values_miss, values_front, second}
use Rattle.wgr_http.proofs.field_lines.field_of.Goals as goal
use Rattle.wgr_http.proofs.field_lines.field_of.Goals.{then-same_name+in-Absent, else-same_name}

-- what a read past the end gives
abbrev no_header : HeaderSpan
no_header = record { name = record { start = 0; end = 0 }; value = record { start = 0; end = 0 } }

pub returns-in-Once : goal.returns-in-Once
returns-in-Once c =
    let buf : List ℕ = c.args.buf.now in
    let hs : List HeaderSpan = c.args.headers.now in
    let i : ℕ = c.loop-header.header-index in
    let hit : str_eq_ignore_ascii_case (header_bytes buf (get_or hs i no_header)).0 c.args.name.now ≡ true =
    rw (← c.of.ensures) (sym c.same_name.ensures ∙ c.if-same_name.true) in
    let more = values_hit c.args.name.now buf hs i no_header (omega arith) hit in
    let ne : c.loop-header.found ≡ Absent → ⊥ = λ e. elim c.in-Once.is [ inl p ↦ (let bad = sym e ∙ p.1 in cc bad) | inr q ↦ (let bad = sym e ∙ q in cc bad) ] in
    rw (values_front c.args.name.now buf hs (i + 1), more) (second c.loop-header.found _ _ _ ne c.loop-header.invariant)

pub loop-header-preserved : goal.loop-header-preserved
loop-header-preserved c =
    let buf : List ℕ = c.args.buf.now in
    let hs : List HeaderSpan = c.args.headers.now in
    let i : ℕ = c.loop-header.header-index in
    elim c.if-same_name.branch [
      | then-same_name+in-Absent w ↦
          let hit : str_eq_ignore_ascii_case (header_bytes buf (get_or hs i no_header)).0 c.args.name.now ≡ true =
          rw (← c.of.ensures) (sym c.same_name.ensures ∙ w.if-same_name.true) in
          let more = values_hit c.args.name.now buf hs i no_header (omega arith) hit in
          let none = rw w.in-Absent.is at c.loop-header.invariant in
          rw w.found-is (rw (more, none, w.of-in-Absent.ensures) refl)
      | else-same_name w ↦
          let miss : str_eq_ignore_ascii_case (header_bytes buf (get_or hs i no_header)).0 c.args.name.now ≡ false =
          rw (← c.of.ensures) (sym c.same_name.ensures ∙ w.if-same_name.false) in
          rw (w.found-is, values_miss c.args.name.now buf hs i no_header (omega arith) miss) c.loop-header.invariant
    ]
