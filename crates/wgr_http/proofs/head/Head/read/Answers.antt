use Rattle.std.proofs.Common.{◌≡◌, ℕ, List, codes, take, map}
use Rattle.httparse.specs.Spans.{header_bytes, name_and_value}
use Rattle.httparse.specs.declared.spans.HeaderSpan.{HeaderSpan}
use Rattle.wgr_http.proofs.ReadLemmas.{field_in_head}
use Rattle.wgr_http.proofs.head.Head.read.Goals as goal

pub returns-clause-some : goal.returns-clause-some
returns-clause-some c =
    let found = c.in_ok-spans.ensures.head in
    let at = found.2 in
    let front : List ℕ = c.front_of-front.result.now in
    let used : List HeaderSpan = take c.in_ok-spans.spans.headers c.spans_of.new.headers in
    let same : map (header_bytes front) used ≡ map name_and_value found.0.fields = rw c.front_of-front.ensures at.fields in (
      found.0,
      found.1,
      record {
        len = at.len;
        method = rw (c.of.ensures, c.front_of-front.ensures) at.method;
        target = rw (c.of-2.ensures, c.front_of-front.ensures) at.path;
        authorization = field_in_head (codes "authorization") front c.field_of.result used found.0 same c.field_of.ensures;
        content_length = field_in_head (codes "content-length") front c.field_of-2.result used found.0 same c.field_of-2.ensures;
        transfer_encoding = field_in_head (codes "transfer-encoding") front c.field_of-3.result used found.0 same c.field_of-3.ensures;
      },
    )
