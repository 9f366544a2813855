use Rattle.std.proofs.Common.{take, map}
use Rattle.httparse.specs.Spans.{header_bytes}
use Rattle.wgr_http.specs.Field.{IsField, values}
use Rattle.wgr_http.proofs.field_lines.field_of.Given as goal

abbrev pub invariant-loop-header : goal.invariant-loop-header
invariant-loop-header l = IsField l.found (values l.name (map (header_bytes l.buf) (take l.header-index l.headers)))
