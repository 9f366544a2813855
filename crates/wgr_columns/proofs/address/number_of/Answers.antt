use Rattle.std.proofs.Common.{rules, ◌≡◌, ap, sym, arith}
use Rattle.sqlite.specs.declared.types.Value.TheVariants.{Blob}
use Rattle.wgr_columns.specs.Decode.{number_of}
use Rattle.wgr_columns.proofs.ByteLemmas.{bytes_back, spelled_long}
use Rattle.wgr_columns.proofs.address.number_of.Goals as goal

pub returns-then-bytes-ne16-clause-none : goal.returns-then-bytes-ne16-clause-none
returns-then-bytes-ne16-clause-none c same = absurd (omega (arith, spelled_long c.args.bytes.now same))

pub returns-clause-some : goal.returns-clause-some
returns-clause-some c =
    let value : c.joined.result ≡ number_of c.args.bytes.now = search rules in
    (ap Blob (sym (bytes_back c.args.bytes.now c.if-bytes-ne16.false c.are_bytes.ensures.all)), value)
