use Rattle.std.proofs.Common.{drop, refl, sym, ◌∙◌}
use Rattle.wgr_dump.specs.Fields.{interface_forms, a_key_or_none, a_port, a_word}
use Rattle.wgr_dump.proofs.TakingLemmas.{bad_here, bad_later, bad_end}
use Rattle.wgr_dump.proofs.interface.InterfaceLine.read.Goals as goal

pub returns-in_default-take_port-clause-err : goal.returns-in_default-take_port-clause-err
returns-in_default-take_port-clause-err c =
    let private_key = c.in-Some.ensures in
    let public_key = c.in-Some-take_optional_key.ensures in (
      2,
      refl,
      bad_later a_key_or_none (drop 1 interface_forms) _ _ _ 1 (sym c.new-fields.ensures ∙ private_key.0) (c.in-Some._private_key.1, private_key.1)
          (bad_later a_key_or_none (drop 2 interface_forms) _ _ _ 0 public_key.0 (c.in-Some-take_optional_key.key, public_key.1)
          (bad_here a_port (drop 3 interface_forms) _ c.in_default-take_port.ensures)),
    )

pub returns-in_default-take_word-clause-err : goal.returns-in_default-take_word-clause-err
returns-in_default-take_word-clause-err c =
    let private_key = c.in-Some.ensures in
    let public_key = c.in-Some-take_optional_key.ensures in
    let port = c.in-Some-take_port.ensures in (
      3,
      refl,
      bad_later a_key_or_none (drop 1 interface_forms) _ _ _ 2 (sym c.new-fields.ensures ∙ private_key.0) (c.in-Some._private_key.1, private_key.1)
          (bad_later a_key_or_none (drop 2 interface_forms) _ _ _ 1 public_key.0 (c.in-Some-take_optional_key.key, public_key.1)
          (bad_later a_port (drop 3 interface_forms) _ _ _ 0 port.1 (c.in-Some-take_port.port, port.2)
          (bad_here a_word (drop 4 interface_forms) _ c.in_default-take_word.ensures))),
    )

pub returns-then-is_some-clause-err : goal.returns-then-is_some-clause-err
returns-then-is_some-clause-err c =
    let private_key = c.in-Some.ensures in
    let public_key = c.in-Some-take_optional_key.ensures in
    let port = c.in-Some-take_port.ensures in
    let mark = c.in-Some-take_word.ensures in (
      4,
      refl,
      bad_later a_key_or_none (drop 1 interface_forms) _ _ _ 3 (sym c.new-fields.ensures ∙ private_key.0) (c.in-Some._private_key.1, private_key.1)
          (bad_later a_key_or_none (drop 2 interface_forms) _ _ _ 2 public_key.0 (c.in-Some-take_optional_key.key, public_key.1)
          (bad_later a_port (drop 3 interface_forms) _ _ _ 1 port.1 (c.in-Some-take_port.port, port.2)
          (bad_later a_word (drop 4 interface_forms) _ _ _ 0 mark.1 mark.2
          (bad_end _ _ c.next.result c.next.ensures (sym c.if-is_some.ensures))))),
    )
