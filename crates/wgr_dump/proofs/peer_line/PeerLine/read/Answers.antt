use Rattle.std.proofs.Common.{drop, refl, sym, subst, ◌∙◌}
use Rattle.wgr_dump.specs.MeantPrefixes.{coded_prefix}
use Rattle.wgr_dump.specs.Fields.{SpellsMasked, SpellsAllowed, peer_forms, a_key, a_key_or_none, a_word, prefixes, a_count, a_keepalive}
use Rattle.wgr_dump.specs.PartsLeft.{left}
use Rattle.wgr_dump.specs.Meant.{meant_same}
use Rattle.wgr_dump.specs.Unique.{one_masked}
use Rattle.wgr_dump.proofs.TakingLemmas.{bad_here, bad_later, bad_end, at_end, field_then}
use Rattle.wgr_dump.proofs.peer_line.PeerLine.read.Goals as goal

pub returns-in_default-take_word-clause-err : goal.returns-in_default-take_word-clause-err
returns-in_default-take_word-clause-err c =
    let key = c.in-Some.ensures in
    let preshared_key = c.in-Some-take_optional_key.ensures in (
      2,
      refl,
      bad_later a_key (drop 1 peer_forms) _ _ _ 1 (sym c.new-fields.ensures ∙ key.0) (c.in-Some.key, key.1)
          (bad_later a_key_or_none (drop 2 peer_forms) _ _ _ 0 preshared_key.0 (c.in-Some-take_optional_key._preshared_key.1, preshared_key.1)
          (bad_here a_word (drop 3 peer_forms) _ c.in_default-take_word.ensures)),
    )

pub returns-in_default-take_allowed-clause-err : goal.returns-in_default-take_allowed-clause-err
returns-in_default-take_allowed-clause-err c =
    let key = c.in-Some.ensures in
    let preshared_key = c.in-Some-take_optional_key.ensures in
    let endpoint = c.in-Some-take_word.ensures in (
      3,
      refl,
      bad_later a_key (drop 1 peer_forms) _ _ _ 2 (sym c.new-fields.ensures ∙ key.0) (c.in-Some.key, key.1)
          (bad_later a_key_or_none (drop 2 peer_forms) _ _ _ 1 preshared_key.0 (c.in-Some-take_optional_key._preshared_key.1, preshared_key.1)
          (bad_later a_word (drop 3 peer_forms) _ _ _ 0 endpoint.1 endpoint.2
          (bad_here prefixes (drop 4 peer_forms) _ c.in_default-take_allowed.ensures))),
    )

pub returns-in_default-take_count-clause-err : goal.returns-in_default-take_count-clause-err
returns-in_default-take_count-clause-err c =
    let key = c.in-Some.ensures in
    let preshared_key = c.in-Some-take_optional_key.ensures in
    let endpoint = c.in-Some-take_word.ensures in
    let allowed = c.in-Some-take_allowed.ensures in (
      4,
      refl,
      bad_later a_key (drop 1 peer_forms) _ _ _ 3 (sym c.new-fields.ensures ∙ key.0) (c.in-Some.key, key.1)
          (bad_later a_key_or_none (drop 2 peer_forms) _ _ _ 2 preshared_key.0 (c.in-Some-take_optional_key._preshared_key.1, preshared_key.1)
          (bad_later a_word (drop 3 peer_forms) _ _ _ 1 endpoint.1 endpoint.2
          (bad_later prefixes (drop 4 peer_forms) _ _ _ 0 allowed.2.1 (allowed.0, allowed.2.2)
          (bad_here a_count (drop 5 peer_forms) _ c.in_default-take_count.ensures)))),
    )

pub returns-in_default-take_count-2-clause-err : goal.returns-in_default-take_count-2-clause-err
returns-in_default-take_count-2-clause-err c =
    let key = c.in-Some.ensures in
    let preshared_key = c.in-Some-take_optional_key.ensures in
    let endpoint = c.in-Some-take_word.ensures in
    let allowed = c.in-Some-take_allowed.ensures in
    let handshake = c.in-Some-take_count.ensures in (
      5,
      refl,
      bad_later a_key (drop 1 peer_forms) _ _ _ 4 (sym c.new-fields.ensures ∙ key.0) (c.in-Some.key, key.1)
          (bad_later a_key_or_none (drop 2 peer_forms) _ _ _ 3 preshared_key.0 (c.in-Some-take_optional_key._preshared_key.1, preshared_key.1)
          (bad_later a_word (drop 3 peer_forms) _ _ _ 2 endpoint.1 endpoint.2
          (bad_later prefixes (drop 4 peer_forms) _ _ _ 1 allowed.2.1 (allowed.0, allowed.2.2)
          (bad_later a_count (drop 5 peer_forms) _ _ _ 0 handshake.1 (c.in-Some-take_count.handshake, handshake.2)
          (bad_here a_count (drop 6 peer_forms) _ c.in_default-take_count-2.ensures))))),
    )

pub returns-in_default-take_count-3-clause-err : goal.returns-in_default-take_count-3-clause-err
returns-in_default-take_count-3-clause-err c =
    let key = c.in-Some.ensures in
    let preshared_key = c.in-Some-take_optional_key.ensures in
    let endpoint = c.in-Some-take_word.ensures in
    let allowed = c.in-Some-take_allowed.ensures in
    let handshake = c.in-Some-take_count.ensures in
    let received = c.in-Some-take_count-2.ensures in (
      6,
      refl,
      bad_later a_key (drop 1 peer_forms) _ _ _ 5 (sym c.new-fields.ensures ∙ key.0) (c.in-Some.key, key.1)
          (bad_later a_key_or_none (drop 2 peer_forms) _ _ _ 4 preshared_key.0 (c.in-Some-take_optional_key._preshared_key.1, preshared_key.1)
          (bad_later a_word (drop 3 peer_forms) _ _ _ 3 endpoint.1 endpoint.2
          (bad_later prefixes (drop 4 peer_forms) _ _ _ 2 allowed.2.1 (allowed.0, allowed.2.2)
          (bad_later a_count (drop 5 peer_forms) _ _ _ 1 handshake.1 (c.in-Some-take_count.handshake, handshake.2)
          (bad_later a_count (drop 6 peer_forms) _ _ _ 0 received.1 (c.in-Some-take_count-2.received, received.2)
          (bad_here a_count (drop 7 peer_forms) _ c.in_default-take_count-3.ensures)))))),
    )

pub returns-in_default-take_keepalive-clause-err : goal.returns-in_default-take_keepalive-clause-err
returns-in_default-take_keepalive-clause-err c =
    let key = c.in-Some.ensures in
    let preshared_key = c.in-Some-take_optional_key.ensures in
    let endpoint = c.in-Some-take_word.ensures in
    let allowed = c.in-Some-take_allowed.ensures in
    let handshake = c.in-Some-take_count.ensures in
    let received = c.in-Some-take_count-2.ensures in
    let sent = c.in-Some-take_count-3.ensures in (
      7,
      refl,
      bad_later a_key (drop 1 peer_forms) _ _ _ 6 (sym c.new-fields.ensures ∙ key.0) (c.in-Some.key, key.1)
          (bad_later a_key_or_none (drop 2 peer_forms) _ _ _ 5 preshared_key.0 (c.in-Some-take_optional_key._preshared_key.1, preshared_key.1)
          (bad_later a_word (drop 3 peer_forms) _ _ _ 4 endpoint.1 endpoint.2
          (bad_later prefixes (drop 4 peer_forms) _ _ _ 3 allowed.2.1 (allowed.0, allowed.2.2)
          (bad_later a_count (drop 5 peer_forms) _ _ _ 2 handshake.1 (c.in-Some-take_count.handshake, handshake.2)
          (bad_later a_count (drop 6 peer_forms) _ _ _ 1 received.1 (c.in-Some-take_count-2.received, received.2)
          (bad_later a_count (drop 7 peer_forms) _ _ _ 0 sent.1 (c.in-Some-take_count-3.sent, sent.2)
          (bad_here a_keepalive (drop 8 peer_forms) _ c.in_default-take_keepalive.ensures))))))),
    )

pub returns-then-is_some-clause-err : goal.returns-then-is_some-clause-err
returns-then-is_some-clause-err c =
    let key = c.in-Some.ensures in
    let preshared_key = c.in-Some-take_optional_key.ensures in
    let endpoint = c.in-Some-take_word.ensures in
    let allowed = c.in-Some-take_allowed.ensures in
    let handshake = c.in-Some-take_count.ensures in
    let received = c.in-Some-take_count-2.ensures in
    let sent = c.in-Some-take_count-3.ensures in
    let keepalive = c.in-Some-take_keepalive.ensures in (
      8,
      refl,
      bad_later a_key (drop 1 peer_forms) _ _ _ 7 (sym c.new-fields.ensures ∙ key.0) (c.in-Some.key, key.1)
          (bad_later a_key_or_none (drop 2 peer_forms) _ _ _ 6 preshared_key.0 (c.in-Some-take_optional_key._preshared_key.1, preshared_key.1)
          (bad_later a_word (drop 3 peer_forms) _ _ _ 5 endpoint.1 endpoint.2
          (bad_later prefixes (drop 4 peer_forms) _ _ _ 4 allowed.2.1 (allowed.0, allowed.2.2)
          (bad_later a_count (drop 5 peer_forms) _ _ _ 3 handshake.1 (c.in-Some-take_count.handshake, handshake.2)
          (bad_later a_count (drop 6 peer_forms) _ _ _ 2 received.1 (c.in-Some-take_count-2.received, received.2)
          (bad_later a_count (drop 7 peer_forms) _ _ _ 1 sent.1 (c.in-Some-take_count-3.sent, sent.2)
          (bad_later a_keepalive (drop 8 peer_forms) _ _ _ 0 keepalive.1 (c.in-Some-take_keepalive.keepalive, keepalive.2)
          (bad_end _ _ c.next.result c.next.ensures (sym c.if-is_some.ensures))))))))),
    )

pub returns-clause-ok : goal.returns-clause-ok
returns-clause-ok c =
    let key = c.in-Some.ensures in
    let preshared_key = c.in-Some-take_optional_key.ensures in
    let endpoint = c.in-Some-take_word.ensures in
    let allowed = c.in-Some-take_allowed.ensures in
    let handshake = c.in-Some-take_count.ensures in
    let received = c.in-Some-take_count-2.ensures in
    let sent = c.in-Some-take_count-3.ensures in
    let keepalive = c.in-Some-take_keepalive.ensures in
    record {
      key_field = c.in-Some.key_text.now;
      preshared_field = c.in-Some-take_optional_key._preshared_key.0.now;
      endpoint_field = endpoint.0;
      allowed_field = allowed.2.0;
      handshake_field = handshake.0;
      received_field = received.0;
      sent_field = sent.0;
      keepalive_field = keepalive.0;
      fields = field_then _ _ _ _ (sym c.new-fields.ensures ∙ key.0)
          (field_then _ _ _ _ preshared_key.0
          (field_then _ _ _ _ endpoint.1
          (field_then _ _ _ _ allowed.2.1
          (field_then _ _ _ _ handshake.1
          (field_then _ _ _ _ received.1
          (field_then _ _ _ _ sent.1
          (field_then _ _ _ _ keepalive.1
          (at_end _ _ c.next.result c.next.ensures (sym c.if-is_some.ensures)))))))));
      key = key.1;
      preshared_key = (c.in-Some-take_optional_key._preshared_key.1, preshared_key.1);
      endpoint = endpoint.2;
      allowed = subst (λ ps. SpellsAllowed allowed.2.0 ps) (sym (meant_same SpellsMasked coded_prefix one_masked (left c.in-Some-take_allowed.items) _ allowed.0 ∣ allowed.1 ∣₁)) allowed.2.2;
      handshake = handshake.2;
      received = received.2;
      sent = sent.2;
      keepalive = keepalive.2;
    }
