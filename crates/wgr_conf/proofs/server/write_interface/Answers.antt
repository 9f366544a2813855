use Rattle.std.proofs.Common.{◌≡◌, ◌++◌, ◌∙◌, ℕ, List, append_assoc, ap}
use Rattle.wgr_text.specs.Prefix.{PrefixValue}
use Rattle.wgr_conf.specs.Files.{port_line, server_address_line}
use Rattle.wgr_conf.proofs.server.write_interface.Goals as goal

-- three parts, one after another
parts : (old first second third x : List ℕ) (f : PrefixValue → List ℕ) (g : ℕ → List ℕ) (p q : PrefixValue) (i j : ℕ)
    → first ≡ old ++ x → second ≡ first ++ f p → third ≡ second ++ g i → p ≡ q → i ≡ j → third ≡ old ++ (x ++ f q ++ g j)
parts old first second third x f g p q i j at_first at_second at_third pools ports =
    at_third
    ∙ ap (λ t. t ++ g i) (at_second ∙ ap (λ t. t ++ f p) at_first ∙ append_assoc old x (f p))
    ∙ append_assoc old (x ++ f p) (g i)
    ∙ ap (λ (r : PrefixValue). old ++ (x ++ f r ++ g i)) pools
    ∙ ap (λ (k : ℕ). old ++ (x ++ f q ++ g k)) ports

pub returns : goal.returns
returns c =
    parts c.args.out.now.items _ _ _ _ (server_address_line c.args.form) port_line c.pool.result c.args.network.now.pool c.number.result c.args.network.now.port
    c.in_ok-write_line.ensures c.in_ok-write_server_address.ensures c.in_ok-write_port.ensures c.pool.ensures.value (c.number.ensures.value ∙ c.port.ensures)
