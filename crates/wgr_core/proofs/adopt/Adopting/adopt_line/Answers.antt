use Rattle.std.proofs.Common.{◌≡◌, [], List, Option, Some, None, slice_index_or, sym, ap, subst, ◌∙◌}
use Rattle.wgr_text.specs.declared.addr.Family.TheVariants.{V4}
use Rattle.wgr_text.specs.declared.key.Key.{Key}
use Rattle.wgr_peers.specs.declared.peer.Peer.{Peer}
use Rattle.wgr_core.specs.Adoption.{adopt_line_of, keyed_peer}
use Rattle.wgr_core.specs.Draft.{AdoptingValue, MeetsLine, left_by}
use Rattle.wgr_core.proofs.adopt.Adopting.adopt_line.Goals as goal

-- a peer, to read a list by
abbrev some_peer : Key → Peer
some_peer key = record { number = 0; key = key; label = []; address = record { family = V4; number = 0 }; second = None; until = 0; keepalive = 0; status = None }

pub returns-in-Some : goal.returns-in-Some
returns-in-Some c =
    let key = c.args.line.now.key in
    let d = some_peer key in
    let s = c.args.self.now.so_far in
    let same : c.peers.result.now ≡ s.network.peers = c.peers.ensures ∙ ap (λ (a : AdoptingValue). a.so_far.network.peers) c.self.view_is in
    let found : keyed_peer s.network.peers key ≡ Some (slice_index_or s.network.peers c.in-Some.place d) =
    subst (λ (ps : List Peer). keyed_peer ps key ≡ Some (slice_index_or ps c.in-Some.place d)) same (c.in-Some.ensures.value d) in
    subst (λ (o : Option Peer). MeetsLine c.args.self.now (left_by c.note_status.result c.note_status.new.self) (adopt_line_of s c.args.line.now o)) (sym found) (c.note_status.ensures d)

pub returns-in-None : goal.returns-in-None
returns-in-None c =
    let key = c.args.line.now.key in
    let s = c.args.self.now.so_far in
    let same : c.peers.result.now ≡ s.network.peers = c.peers.ensures ∙ ap (λ (a : AdoptingValue). a.so_far.network.peers) c.self.view_is in
    let none : keyed_peer s.network.peers key ≡ None = subst (λ (ps : List Peer). keyed_peer ps key ≡ None) same (c.in-None.ensures.value (some_peer key)) in
    subst (λ (o : Option Peer). MeetsLine c.args.self.now (left_by c.add_line.result c.add_line.new.self) (adopt_line_of s c.args.line.now o)) (sym none) c.add_line.ensures
