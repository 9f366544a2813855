-- The status and the fact of each refusal of a network.
use Rattle.std.specs.Prelude.{ℕ, Option, Some, None, codes}
use Rattle.serde_json.specs.Data.{Members, member, no_members}
use Rattle.wgr_core.specs.declared.refusal.CommandRefusal.{CommandRefusal}
use Rattle.wgr_core.specs.declared.refusal.Refusal.{Refusal}
use Rattle.wgr_core.specs.declared.refusal.Refusal.TheVariants as refusal
use Rattle.wgr_http.specs.declared.status_code.StatusCode.{StatusCode}
use Rattle.wgr_http.specs.declared.status_code.StatusCode.TheVariants.{NotFound, Conflict}
use Rattle.wgr_json.specs.Values.{count}

-- what isn't there is not found (RFC 9110 section 15.5.5); what the network's state refuses is a
-- conflict (section 15.5.10)
abbrev pub reason_status : Refusal → StatusCode
reason_status refusal.NoSuchPeer = NotFound
reason_status (refusal.KeyHeld number) = Conflict
reason_status refusal.AddressHeld = Conflict
reason_status refusal.OutsidePool = Conflict
reason_status refusal.PoolFull = Conflict
reason_status refusal.CapacityReached = Conflict
reason_status refusal.NumbersSpent = Conflict
reason_status refusal.IsAddress = Conflict
reason_status refusal.NoSuchRoute = NotFound
reason_status refusal.RoutesFull = Conflict
reason_status refusal.NobodysAddress = NotFound
reason_status refusal.LeaseOver = Conflict
reason_status refusal.ServerKey = Conflict
reason_status refusal.WrongServer = Conflict

abbrev pub refusal_status : CommandRefusal → StatusCode
refusal_status refused = reason_status refused.why

-- the members other than the name: the peer that holds the key
abbrev pub reason_facts : Refusal → Members
reason_facts refusal.NoSuchPeer = no_members
reason_facts (refusal.KeyHeld number) = member (codes "number") (count number) no_members
reason_facts refusal.AddressHeld = no_members
reason_facts refusal.OutsidePool = no_members
reason_facts refusal.PoolFull = no_members
reason_facts refusal.CapacityReached = no_members
reason_facts refusal.NumbersSpent = no_members
reason_facts refusal.IsAddress = no_members
reason_facts refusal.NoSuchRoute = no_members
reason_facts refusal.RoutesFull = no_members
reason_facts refusal.NobodysAddress = no_members
reason_facts refusal.LeaseOver = no_members
reason_facts refusal.ServerKey = no_members
reason_facts refusal.WrongServer = no_members

-- a refused line of a dump has its number in their place
abbrev pub line_or : Option ℕ → Members → Members
line_or None facts = facts
line_or (Some line) facts = member (codes "line") (count line) no_members

abbrev pub refusal_facts : CommandRefusal → Members
refusal_facts refused = line_or refused.line (reason_facts refused.why)
