-- The replies to each tenant's connections, and how many there are of each status.
use Rattle.std.specs.Prelude.{◌≡◌, ◌+◌, ◌==◌, ◌<◌, ◌^◌, Bool, List, None, Option, Some, count_by, false, map}
use Rattle.wgr_http.specs.StatusCode.{status_number}
use Rattle.wgr_http.specs.declared.status_code.StatusCode.{StatusCode}
use Rattle.wgr_model.specs.Register.{Bytes}
use Rattle.wgr_model.specs.RowLaws.{HasOneRow, rows_view}
use Rattle.wgr_model.specs.Rows.{Tables}
use Rattle.wgr_model.specs.Runs.{Served, acknowledged}
use Rattle.wgr_model.specs.Tenants.{own_events, tenant_run}
use Rattle.wgr_office.specs.Worlds.{IsWorld, World, own_replies, replies_in}
use Rattle.wgr_show.specs.Figures.{capped}
use Rattle.wgr_service.specs.Connections.{Exchange, ConnectionEnd, given_answer, asked_event, counted_all, status_in}
use Rattle.wgr_service.specs.Counts.{count_of}
use Rattle.wgr_service.specs.declared.desk.Replies.{Replies}

-- these messages, answered in turn on a register with these rows
abbrev pub world_of : Tables → List Exchange → List Served → Tables → World
world_of rows xs served after = record { rows = rows; asked = map asked_event xs; answers = map given_answer xs; served = served; after = after }

-- For every tenant, the replies to the connections whose request is the tenant's are, byte for byte,
-- those that its own requests give on its own rows alone, and so are its rows at the end, leaving out
-- requests answered Unavailable; and no two peers have the same address.
abbrev pub ConnectionsAreApart : Type 0
ConnectionsAreApart = (rows after : Tables) (xs : List Exchange) (served : List Served) → IsWorld (world_of rows xs served after)
    → ((tenant : Bytes) → (replies_in tenant (world_of rows xs served after) ≡ own_replies tenant (rows_view rows tenant) (own_events tenant (rows_view rows tenant) (acknowledged served)))
    × ((tenant_run tenant (rows_view rows tenant) (acknowledged served)).1 ≡ rows_view after tenant))
    × HasOneRow after

-- whether this is the status
abbrev pub is_status : StatusCode → Option StatusCode → Bool
is_status code None = false
is_status code (Some other) = status_number other == status_number code

-- The count of each status grows by the replies that were written with it, and by no other outcome; it stays at the
-- greatest number of 64 bits.
abbrev pub EachIsCounted : Type 0
EachIsCounted = (code : StatusCode) (outcomes : List ConnectionEnd) (before : Replies) → count_of code before < 2 ^ 64
    → count_of code (counted_all outcomes before) ≡ capped (count_of code before + count_by (λ outcome. is_status code (status_in outcome)) outcomes)
