-- The lines of texts, what is written of lines that ended, and the figures of a service, by computation.
use Rattle.std.proofs.Common.{◌≡◌, Bool, false, cond, [], ◌∷◌, ◌++◌, Some, None, Ok, Err, ap, codes, refl}
use Rattle.std.specs.Fmt.{digits}
use Rattle.std.specs.Prelude.{string_bytes}
use Rattle.std.specs.declared.alloc.Global.{Global}
use Rattle.std.specs.declared.string.String.{String}
use Rattle.wgr_orders.specs.declared.refusal.OrderRefusal.TheVariants as refused
use Rattle.wgr_register.specs.declared.fault.Done.{Done}
use Rattle.wgr_register.specs.declared.fault.OrderFault.TheVariants as order_fault
use Rattle.wgr_sql.specs.declared.fault.Cause.{Cause}
use Rattle.wgr_sql.specs.declared.fault.Cause.TheVariants.{Damaged}
use Rattle.wgr_sql.specs.declared.fault.Fault.TheVariants as fault
use Rattle.wgr_words.specs.declared.field.WordField.TheVariants as field
use Rattle.wgr_words.specs.declared.line.LineFault.TheVariants as line_fault
use Rattle.wgr_show.specs.Metrics.{metric_line}
use Rattle.wgr_show.specs.declared.figures.Figures.{Figures}
use Rattle.wgr_service.specs.Connections.{Meeting, failed, failure_line, line_of, missed, unspelled}
use Rattle.wgr_service.specs.Lines.{ended_text, fault_text}
use Rattle.wgr_service.specs.Status.{status_text}
use Rattle.wgr_service.specs.Texts.{greatest, lines_in}
use Rattle.wgr_service.specs.declared.desk.Tally.{Tally}
use Rattle.wgr_service.specs.declared.network.Door.TheVariants as door
use Rattle.wgr_service.specs.declared.lines.LineEnd.TheVariants as line_end

-- ---- the lines of a text

pub no_text : lines_in [] ≡ []
no_text = refl

pub two_lines : lines_in (codes "one\ntwo\n") ≡ Some (codes "one") ∷ Some (codes "two") ∷ []
two_lines = refl

pub empty_line : lines_in (codes "one\n\ntwo\n") ≡ Some (codes "one") ∷ Some [] ∷ Some (codes "two") ∷ []
empty_line = refl

pub newline_alone : lines_in (codes "\n") ≡ Some [] ∷ []
newline_alone = refl

-- what comes after the last newline is an unfinished line
pub unfinished_line : lines_in (codes "one\ntwo") ≡ Some (codes "one") ∷ None ∷ []
unfinished_line = refl

pub unfinished_alone : lines_in (codes "one") ≡ None ∷ []
unfinished_alone = refl

-- ---- how a line ended

pub done : (done : Done) → ended_text (Ok done) ≡ codes "0 done\n"
done d = refl

pub refusal : ended_text (Err (order_fault.Refused refused.NameHeld)) ≡ codes "2 name_held\n"
refusal = refl

-- the tenant and the network whose pool it is are named
pub overlap : (tenant network : String Global) → string_bytes tenant ≡ codes "acme" → string_bytes network ≡ codes "office"
    → ended_text (Err (order_fault.Refused (refused.PoolOverlaps tenant network))) ≡ codes "2 pool_overlaps acme office\n"
overlap tenant network is_tenant is_network = rw (is_tenant, is_network) refl

-- the line doesn't say what was wrong with the store
pub store : (cause : Cause) → ended_text (Err (order_fault.Fault (fault.Store cause))) ≡ codes "1 store\n"
store cause = refl

pub bad_field : fault_text (line_fault.Field field.Capacity) ≡ codes "2 bad_field capacity\n"
bad_field = refl

pub bad_order : fault_text line_fault.NoOrder ≡ codes "2 bad_order\n"
bad_order = refl

-- ---- the status of several lines

pub no_lines : greatest [] ≡ 0
no_lines = refl

-- a refused line counts for more than one where the store failed, wherever it stands
pub refusal_before_a_fault : greatest (line_end.Unspelled line_fault.NoOrder ∷ line_end.Ended (Err (order_fault.Fault (fault.Store Damaged))) ∷ []) ≡ 2
refusal_before_a_fault = refl

-- ---- the figures of a service, each with another value

abbrev figures : Figures
figures = record { tenants = 16; tokens = 17; networks = 18; peers = 19; routes = 20 }

abbrev counted : Tally
counted = record {
  replies = record { done = 1; bad_request = 2; unauthorized = 3; forbidden = 4; not_found = 5; wrong_method = 6; conflict = 7; no_length = 8; too_large = 9; unavailable = 10 };
  orders = record { done = 11; failed = 12; refused = 13 };
  failed = 14;
  late = 15;
}

-- a name, a blank, and the number in decimal digits
pub line_of_a_figure : metric_line (codes "wgr_service_peers") 4096 ≡ codes "wgr_service_peers 4096\n"
unfolding digits
line_of_a_figure = refl

pub line_of_nothing : metric_line (codes "wgr_service_peers") 0 ≡ codes "wgr_service_peers 0\n"
unfolding digits
line_of_nothing = refl

pub lines_of_status : status_text 1796068800 counted figures 21 22 ≡ codes "wgr_service_start_time_seconds 1796068800\n"
    ++ codes "wgr_service_requests_total{status=\"200\"} 1\nwgr_service_requests_total{status=\"400\"} 2\n"
    ++ codes "wgr_service_requests_total{status=\"401\"} 3\nwgr_service_requests_total{status=\"403\"} 4\n"
    ++ codes "wgr_service_requests_total{status=\"404\"} 5\nwgr_service_requests_total{status=\"405\"} 6\n"
    ++ codes "wgr_service_requests_total{status=\"409\"} 7\nwgr_service_requests_total{status=\"411\"} 8\n"
    ++ codes "wgr_service_requests_total{status=\"413\"} 9\nwgr_service_requests_total{status=\"503\"} 10\n"
    ++ codes "wgr_service_orders_total{status=\"0\"} 11\nwgr_service_orders_total{status=\"1\"} 12\nwgr_service_orders_total{status=\"2\"} 13\n"
    ++ codes "wgr_service_failed_connections_total 14\nwgr_service_late_connections_total 15\n"
    ++ codes "wgr_service_tenants 16\nwgr_service_tokens 17\nwgr_service_networks 18\nwgr_service_peers 19\nwgr_service_routes 20\n"
    ++ codes "wgr_service_networks_in_memory 21\nwgr_service_files_in_memory 22\n"
unfolding digits
lines_of_status = refl

-- ---- what a connection writes to standard error

pub missed_request : line_of (missed door.Requests) ≡ codes "wgr: connection\n"
missed_request = refl

pub missed_order : line_of (missed door.Orders) ≡ codes "wgr: order\n"
missed_order = refl

-- nothing was done or written
pub failed_request : (m : Meeting) → m.door ≡ door.Requests → line_of (failed m) ≡ codes "wgr: connection\n"
failed_request m is = ap failure_line is

pub failed_order : (m : Meeting) → m.door ≡ door.Orders → line_of (failed m) ≡ codes "wgr: order\n"
failed_order m is = ap failure_line is

pub malformed_order : (m : Meeting) → m.write_failed ≡ false → line_of (unspelled m line_fault.NoOrder) ≡ []
malformed_order m wrote = ap (λ (b : Bool). cond b (failure_line m.door) []) wrote

pub no_memory_for_a_line : (m : Meeting) → m.write_failed ≡ false → line_of (unspelled m line_fault.NoMemory) ≡ codes "wgr: unavailable\n"
no_memory_for_a_line m wrote = ap (λ (b : Bool). cond b (failure_line m.door) (codes "wgr: unavailable\n")) wrote
