-- The figures of a service, as lines of a Prometheus text file.
use Rattle.std.specs.Prelude.{ℕ, List, [], ◌∷◌, codes, flat_map}
use Rattle.wgr_model.specs.Register.{Bytes}
use Rattle.wgr_show.specs.Metrics.{metric_line}
use Rattle.wgr_show.specs.declared.figures.Figures.{Figures}
use Rattle.wgr_service.specs.declared.desk.Tally.{Tally}

-- when the service began (seconds since 1970-01-01), what it served, what its register has, and how many networks and
-- servers' files are in memory
abbrev pub figures_of : ℕ → Tally → Figures → ℕ → ℕ → List (Bytes × ℕ)
figures_of started tally register loaded cached =
    (codes "wgr_service_start_time_seconds", started)
    ∷ (codes "wgr_service_requests_total{status=\"200\"}", tally.replies.done)
    ∷ (codes "wgr_service_requests_total{status=\"400\"}", tally.replies.bad_request)
    ∷ (codes "wgr_service_requests_total{status=\"401\"}", tally.replies.unauthorized)
    ∷ (codes "wgr_service_requests_total{status=\"403\"}", tally.replies.forbidden)
    ∷ (codes "wgr_service_requests_total{status=\"404\"}", tally.replies.not_found)
    ∷ (codes "wgr_service_requests_total{status=\"405\"}", tally.replies.wrong_method)
    ∷ (codes "wgr_service_requests_total{status=\"409\"}", tally.replies.conflict)
    ∷ (codes "wgr_service_requests_total{status=\"411\"}", tally.replies.no_length)
    ∷ (codes "wgr_service_requests_total{status=\"413\"}", tally.replies.too_large)
    ∷ (codes "wgr_service_requests_total{status=\"503\"}", tally.replies.unavailable)
    ∷ (codes "wgr_service_orders_total{status=\"0\"}", tally.orders.done)
    ∷ (codes "wgr_service_orders_total{status=\"1\"}", tally.orders.failed)
    ∷ (codes "wgr_service_orders_total{status=\"2\"}", tally.orders.refused)
    ∷ (codes "wgr_service_failed_connections_total", tally.failed)
    ∷ (codes "wgr_service_late_connections_total", tally.late)
    ∷ (codes "wgr_service_tenants", register.tenants)
    ∷ (codes "wgr_service_tokens", register.tokens)
    ∷ (codes "wgr_service_networks", register.networks)
    ∷ (codes "wgr_service_peers", register.peers)
    ∷ (codes "wgr_service_routes", register.routes)
    ∷ (codes "wgr_service_networks_in_memory", loaded)
    ∷ (codes "wgr_service_files_in_memory", cached)
    ∷ []

abbrev pub status_text : ℕ → Tally → Figures → ℕ → ℕ → Bytes
status_text started tally register loaded cached = flat_map (λ figure. metric_line figure.0 figure.1) (figures_of started tally register loaded cached)
