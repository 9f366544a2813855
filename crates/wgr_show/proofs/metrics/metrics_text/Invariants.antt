use Rattle.std.proofs.Common.{◌≡◌, flat_map, take, string_bytes}
use Rattle.wgr_show.specs.Metrics.{metric_line}
use Rattle.wgr_show.proofs.metrics.metrics_text.Given as goal

abbrev pub invariant-loop-metric : goal.invariant-loop-metric
invariant-loop-metric l = string_bytes l.text ≡ flat_map (λ metric. metric_line metric.0.now metric.1) (take l.metric-index l.metrics)
