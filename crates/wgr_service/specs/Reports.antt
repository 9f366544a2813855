-- What is printed of a connection.
use Rattle.std.specs.Prelude.{◌≡◌, ◌⊎◌, Bool, true, false, []}
use Rattle.wgr_model.specs.Register.{Bytes}
use Rattle.wgr_service.specs.Connections.{failure_line, unavailable_line}
use Rattle.wgr_service.specs.declared.network.Door.{Door}
use Rattle.wgr_service.specs.declared.report.Report.{Report}
use Rattle.wgr_service.specs.declared.report.Report.TheVariants as report

-- the report of a connection that was answered
abbrev pub IsReport : Bool → Report → Type 0
IsReport true r = r ≡ report.Fine
IsReport false r = (r ≡ report.Unavailable) ⊎ (r ≡ report.Shut)

abbrev pub report_line : Door → Report → Bytes
report_line door report.Fine = []
report_line door report.Unavailable = unavailable_line
report_line door report.Shut = unavailable_line
report_line door report.Failed = failure_line door
