use Rattle.wgr_conf.proofs.ServerReading.{routing_is_one, server_file_routes}
use Rattle.wgr_conf.proofs.laws.server_files_route.Goals as goal

pub returns : goal.returns
returns c = record { routes = server_file_routes; one = routing_is_one }
