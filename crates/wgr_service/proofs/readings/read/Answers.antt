use Rattle.wgr_service.proofs.readings.read.Goals as goal

pub returns-in-Status-clause-reads : goal.returns-in-Status-clause-reads
returns-in-Status-clause-reads g c = rw c.in-Status.is c.read_status.ensures

pub returns-in-Show-clause-reads : goal.returns-in-Show-clause-reads
returns-in-Show-clause-reads g c = rw c.in-Show.is c.read_entries.ensures
