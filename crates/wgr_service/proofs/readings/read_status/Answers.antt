use Rattle.std.proofs.Common.{subst, sym}
use Rattle.wgr_service.specs.Readings.{HasFigures, HasReadRows}
use Rattle.wgr_words.specs.Reading.{Status}
use Rattle.wgr_service.proofs.ReadingLemmas.{reads_status}
use Rattle.wgr_service.proofs.readings.read_status.Goals as goal

pub returns-in-Ok : goal.returns-in-Ok
returns-in-Ok g c =
    let counted : HasFigures c.in-Ok.census c.figures_of-figures.result = record {
      tenants = c.figures_of-figures.ensures.tenants;
      tokens = c.figures_of-figures.ensures.tokens;
      networks = c.figures_of-figures.ensures.networks;
      peers = c.figures_of-figures.ensures.peers;
      routes = c.figures_of-figures.ensures.routes;
    } in
    subst (HasReadRows g.S.Store c.args.office.now c.census.new.self Status) (sym c.shown.ensures)
    (reads_status g.S.Store c.args.office.now c.census.new.self c.in-Ok.census c.in-Ok.ensures.keeps c.in-Ok.ensures.listed c.figures_of-figures.result c.args.desk.now.started c.loaded-loaded.result c.cached-cached.result c.args.desk.now.tally c.status_text.result counted c.status_text.ensures)
