use Rattle.wgr_model.proofs.OrderRowLemmas.{networks_gain, networks_lose, tenants_gain, tokens_gain, tokens_lose}
use Rattle.wgr_model.proofs.laws.orders_change_rows.Goals as goal

pub returns : goal.returns
returns c = record { tenants_gain = tenants_gain; tokens_gain = tokens_gain; tokens_lose = tokens_lose; networks_gain = networks_gain; networks_lose = networks_lose }
