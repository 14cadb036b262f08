use Rattle.zic_bulk.proofs.WayLemmas.{symbolic_leads}
use Rattle.zic_bulk.proofs.laws.symbolic_links_lead_to_zones.Goals as goal

pub returns : goal.returns
returns c = symbolic_leads
