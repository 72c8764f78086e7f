use Rattle.demands.proofs.Listing.{listing-kept}
use Rattle.demands.proofs.demand_listing.Goals as goal

pub returns : goal.returns
returns c = listing-kept c.list_table.ensures
