use Rattle.script.proofs.ListingSteps.{goes_on_as_script}
use Rattle.script.proofs.listing.Listing+C+K.new.Goals as goal

pub returns-clause-continues : goal.returns-clause-continues
returns-clause-continues g c = goes_on_as_script
