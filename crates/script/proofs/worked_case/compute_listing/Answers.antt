use Rattle.std.proofs.Common.{refl}
use Rattle.std.specs.Fmt.{digits}
use Rattle.script.proofs.worked_case.compute_listing.Goals as goal

pub returns : goal.returns
unfolding digits
returns c = refl
