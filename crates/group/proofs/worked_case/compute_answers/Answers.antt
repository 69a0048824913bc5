use Rattle.std.proofs.Common.{refl}
use Rattle.group.proofs.worked_case.compute_answers.Goals as goal

pub returns : goal.returns
returns c = refl
