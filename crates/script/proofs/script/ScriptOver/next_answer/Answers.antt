use Rattle.std.proofs.Common.{arith}
use Rattle.script.proofs.Shorter.{read_shorter}
use Rattle.script.proofs.script.ScriptOver.next_answer.Goals as goal

pub invariant_of-self : goal.invariant_of-self
invariant_of-self g c =
    let fewer = read_shorter c.args.self.now.rest.now (c.in-Ok.first.0, c.in-Ok.first.1.now) c.in-Ok.ensures.value in
    record { few = omega arith }

pub returns-in-Ok-obey-clause-shorter : goal.returns-in-Ok-obey-clause-shorter
returns-in-Ok-obey-clause-shorter g c =
    let fewer = read_shorter c.args.self.now.rest.now (c.in-Ok.first.0, c.in-Ok.first.1.now) c.in-Ok.ensures.value in
    omega arith
