use Rattle.std.proofs.Common.{ap, ◌∙◌, arith}
use Rattle.script.specs.declared.answer.Answer.{Answer}
use Rattle.script.specs.Scripts.{ScriptState, script_state}
use Rattle.script.proofs.NextAnswers.{next_answer_lines}
use Rattle.script.proofs.script.ScriptOver.write_next.Goals as goal

pub invariant_of-self : goal.invariant_of-self
invariant_of-self g c =
    let obeys = g.G.Obeys in
    let same = ap (λ (o : Answer × ScriptState obeys.State). o.1.lines) c.next_answer-answer.ensures.answer
    ∙ next_answer_lines obeys.obey_gives (script_state obeys.state c.args.self.now) in
    record { few = omega arith }
