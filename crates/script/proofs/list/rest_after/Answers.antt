use Rattle.script.proofs.Shorter.{read_shorter}
use Rattle.script.proofs.list.rest_after.Goals as goal

pub returns-in-Ok-clause-shorter : goal.returns-in-Ok-clause-shorter
returns-in-Ok-clause-shorter c = read_shorter c.args.bytes.now (c.in-Ok.command, c.in-Ok.rest.now) c.in-Ok.ensures.value
