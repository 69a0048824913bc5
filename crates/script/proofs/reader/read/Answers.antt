use Rattle.std.proofs.Common.{◌≡◌, arith}
use Rattle.std.proofs.lemmas.Grind.{common_steps}
use Rattle.script.specs.Commands.{read_command, command_and_rest}
use Rattle.script.proofs.BytesOf.{reader_law}
use Rattle.script.proofs.reader.read.Goals as goal

pub returns-clause-law : goal.returns-clause-law
returns-clause-law c =
    let value : command_and_rest c.read_operands.result ≡ read_command c.args.script.now =
    grind (arith, common_steps) in
    reader_law c.args.script.now _ (λ i. let byte = c.type_inv.script i in omega arith) value
