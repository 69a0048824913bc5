use Rattle.std.proofs.Common.{◌*◌, ◌/◌, length, sym, ◌∙◌, arith}
use Rattle.std.proofs.lemmas.Bool.{le-leb}
use Rattle.script.specs.Scripts.{lines_of}
use Rattle.script.proofs.Counts.{lines_few}
use Rattle.script.proofs.list.has_room.Goals as goal

pub returns-then-lines-bytes : goal.returns-then-lines-bytes
returns-then-lines-bytes c =
    let bytes = c.args.bytes.now in
    let few = lines_few bytes in
    le-leb (length bytes) (c.args.len / 96) (omega arith)
    ∙ sym (le-leb (96 * length (lines_of bytes)) c.args.len (omega arith))
