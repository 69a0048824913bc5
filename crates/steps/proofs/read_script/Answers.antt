use Rattle.std.proofs.Common.{rules}
use Rattle.steps.proofs.Listed.{first_read}
use Rattle.steps.proofs.read_script.Goals as goal

pub returns : goal.returns
returns g c =
    first_read (g.R.Read.remaining c.args.reader.now) c.take.result.limit c.new-script.result.items
    c.read_to_end.new.buf.items (search rules) (search rules)
    (rw c.take.ensures.inner at c.in_ok-read_to_end.ensures.bytes)
