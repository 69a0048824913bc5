use Rattle.std.specs.Prelude.{nat_lt}
use Rattle.std.proofs.Common.{◌+◌, false, length, sym, ap, arith}
use Rattle.std.proofs.lemmas.Bool.{eqb-true, lt-ltb}
use Rattle.script.specs.Scripts.{new_script}
use Rattle.script.proofs.Counts.{count_from, count_enough, count_few, count_none, count_turn, lines_count}
use Rattle.script.proofs.NextAnswers.{new_script_within}
use Rattle.script.proofs.list.count_lines.Goals as goal

pub overflow_add-count : goal.overflow_add-count
overflow_add-count c =
    let few = count_few (length c.script_of-rest.result.now) false c.script_of-rest.result.now in
    omega (arith, c.lines.invariant)

pub lines-preserved : goal.lines-preserved
lines-preserved c =
    let rest = c.rest_after-rest.result.now in
    let some_group = lt-ltb 0 (c.lines.count + 1) (omega arith) in
    let turn = count_turn (nat_lt 0 c.lines.count) c.lines.rest.now c.rest_after-rest.result.now (omega arith)
    c.rest_after-rest.ensures.left in
    omega (arith, turn, ap (λ m. count_from (length rest) m rest) some_group, c.lines.invariant)

pub returns-clause-count : goal.returns-clause-count
returns-clause-count c =
    let bytes = c.args.bytes.now in
    let rest = c.script_of-rest.result.now in
    let none = count_none (nat_lt 0 c.lines.count) c.lines.rest.now
    (eqb-true (length c.lines.rest.now) 0 (sym c.lines-test.ensures)) in
    let within = new_script_within bytes in
    let enough = count_enough (length rest) (length bytes) false rest (omega arith)
    (omega (arith, ap length c.script_of-rest.ensures.bytes)) in
    let whole = lines_count (length bytes) (new_script bytes) in
    omega (
      arith,
      none,
      c.lines.invariant,
      enough,
      whole,
      ap (count_from (length bytes) false) c.script_of-rest.ensures.bytes,
    )

pub returns-clause-few : goal.returns-clause-few
returns-clause-few c =
    let few = count_few (length c.script_of-rest.result.now) false c.script_of-rest.result.now in
    omega (arith, c.lines.invariant)
