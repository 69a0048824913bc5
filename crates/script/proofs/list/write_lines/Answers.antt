use Rattle.std.proofs.Common.{◌≡◌, ◌-◌, ◌<◌, ◌≤◌, ◌++◌, [], length, take, drop, sym, refl, ap, subst, ◌∙◌, arith}
use Rattle.std.specs.List.{All, concat}
use Rattle.std.proofs.lemmas.Bool.{eqb-false, eqb-true}
use Rattle.std.proofs.lemmas.List.{append_assoc, append-nil, length-take-le, take-append-drop, take_rest, length-drop}
use Rattle.std.proofs.lemmas.List.Elements.{All-cons, All-nil}
use lib.Seq.{drop-drop}
use Rattle.script.specs.Laws.{IsShort, IsListing}
use Rattle.script.specs.Scripts.{lines_of, listing, script_state}
use Rattle.script.specs.ScriptGroups.{script_group}
use Rattle.script.proofs.AnswerLines.{listing_law}
use Rattle.script.proofs.LinesLeft.{line_came, lines_new, lines_none, lines_some, lines_turn, lines_left, next_shorter}
use Rattle.script.proofs.LinesLeft.{put_drop, put_take}
use Rattle.script.proofs.list.write_lines.Goals as goal

-- at the beginning all lines are to come
pub lines-init : goal.lines-init
lines-init c =
    let all = ap lines_left c.new-script.ensures ∙ lines_new c.args.bytes.now in
    record {
      written = refl;
      behind = refl;
      room = omega (arith, ap length all, c.requires);
      each = λ short. short;
      short = omega arith;
    }

-- bytes are left, so a line is to come, and there is room for it
pub write_next-end-requires : goal.write_next-end-requires
write_next-end-requires c =
    let buffer = c.lines.buffer in
    let left = eqb-false (length c.lines.script.rest.now) 0 (sym c.lines-test.ensures) in
    let some : 0 < length c.lines.script.rest.now = omega arith in
    let follows = lines_some (script_state script_group c.lines.script) some in
    let part = ap length (take_rest buffer c.lines.end) ∙ length-drop c.lines.end buffer in
    record { room = omega (arith, part, follows, c.lines.invariant.room); some = some }

pub lines-smaller : goal.lines-smaller
lines-smaller c =
    let buffer = c.lines.buffer in
    let before = script_state script_group c.lines.script in
    let after = script_state script_group c.write_next-end.new.self in
    let came = line_came before after c.write_next-end.result
    (take (length buffer - c.lines.end) (drop c.lines.end buffer)) c.write_next-end.new.buffer
    c.write_next-end.ensures.value in
    next_shorter before after came.line came.comes

pub lines-preserved : goal.lines-preserved
lines-preserved c =
    let buffer = c.lines.buffer in
    let end = c.lines.end in
    let len = c.write_next-end.result in
    let k = length buffer - end in
    let before = script_state script_group c.lines.script in
    let after = script_state script_group c.write_next-end.new.self in
    let left = c.write_next-end.new.buffer in
    let within : end ≤ length buffer = omega (arith, c.lines.invariant.room) in
    let came = line_came before after len (take k (drop end buffer)) left c.write_next-end.ensures.value in
    let turn = lines_turn before after came.line came.comes in
    let more = concat (lines_left after) in
    record {
      written =
          ap (λ xs. xs ++ more) (put_take buffer came.line left end len k within refl came.long came.stands)
          ∙ append_assoc (take end buffer) came.line more
          ∙ ap (λ xs. take end buffer ++ concat xs) (sym turn) ∙ c.lines.invariant.written;
      behind =
          put_drop buffer came.line left end len k within refl came.long came.stands
          ∙ sym (drop-drop len end buffer) ∙ ap (drop len) c.lines.invariant.behind
          ∙ drop-drop len end c.args.buffer.now;
      each = λ more-short.
          let line_short : length came.line ≤ 96 = omega (arith, came.long, c.write_next-end.ensures.short) in
          c.lines.invariant.each (subst (All IsShort) (sym turn)
          (All-cons (λ line. length line ≤ 96) came.line (lines_left after) line_short more-short));
      room = omega (arith, ap length turn, c.lines.invariant.room, c.write_next-end.ensures.short);
      short = omega (arith, ap length turn, c.lines.invariant.short, c.write_next-end.ensures.short);
    }

-- at the end no lines are to come
none_to_come : (c : goal.After-lines) → lines_left (script_state script_group c.lines.script) ≡ []
none_to_come c = lines_none (script_state script_group c.lines.script)
    (eqb-true (length c.lines.script.rest.now) 0 (sym c.lines-test.ensures))

-- and all lines of the script were to come
all_to_come : (c : goal.After-lines) → lines_left (script_state script_group c.new-script.result)
    ≡ lines_of c.args.bytes.now
all_to_come c = ap lines_left c.new-script.ensures ∙ lines_new c.args.bytes.now

-- so what is written is the listing
all_written : (c : goal.After-lines) → take c.lines.end c.lines.buffer ≡ listing c.args.bytes.now
all_written c =
    let front = take c.lines.end c.lines.buffer in
    sym (append-nil front) ∙ ap (λ xs. front ++ concat xs) (sym (none_to_come c)) ∙ c.lines.invariant.written
    ∙ ap concat (all_to_come c)

length_written : (c : goal.After-lines) → c.lines.end ≡ length (listing c.args.bytes.now)
length_written c = sym (length-take-le c.lines.end c.lines.buffer (omega (arith, c.lines.invariant.room)))
    ∙ ap length (all_written c)

pub returns-clause-len : goal.returns-clause-len
returns-clause-len c = length_written c

pub returns-clause-text : goal.returns-clause-text
returns-clause-text c =
    let text = listing c.args.bytes.now in
    sym (take-append-drop c.lines.end c.lines.buffer) ∙ ap (λ xs. xs ++ drop c.lines.end c.lines.buffer) (all_written c)
    ∙ ap (λ xs. text ++ xs) (c.lines.invariant.behind ∙ ap (λ n. drop n c.args.buffer.now) (length_written c))

pub returns-clause-short : goal.returns-clause-short
returns-clause-short c = omega (arith, ap length (all_to_come c), c.lines.invariant.short)

-- at the end no lines are to come that could be long
each_short : (c : goal.After-lines) → All IsShort (lines_of c.args.bytes.now)
each_short c = subst (All IsShort) (all_to_come c)
    (c.lines.invariant.each (subst (All IsShort) (sym (none_to_come c)) (All-nil (λ line. length line ≤ 96))))

pub returns-clause-law : goal.returns-clause-law
returns-clause-law c =
    subst (IsListing c.args.bytes.now) (sym (all_written c))
    (listing_law c.args.bytes.now (λ i. let byte = c.type_inv.bytes i in omega arith) (each_short c))
