-- How a script goes on as the listing over the group that its layout made.
use Rattle.std.proofs.Common.{◌≡◌, ℕ, ◌+◌, List, [], ◌∷◌, ◌++◌, length, get_or, take, Some, Ok, Err, Result, sym, refl}
use Rattle.std.proofs.Common.{ap, ◌∙◌, arith}
use Rattle.std.proofs.Math.Seq.{take-append-add}
use Rattle.std.proofs.lemmas.List.{length-append}
use Rattle.stamps.specs.declared.refusal.Refusal.{Refusal}
use Rattle.group.specs.Model.Groups.{GroupState}
use Rattle.script.specs.declared.command.Command.{Command}
use Rattle.script.specs.declared.command.Command.TheVariants.{Layout}
use Rattle.script.specs.Commands.{read_command}
use Rattle.script.specs.Writing.{OperandsFit, bytes_of}
use Rattle.script.proofs.BytesOf.{bytes_of-read}
use Rattle.script.specs.declared.choice.Clock.{Clock}
use Rattle.script.specs.declared.choice.Marks.{Marks}
use Rattle.script.specs.declared.answer.Answer.{Answer}
use Rattle.script.specs.declared.answer.Answer.TheVariants.{Done}
use Rattle.script.specs.Lines.{line_of}
use Rattle.script.specs.Listings.{GoesOnAsScript, after_layout, as_script, line_as_script}
use Rattle.script.specs.Scripts.{Obey, ScriptState, new_script, next, next_at, counted_line, next_answer, after_read}
use Rattle.script.specs.Scripts.{after_obey}
use Rattle.script.specs.CommandCalls.{perform}
use Rattle.script.specs.ScriptGroups.{ScriptGroup, clock_rule_of, as_some_group, some_group, make_group, mark_kind_of}
use Rattle.script.specs.ScriptGroups.{obey, answer_of_making}
use Rattle.script.proofs.NextAnswers.{next_is, read_obeyed}

-- after its layout a script stands where the listing over the group that was made begins
begins : (sites partitions clock_letter marks_letter : ℕ) (bytes : List ℕ) (clock : Clock) (marks : Marks)
    (g : GroupState) →
    let layout = Layout sites partitions clock_letter marks_letter in
    OperandsFit layout → make_group layout ≡ Ok (some_group clock marks g)
    → next obey (new_script (bytes_of layout ++ bytes))
    ≡ Some (line_of 1 76 Done, as_script clock marks (after_layout g bytes))
begins sites partitions clock_letter marks_letter bytes clock marks g fits makes =
    sym (next_is obey s 76 (omega (arith, long)) (ap (λ r. get_or r 0 0) is))
    ∙ ap (λ o. Some (counted_line 76 o)) (sym step)
  where
    layout : Command
    layout = Layout sites partitions clock_letter marks_letter

    s : ScriptState ScriptGroup
    s = new_script (bytes_of layout ++ bytes)

    rest : List ℕ
    rest = take 65530 bytes

    is : s.rest ≡ bytes_of layout ++ rest
    is = take-append-add (bytes_of layout) bytes 65530

    long : length s.rest ≡ 5 + length rest
    long = ap length is ∙ length-append (bytes_of layout) rest

    step : after_obey s rest (Ok Done, some_group clock marks g) ≡ next_answer obey s
    step = read_obeyed obey s layout rest (Ok Done, some_group clock marks g)
        (sym (ap read_command is ∙ bytes_of-read layout rest fits)) (sym (ap answer_of_making makes))

-- a script that has made its group goes on as the listing over this group
then_alike : (clock : Clock) (marks : Marks) (s : ScriptState GroupState)
    → next obey (as_script clock marks s) ≡ line_as_script clock marks
    (next (perform (clock_rule_of clock) (mark_kind_of marks)) s)
then_alike clock marks s = by_rest s.rest
  where
    performing : Obey GroupState
    performing = perform (clock_rule_of clock) (mark_kind_of marks)

    by_outcome : (letter : ℕ) (rest : List ℕ) (outcome : Result Answer Refusal × GroupState)
        → Some (counted_line letter (after_obey (as_script clock marks s) rest (as_some_group clock marks outcome)))
        ≡ line_as_script clock marks (Some (counted_line letter (after_obey s rest outcome)))
    by_outcome letter rest (Ok answer, g) = refl
    by_outcome letter rest (Err why, g) = refl

    by_read : (letter : ℕ) (r : Result (Command × List ℕ) Refusal)
        → Some (counted_line letter (after_read obey (as_script clock marks s) r))
        ≡ line_as_script clock marks (Some (counted_line letter (after_read performing s r)))
    by_read letter (Err why) = refl
    by_read letter (Ok (command, rest)) = by_outcome letter rest (performing s.group command)

    by_rest : (bytes : List ℕ)
        → next_at obey (as_script clock marks s) bytes ≡ line_as_script clock marks (next_at performing s bytes)
    by_rest [] = refl
    by_rest (letter ∷ bytes) = by_read letter (read_command s.rest)

pub goes_on_as_script : GoesOnAsScript
goes_on_as_script = record { begins = begins; then_alike = then_alike }
