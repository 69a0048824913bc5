-- The lines of a script are those of what its commands answer.
use Rattle.std.proofs.Common.{◌≡◌, ℕ, zero, suc, ◌+◌, ◌<◌, leb, List, [], ◌∷◌, ◌++◌, length, get_or, take, drop, map}
use Rattle.std.proofs.Common.{Some, None, Ok, Err, Option, Result, sym, refl, ap, subst, ◌∙◌, arith}
use Rattle.std.specs.List.{All, concat}
use Rattle.std.proofs.lemmas.Bool.{cond_both}
use Rattle.std.proofs.lemmas.List.{append_assoc, get_or_append_left, get_or-append-add, length-append}
use Rattle.std.proofs.lemmas.List.Elements.{All-cons, All-head, All-nil, All-tail}
use Rattle.stamps.specs.declared.refusal.Refusal.{Refusal}
use Rattle.stamps.specs.declared.refusal.Refusal.TheVariants.{ShortCommand}
use Rattle.script.specs.declared.command.Command.{Command}
use Rattle.script.specs.declared.command.Command.TheVariants.{Layout}
use Rattle.script.specs.Commands.{Form, form_of, read_command, read_operands}
use Rattle.script.specs.Writing.{OperandsFit, bytes_of}
use Rattle.script.proofs.Numbers.{BytesAt}
use Rattle.script.proofs.Shorter.{read_shorter}
use Rattle.script.proofs.BytesOf.{read_command-bytes, bytes_of-read}
use Rattle.script.specs.declared.answer.Answer.{Answer}
use Rattle.script.specs.declared.answer.Answer.TheVariants.{Refused}
use Rattle.script.specs.Laws.{IsShort, IsScript, IsListing, answers, answers_from, letter_of, lines_for, answer_lines}
use Rattle.script.specs.Laws.{rest_answers, reading_refusal}
use Rattle.script.specs.Lines.{line_of}
use Rattle.script.specs.Scripts.{ScriptState, new_script, end_with, lines_of, listing, counted_line, script_of}
use Rattle.script.specs.Scripts.{next_answer, after_read, after_obey}
use Rattle.script.specs.ScriptGroups.{ScriptGroup, obey}
use Rattle.script.proofs.LinesLeft.{lines_left, lines_new, lines_none, lines_turn}
use Rattle.script.proofs.NextAnswers.{next_is, read_obeyed}

-- a command is written in at least one byte
length-bytes_of : (c : Command) → 0 < length (bytes_of c)
length-bytes_of (Layout sites partitions clock marks) = omega arith
length-bytes_of command = omega arith

-- why a rest is not read
read_refused : (letter : ℕ) (bytes : List ℕ) (why : Refusal) → read_command (letter ∷ bytes) ≡ Err why
    → why ≡ reading_refusal (form_of letter)
read_refused letter bytes why = by_form (form_of letter)
  where
    by_form : (f : Option Form) → read_operands f bytes ≡ Err why → why ≡ reading_refusal f
    by_form None e = cc
    by_form (Some f) e =
        cond_both (leb f.width (length bytes)) (Ok (f.make bytes, drop f.width bytes)) (Err ShortCommand)
        (λ r. r ≡ Err why → why ≡ ShortCommand)
        (λ _ e. absurd cc) (λ _ e. cc) e

-- what begins no command is not read
not_read : (rest : List ℕ) → BytesAt rest → ((command : Command) (after : List ℕ) → OperandsFit command
    → rest ≡ bytes_of command ++ after → ⊥)
    → (why : Refusal) × (read_command rest ≡ Err why)
not_read rest h ends = by_read (read_command rest) refl
  where
    by_read : (r : Result (Command × List ℕ) Refusal) → read_command rest ≡ r
        → (why : Refusal) × (read_command rest ≡ Err why)
    by_read (Err why) e = (why, e)
    by_read (Ok p) e = let w = read_command-bytes rest p h e in absurd (ends p.0 p.1 w.0 w.1)

-- the lines that follow, from the step
lines_step : (s : ScriptState ScriptGroup) (letter : ℕ) (outcome : Answer × ScriptState ScriptGroup) → 0 < length s.rest
    → get_or s.rest 0 0 ≡ letter → next_answer obey s ≡ outcome
    → lines_left s ≡ (counted_line letter outcome).0 ∷ lines_left (counted_line letter outcome).1
lines_step s letter outcome some first is =
    lines_turn s (counted_line letter outcome).1 (counted_line letter outcome).0
    (sym (next_is obey s letter some first) ∙ ap (λ o. Some (counted_line letter o)) is)

-- a refusal that ends the listing is its last line
lines_end : (s : ScriptState ScriptGroup) (letter : ℕ) (rest : List ℕ) (group : ScriptGroup) (why : Refusal)
    → 0 < length s.rest → get_or s.rest 0 0 ≡ letter
    → next_answer obey s ≡ end_with (record { rest = rest; lines = s.lines; group = group }) why
    → lines_left s ≡ line_of (s.lines + 1) letter (Refused why) ∷ []
lines_end s letter rest group why some first is =
    let ended : ScriptState ScriptGroup = record { rest = rest; lines = s.lines; group = group } in
    lines_step s letter (end_with ended why) some first is
    ∙ ap (λ more. line_of (s.lines + 1) letter (Refused why) ∷ more)
    (lines_none (counted_line letter (end_with ended why)).1 refl)

-- the lines of a rest that begins no command
rest_lines : (s : ScriptState ScriptGroup) (rest : List ℕ) → s.rest ≡ rest → BytesAt rest
    → ((command : Command) (after : List ℕ) → OperandsFit command → rest ≡ bytes_of command ++ after → ⊥)
    → lines_left s ≡ answer_lines (s.lines + 1) (rest_answers rest)
rest_lines s [] is h ends = lines_none s (ap length is)
rest_lines s (b ∷ bytes) is h ends =
    let no = not_read (b ∷ bytes) h ends in
    lines_end s b s.rest s.group no.0 (omega (arith, ap length is)) (ap (λ r. get_or r 0 0) is)
    (ap (after_read obey s) (ap read_command is ∙ no.1))
    ∙ ap (λ why. line_of (s.lines + 1) b (Refused why) ∷ []) (read_refused b bytes no.0 no.1)

-- bytes after bytes
bytes_after : (front rest : List ℕ) → BytesAt (front ++ rest) → BytesAt rest
bytes_after front rest h i = let at = get_or-append-add front rest i 0 in let byte = h (length front + i) in omega arith

-- the lines of a command that is read, and of what comes after it
command_lines : (command : Command) (left : List ℕ) (s : ScriptState ScriptGroup)
    (more : ScriptGroup → List (ℕ × Answer)) → OperandsFit command → s.rest ≡ bytes_of command ++ left
    → ((group : ScriptGroup) → lines_left (record { rest = left; lines = s.lines + 1; group = group })
    ≡ answer_lines (s.lines + 1 + 1) (more group))
    → lines_left s ≡ answer_lines (s.lines + 1) (answers_from (letter_of command) more (obey s.group command))
command_lines command left s more fits is then = by_outcome (obey s.group command) refl
  where
    by_answer : (outcome : Result Answer Refusal × ScriptGroup) → 0 < length s.rest
        → get_or s.rest 0 0 ≡ letter_of command → next_answer obey s ≡ after_obey s left outcome
        → lines_left s ≡ answer_lines (s.lines + 1) (answers_from (letter_of command) more outcome)
    by_answer (Ok answer, group) some first step =
        lines_step s (letter_of command) (answer, record { rest = left; lines = s.lines; group = group }) some first
        step
        ∙ ap (λ lines. line_of (s.lines + 1) (letter_of command) answer ∷ lines) (then group)
    by_answer (Err why, group) some first step = lines_end s (letter_of command) s.rest group why some first step

    by_outcome : (outcome : Result Answer Refusal × ScriptGroup) → outcome ≡ obey s.group command
        → lines_left s ≡ answer_lines (s.lines + 1) (answers_from (letter_of command) more outcome)
    by_outcome outcome e =
        let some : 0 < length s.rest =
        omega (arith, ap length is, length-append (bytes_of command) left, length-bytes_of command) in
        let first : get_or s.rest 0 0 ≡ letter_of command = ap (λ r. get_or r 0 0) is
        ∙ get_or_append_left (bytes_of command) left 0 0 (length-bytes_of command) in
        let step = sym (read_obeyed obey s command left outcome
        (sym (ap read_command is ∙ bytes_of-read command left fits)) e) in
        by_answer outcome some first step

-- the lines of commands and a rest are those of what they answer
answered_lines : (commands : List Command) (rest : List ℕ) (s : ScriptState ScriptGroup) → IsScript s.rest commands rest
    → BytesAt s.rest
    → lines_left s ≡ answer_lines (s.lines + 1) (answers s.group commands rest)
answered_lines [] rest s i h = rest_lines s rest i.bytes (let same : BytesAt rest = rw (← i.bytes) h in same) i.ends
answered_lines (command ∷ commands) rest s i h =
    let left = concat (map bytes_of commands) ++ rest in
    let whole : s.rest ≡ bytes_of command ++ left = i.bytes
    ∙ append_assoc (bytes_of command) (concat (map bytes_of commands)) rest in
    let later : IsScript left commands rest =
    record { fits = All-tail OperandsFit command commands i.fits; bytes = refl; ends = i.ends } in
    let all : BytesAt (bytes_of command ++ left) = rw (← whole) h in
    command_lines command left s (λ group. answers group commands rest) (All-head OperandsFit command commands i.fits)
    whole
    (λ group. answered_lines commands rest (record { rest = left; lines = s.lines + 1; group = group }) later
    (bytes_after (bytes_of command) left all))

-- every script is commands and a rest
every_script : (n : ℕ) (script : List ℕ) → length script < n → BytesAt script
    → (commands : List Command) × (rest : List ℕ) × IsScript script commands rest
every_script zero script small h = absurd (omega arith)
every_script (suc n) script small h = by_read (read_command script) refl (every_script n)
  where
    by_read : (r : Result (Command × List ℕ) Refusal) → read_command script ≡ r
        → ((left : List ℕ) → length left < n → BytesAt left
        → (commands : List Command) × (rest : List ℕ) × IsScript left commands rest)
        → (commands : List Command) × (rest : List ℕ) × IsScript script commands rest
    by_read (Err why) e more = (
      [],
      script,
      record {
        fits = All-nil OperandsFit;
        bytes = refl;
        ends = λ command after fits is. let ok = ap read_command is
            ∙ bytes_of-read command after fits in absurd (cc (ok, e));
      },
    )
    by_read (Ok p) e more =
        let w = read_command-bytes script p h e in
        let less = read_shorter script p (sym e) in
        let all : BytesAt (bytes_of p.0 ++ p.1) = rw (← w.1) h in
        let next = more p.1 (omega arith) (bytes_after (bytes_of p.0) p.1 all) in (
          p.0 ∷ next.0,
          next.1,
          record {
            fits = All-cons OperandsFit p.0 next.0 w.0 next.2.fits;
            bytes = w.1 ∙ ap (λ r. bytes_of p.0 ++ r) next.2.bytes
                ∙ sym (append_assoc (bytes_of p.0) (concat (map bytes_of next.0)) next.1);
            ends = next.2.ends;
          },
        )

-- the first bytes of bytes
bytes_before : (n : ℕ) (bytes : List ℕ) → BytesAt bytes → BytesAt (take n bytes)
bytes_before zero bytes h i = omega arith
bytes_before (suc n) [] h i = omega arith
bytes_before (suc n) (b ∷ bytes) h zero = h 0
bytes_before (suc n) (b ∷ bytes) h (suc i) = bytes_before n bytes (λ j. h (suc j)) i

-- the lines of a script are those of its commands' answers
lines_due : (bytes : List ℕ) (commands : List Command) (rest : List ℕ) → BytesAt bytes
    → IsScript (script_of bytes) commands rest → lines_of bytes ≡ lines_for commands rest
lines_due bytes commands rest h i = sym (lines_new bytes)
    ∙ answered_lines commands rest (new_script bytes) i (bytes_before 65535 bytes h)

pub listing_law : (bytes : List ℕ) → BytesAt bytes → All IsShort (lines_of bytes) → IsListing bytes (listing bytes)
listing_law bytes h short = record {
  every = every_script (suc (length (script_of bytes))) (script_of bytes) (omega arith) (bytes_before 65535 bytes h);
  lines = λ commands rest i. let due = lines_due bytes commands rest h i in
      (ap concat due, subst (All IsShort) due short);
}
