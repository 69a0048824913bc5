-- How many lines a listing has, from the commands alone.
use Rattle.std.proofs.Common.{◌≡◌, ℕ, zero, suc, ◌+◌, ◌<◌, ◌≤◌, Bool, true, false, cond, List, [], ◌∷◌, length, Ok, Err}
use Rattle.std.proofs.Common.{Result, refl, ap, ◌∙◌, arith}
use Rattle.std.specs.Prelude.{is_ok, IfOk}
use Rattle.std.proofs.lemmas.Bool.{cond_both}
use Rattle.stamps.specs.declared.refusal.Refusal.{Refusal}
use Rattle.stamps.specs.Outside.{and_then}
use Rattle.group.specs.Model.Groups.{GroupState}
use Rattle.group.specs.Layouts.{checked_layout}
use Rattle.script.specs.declared.command.Command.{Command}
use Rattle.script.specs.declared.command.Command.TheVariants.{Layout}
use Rattle.script.specs.Commands.{read_command}
use Rattle.script.proofs.Shorter.{read_shorter}
use Rattle.script.specs.declared.choice.Clock.{Clock}
use Rattle.script.specs.declared.choice.Marks.{Marks}
use Rattle.script.specs.Counting.{goes_on, rest_after, rest_of_read}
use Rattle.script.specs.Scripts.{ScriptState, new_script, lines_after, lines_from, next_at, counted_line, next_answer}
use Rattle.script.specs.Scripts.{after_read, after_obey}
use Rattle.script.proofs.NextAnswers.{new_script_within, length-new_script}
use Rattle.script.specs.ScriptGroups.{ScriptGroup, no_group, some_group, clock_of, marks_of, make_group, obey}
use Rattle.script.specs.ScriptGroups.{answer_of_making}

-- whether a group was made
abbrev pub has_group : ScriptGroup → Bool
has_group no_group = false
has_group (some_group clock marks g) = true

-- how many lines follow, at most n of them
abbrev pub count_from : ℕ → Bool → List ℕ → ℕ
count_from zero m bytes = 0
count_from (suc n) m [] = 0
count_from (suc n) m (b ∷ bytes) = suc (count_from n true (rest_after m (b ∷ bytes)))

-- what goes on after a command: nothing is left, or a group was made
abbrev pub GoesOnMade : ScriptState ScriptGroup → Type 0
GoesOnMade s = (n : ℕ) → count_from n (has_group s.group) s.rest ≡ count_from n true s.rest

none_left : (m : Bool) (n : ℕ) → count_from n m [] ≡ count_from n true []
none_left m zero = refl
none_left m (suc n) = refl

abbrev HasGroup : ScriptGroup → Type 0
HasGroup group = has_group group ≡ true

and_then_has_group : {A : Type 0} (r : Result A Refusal) (f : A → Result ScriptGroup Refusal)
    → ((x : A) → IfOk (f x) HasGroup) → IfOk (and_then r f) HasGroup
and_then_has_group (Ok x) f h = h x
and_then_has_group (Err why) f h = tt

make_group_has_group : (command : Command) → IfOk (make_group command) HasGroup
make_group_has_group (Layout sites partitions clock marks) =
    and_then_has_group (checked_layout (record { sites = sites; partitions = partitions })) _
    (λ layout. and_then_has_group (clock_of clock) _ (λ rule. and_then_has_group (marks_of marks) _ (λ kind. refl)))
make_group_has_group command = tt

-- what a step leaves is what the commands alone leave
pub record Follows (left : List ℕ) (after : ScriptState ScriptGroup) : Type 0 where
  pub rest : after.rest ≡ left
  pub goes_on_lem : GoesOnMade after

no_group_follows : (s : ScriptState ScriptGroup) (rest : List ℕ) (m : Result ScriptGroup Refusal) → IfOk m HasGroup
    → Follows (cond (is_ok m) rest []) (after_obey s rest (answer_of_making m)).1
no_group_follows s rest (Err why) h = record { rest = refl; goes_on_lem = none_left false }
no_group_follows s rest (Ok no_group) h = absurd cc
no_group_follows s rest (Ok (some_group clock marks g)) h = record { rest = refl; goes_on_lem = λ n. refl }

some_group_follows : (s : ScriptState ScriptGroup) (rest : List ℕ) (clock : Clock) (marks : Marks) (g : GroupState)
    (command : Command)
    → Follows (cond (goes_on true command) rest []) (after_obey s rest (obey (some_group clock marks g) command)).1
some_group_follows s rest clock marks g (Layout sites partitions c m) = record { rest = refl; goes_on_lem = λ n. refl }
some_group_follows s rest clock marks g command = record { rest = refl; goes_on_lem = λ n. refl }

pub step_follows : (s : ScriptState ScriptGroup)
    → Follows (rest_after (has_group s.group) s.rest) (next_answer obey s).1
step_follows s = by_read (read_command s.rest)
  where
    obeys : (st : ScriptGroup) (command : Command) (rest : List ℕ)
        → Follows (cond (goes_on (has_group st) command) rest []) (after_obey s rest (obey st command)).1
    obeys no_group command rest = no_group_follows s rest (make_group command) (make_group_has_group command)
    obeys (some_group clock marks g) command rest = some_group_follows s rest clock marks g command

    by_read : (r : Result (Command × List ℕ) Refusal)
        → Follows (rest_of_read (has_group s.group) r) (after_read obey s r).1
    by_read (Err why) = record { rest = refl; goes_on_lem = λ n. none_left (has_group s.group) n }
    by_read (Ok (command, rest)) = obeys s.group command rest

-- the listing has as many lines as the commands alone say
pub lines_count : (n : ℕ) (s : ScriptState ScriptGroup)
    → length (lines_from n s) ≡ count_from n (has_group s.group) s.rest
lines_count zero s = refl
lines_count (suc n) s = by_rest s.rest refl (lines_count n)
  where
    by_rest : (bytes : List ℕ) → s.rest ≡ bytes
        → ((after : ScriptState ScriptGroup) → length (lines_from n after)
        ≡ count_from n (has_group after.group) after.rest)
        → length (lines_after (lines_from n) (next_at obey s bytes)) ≡ count_from (suc n) (has_group s.group) bytes
    by_rest [] e more = refl
    by_rest (b ∷ bytes) e more =
        let after = (counted_line b (next_answer obey s)).1 in
        let f = step_follows s in
        ap (λ k. suc k) (more after ∙ f.goes_on_lem n
        ∙ ap (count_from n true) (f.rest ∙ ap (rest_after (has_group s.group)) e))

-- what is left after a command is shorter
pub rest_shorter : (m : Bool) (bytes : List ℕ) → 0 < length bytes → length (rest_after m bytes) < length bytes
rest_shorter m bytes some = by_read (read_command bytes) refl
  where
    by_read : (r : Result (Command × List ℕ) Refusal) → r ≡ read_command bytes
        → length (rest_of_read m r) < length bytes
    by_read (Err why) e = some
    by_read (Ok (command, rest)) e = cond_both (goes_on m command) rest [] (λ left. length left < length bytes)
        (λ _. read_shorter bytes (command, rest) e) (λ _. some)

-- any number of commands that is not below the number of bytes gives the same count
pub count_enough : (n k : ℕ) (m : Bool) (bytes : List ℕ) → length bytes ≤ n → length bytes ≤ k
    → count_from n m bytes ≡ count_from k m bytes
count_enough zero zero m bytes hn hk = refl
count_enough zero (suc k) m [] hn hk = refl
count_enough zero (suc k) m (b ∷ bytes) hn hk = absurd (omega arith)
count_enough (suc n) zero m [] hn hk = refl
count_enough (suc n) zero m (b ∷ bytes) hn hk = absurd (omega arith)
count_enough (suc n) (suc k) m [] hn hk = refl
count_enough (suc n) (suc k) m (b ∷ bytes) hn hk =
    let less = rest_shorter m (b ∷ bytes) (omega arith) in
    ap (λ c. suc c) (count_enough n k true (rest_after m (b ∷ bytes)) (omega arith) (omega arith))

-- one command more
pub count_turn : (m : Bool) (bytes left : List ℕ) → 0 < length bytes → left ≡ rest_after m bytes
    → count_from (length bytes) m bytes ≡ count_from (length left) true left + 1
count_turn m [] left some e = absurd (omega arith)
count_turn m (b ∷ bytes) left some e =
    let less = rest_shorter m (b ∷ bytes) some in
    let same = ap length e in
    let enough =
    count_enough (length bytes) (length left) true (rest_after m (b ∷ bytes)) (omega arith) (omega arith) in
    omega (arith, enough, ap (count_from (length left) true) e)

-- no more lines than bytes
pub count_few : (n : ℕ) (m : Bool) (bytes : List ℕ) → count_from n m bytes ≤ length bytes
count_few zero m bytes = omega arith
count_few (suc n) m [] = omega arith
count_few (suc n) m (b ∷ bytes) =
    let less = rest_shorter m (b ∷ bytes) (omega arith) in
    let few = count_few n true (rest_after m (b ∷ bytes)) in
    omega arith

-- nothing follows nothing
pub count_none : (m : Bool) (bytes : List ℕ) → length bytes ≡ 0 → count_from (length bytes) m bytes ≡ 0
count_none m [] e = refl
count_none m (b ∷ bytes) e = absurd (omega arith)

-- a script has no more lines than bytes
pub lines_few : (bytes : List ℕ) → length (lines_from (length bytes) (new_script bytes)) ≤ length bytes
lines_few bytes =
    let count = lines_count (length bytes) (new_script bytes) in
    let few = count_few (length bytes) false (new_script bytes).rest in
    let within = new_script_within bytes in
    omega arith

-- and no more than 65,535
pub lines_most : (bytes : List ℕ) → length (lines_from (length bytes) (new_script bytes)) ≤ 65535
lines_most bytes =
    let count = lines_count (length bytes) (new_script bytes) in
    let few = count_few (length bytes) false (new_script bytes).rest in
    let most = length-new_script bytes in
    omega arith
