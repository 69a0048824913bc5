-- A group of any built clock rule and kind of mark, or none yet, and what a command does to it.
use Rattle.std.specs.Prelude.{ℕ, if◌then◌else◌, Ok, Err, Result, ◌==◌, codes}
use Rattle.stamps.specs.declared.refusal.Refusal.{Refusal}
use Rattle.stamps.specs.declared.refusal.Refusal.TheVariants.{BadLayout, LayoutMisplaced}
use Rattle.stamps.specs.Clocks as clocks
use Rattle.stamps.specs.Outside.{and_then}
use Rattle.stamps.specs.Kinds.{Kind}
use Rattle.stamps.specs.BuiltKinds.{one_kind, each_kind}
use Rattle.stamps.specs.Clocks.{Rule}
use Rattle.group.specs.Model.Groups as model
use Rattle.group.specs.Model.Groups.{GroupState}
use Rattle.group.specs.Groups as group
use Rattle.group.specs.Layouts.{checked_layout}
use Rattle.script.specs.declared.command.Command.{Command}
use Rattle.script.specs.declared.command.Command.TheVariants.{Layout}
use Rattle.script.specs.declared.any_group.AnyGroup.{AnyGroup}
use Rattle.script.specs.declared.any_group.AnyGroup.TheVariants.{NoGroup, RawOne, RawEach, HybridOne, HybridEach}
use Rattle.script.specs.declared.choice.Choice.{Choice}
use Rattle.script.specs.declared.choice.Clock.{Clock}
use Rattle.script.specs.declared.choice.Clock.TheVariants.{Raw, Hybrid}
use Rattle.script.specs.declared.choice.Marks.{Marks}
use Rattle.script.specs.declared.choice.Marks.TheVariants.{One, Each}
use Rattle.script.specs.declared.answer.Answer.{Answer}
use Rattle.script.specs.declared.answer.Answer.TheVariants.{Done}
use Rattle.script.specs.Commands.{code}
use Rattle.script.specs.CommandCalls.{perform}

abbrev pub clock_rule_of : Clock → Rule
clock_rule_of Raw = clocks.raw_rule
clock_rule_of Hybrid = clocks.hybrid_rule

abbrev pub mark_kind_of : Marks → Kind
mark_kind_of One = one_kind
mark_kind_of Each = each_kind

-- no group yet, or one with its clock rule and its kind of mark
pub data ScriptGroup : Type 0 where
  no_group : ScriptGroup
  some_group : Clock → Marks → GroupState → ScriptGroup

abbrev pub script_group : AnyGroup → ScriptGroup
script_group NoGroup = no_group
script_group (RawOne g) = some_group Raw One (group.view g)
script_group (RawEach g) = some_group Raw Each (group.view g)
script_group (HybridOne g) = some_group Hybrid One (group.view g)
script_group (HybridEach g) = some_group Hybrid Each (group.view g)

-- the clock rule of a letter
abbrev pub clock_of : ℕ → Result Clock Refusal
clock_of letter =
    if letter == code (codes "R") then Ok Raw
    else if letter == code (codes "H") then Ok Hybrid
    else Err BadLayout

-- the kind of mark of a letter
abbrev pub marks_of : ℕ → Result Marks Refusal
marks_of letter =
    if letter == code (codes "O") then Ok One
    else if letter == code (codes "E") then Ok Each
    else Err BadLayout

-- the group that a script's first command makes, which has to be a layout
abbrev pub make_group : Command → Result ScriptGroup Refusal
make_group (Layout sites partitions clock marks) =
    and_then (checked_layout (record { sites = sites; partitions = partitions })) (λ layout.
    and_then (clock_of clock) (λ rule.
    and_then (marks_of marks) (λ kind. Ok (some_group rule kind (model.new_group layout.sites layout.partitions)))))
make_group command = Err LayoutMisplaced

-- a first command is done if it makes a group
abbrev pub answer_of_making : Result ScriptGroup Refusal → Result Answer Refusal × ScriptGroup
answer_of_making (Ok g) = (Ok Done, g)
answer_of_making (Err why) = (Err why, no_group)

-- what a group answers, and the group after it with its clock rule and its kind of mark
abbrev pub as_some_group : Clock → Marks → Result Answer Refusal × GroupState → Result Answer Refusal × ScriptGroup
as_some_group clock marks (answer, g) = (answer, some_group clock marks g)

-- what a command answers, or the refusal that ends the listing, and the group after it
abbrev pub obey : ScriptGroup → Command → Result Answer Refusal × ScriptGroup
obey no_group command = answer_of_making (make_group command)
obey (some_group clock marks g) command =
    as_some_group clock marks (perform (clock_rule_of clock) (mark_kind_of marks) g command)

-- ---- for functions inside the crate

-- the new group of a choice
abbrev pub group_of : Choice → ScriptGroup
group_of choice =
    some_group choice.clock choice.marks (model.new_group choice.layout.sites choice.layout.partitions)
