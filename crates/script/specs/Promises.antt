-- That a group keeps the promises, at each of the built clock rules and kinds of mark.
use Rattle.group.specs.Model.GroupStore.{group_store}
use Rattle.group.specs.Model.Promises.{KeepsPromises}
use Rattle.group.specs.Model.Reached.{StillKeeps}
use Rattle.script.specs.ScriptGroups.{ScriptGroup, no_group, some_group, clock_rule_of, mark_kind_of}

-- from here on all promises hold; without a group there is nothing to keep
abbrev pub KeepsAll : ScriptGroup → Type 0
KeepsAll no_group = Unit {0}
KeepsAll (some_group clock marks g) =
    KeepsPromises (group_store (clock_rule_of clock) (mark_kind_of marks) g.sites) g

-- calls lead to the group that there is, and all promises hold after them and from there on
abbrev pub StillKeepsAll : ScriptGroup → Type 0
StillKeepsAll no_group = Unit {0}
StillKeepsAll (some_group clock marks g) = ∥ StillKeeps (clock_rule_of clock) (mark_kind_of marks) g ∥₁
