-- The groups that calls lead to.
use Rattle.std.specs.Prelude.{◌≡◌, ℕ, List, []}
use Rattle.stamps.specs.Kinds.{Kind}
use Rattle.stamps.specs.Clocks.{Rule}
use Rattle.group.specs.Model.Events.{Call}
use Rattle.group.specs.Model.Groups.{GroupState, new_group}
use Rattle.group.specs.Model.GroupStore.{IsLayoutBounded, group_store}
use Rattle.group.specs.Model.Promises.{Promises}
use Rattle.group.specs.Model.Stores.{Run, then_all}

-- the run of these calls, from the making of a group of so many sites and partitions
abbrev pub run_of : (rule : Rule) (kind : Kind) (sites partitions : ℕ) → List Call → Run (group_store rule kind sites)
run_of rule kind sites partitions calls =
    then_all (group_store rule kind sites) (record { events = []; state = new_group sites partitions }) calls

-- Calls lead to this group from the making of one.
pub record IsReached (rule : Rule) (kind : Kind) (g : GroupState) : Type 0 where
  pub layout : IsLayoutBounded g.sites g.partitions
  pub calls : List Call
  pub leads : (run_of rule kind g.sites g.partitions calls).state ≡ g

-- Calls lead to this group, and the promises hold after them and after any calls that follow.
pub record StillKeeps (rule : Rule) (kind : Kind) (g : GroupState) : Type 0 where
  pub reached : IsReached rule kind g
  pub promises : (more : List Call) →
      let S = group_store rule kind g.sites in
      Promises S (then_all S (run_of rule kind g.sites g.partitions reached.calls) more)
