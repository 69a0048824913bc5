-- Clock rules: what every rule owes, and the two that are built.
use Rattle.std.specs.Prelude.{◌≡◌, ℕ, ◌+◌, ◌^◌, ◌<◌, max, Bool, true, false, if◌then◌else◌, ◌||◌, ◌⊎◌}
use Rattle.std.specs.Prelude.{Ok, Err, Result, ◌==◌, nat_le, nat_lt}
use Rattle.stamps.specs.declared.refusal.Refusal.{Refusal}
use Rattle.stamps.specs.declared.refusal.Refusal.TheVariants.{Early, End}
use Rattle.stamps.specs.Stamps.{top_stamp, stamp_of, time_of, count_of}

-- what a rule answers to a last stamp, a reading and a dependency stamp
abbrev pub Rule : Type 0
Rule = ℕ → ℕ → ℕ → Result ℕ Refusal

-- what a rule may answer: a stamp above both that it was given, or early, or end
abbrev pub IsAllowed : ℕ → ℕ → Result ℕ Refusal → Type 0
IsAllowed last dependency (Ok stamp) = (last < stamp) × (dependency < stamp) × (stamp < 2 ^ 63)
IsAllowed last dependency (Err why) = (why ≡ Early) ⊎ (why ≡ End)

pub record IsLawfulRule (answer : Rule) : Type 0 where
  pub allowed : (last reading dependency : ℕ) → last < 2 ^ 63 → reading < 2 ^ 47 → dependency < 2 ^ 63
      → IsAllowed last dependency (answer last reading dependency)

-- raw: the reading's first stamp, if that is above both
abbrev pub raw_rule : Rule
raw_rule last reading dependency =
    let stamp = stamp_of reading 0 in
    if nat_le stamp last || nat_le stamp dependency then Err Early else Ok stamp

-- the time of a hybrid stamp: the greatest of the three times
abbrev pub new_time : ℕ → ℕ → ℕ → ℕ
new_time last reading dependency = max (max (time_of last) (time_of dependency)) reading

-- its count, by whether last's time and dependency's time are the new time, from their counts
abbrev pub new_count : Bool → Bool → ℕ → ℕ → ℕ
new_count true true of_last of_dependency = max of_last of_dependency + 1
new_count true false of_last of_dependency = of_last + 1
new_count false true of_last of_dependency = of_dependency + 1
new_count false false of_last of_dependency = 0

-- the stamp of both: a count that passes 65,535 makes the time one more and the count 0
abbrev pub carry : ℕ → ℕ → ℕ
carry time count = if nat_lt 65535 count then stamp_of (time + 1) 0 else stamp_of time count

-- hybrid: the stamp of this time and count, which is above both; none is above the top stamp
abbrev pub hybrid_rule : Rule
hybrid_rule last reading dependency =
    let time = new_time last reading dependency in
    let count = new_count (time_of last == time) (time_of dependency == time) (count_of last) (count_of dependency) in
    if last == top_stamp || dependency == top_stamp then Err End else Ok (carry time count)
