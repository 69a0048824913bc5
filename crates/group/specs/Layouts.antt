-- Layouts: which drafts pass the check, and which servers there are.
use Rattle.std.specs.Prelude.{ℕ, if◌then◌else◌, ◌&&◌, Ok, Err, Result, nat_le, nat_lt}
use Rattle.stamps.specs.declared.refusal.Refusal.{Refusal}
use Rattle.stamps.specs.declared.refusal.Refusal.TheVariants.{BadLayout, NotInLayout}
use Rattle.group.specs.Model.Groups.{is_line, is_server}
use Rattle.group.specs.declared.layout.Draft.{Draft}

-- a draft passes with 2 to 4 sites and 1 to 4 partitions
abbrev pub checked_layout : Draft → Result Draft Refusal
checked_layout draft =
    if nat_le 2 draft.sites && (nat_le draft.sites 4 && (nat_le 1 draft.partitions && nat_le draft.partitions 4))
    then Ok draft
    else Err BadLayout

-- a site or a partition among so many, or the refusal
abbrev pub below : ℕ → ℕ → Result ℕ Refusal
below count number = if nat_lt number count then Ok number else Err NotInLayout

-- the site and the partition of a server
abbrev pub checked_place : ℕ → ℕ → ℕ → ℕ → Result (ℕ × ℕ) Refusal
checked_place sites partitions site partition =
    if is_server sites partitions site partition then Ok (site, partition) else Err NotInLayout

-- the two servers of a line
abbrev pub checked_line : ℕ → ℕ → ℕ → ℕ → ℕ → Result ((ℕ × ℕ) × (ℕ × ℕ)) Refusal
checked_line sites partitions from to partition =
    if is_line sites partitions from to partition then Ok ((from, partition), (to, partition)) else Err NotInLayout
