-- Outboxes: what each other site has still to take, in order of issue.
use Rattle.std.specs.Prelude.{ℕ, ◌-◌, Bool, if◌then◌else◌, ◌&&◌, ◌||◌, List, [], ◌∷◌, ◌++◌, length, drop, Some, None}
use Rattle.std.specs.Prelude.{Option, ◌==◌, nat_le, nat_lt}
use Rattle.stamps.specs.Rows.{PerSite, at}
use Rattle.servers.specs.declared.entry.Entry.{Entry}
use Rattle.servers.specs.Others.{is_other}
use Rattle.servers.specs.declared.outbox.Outbox.{Outbox}

-- by site
abbrev pub Queues : Type 0
Queues = ℕ → List Entry

-- the last entries: as many as the site has still to take
abbrev pub last_for : List Entry → PerSite → Queues
last_for entries left site = if nat_lt site 4 then drop (length entries - at left site) entries else []

abbrev pub queues_of : Outbox → Queues
queues_of o = last_for o.entries.items o.left

abbrev pub empty_queues : Queues
empty_queues site = []

-- some other site has 16 entries still to take
abbrev pub is_queue_full : ℕ → ℕ → Queues → ℕ → Bool
is_queue_full own sites w site = is_other own sites site && nat_le 16 (length (w site))

abbrev pub is_outbox_full : ℕ → ℕ → Queues → Bool
is_outbox_full own sites w =
    is_queue_full own sites w 0
    || (is_queue_full own sites w 1 || (is_queue_full own sites w 2 || is_queue_full own sites w 3))

-- one entry more for every other site
abbrev pub issue_entry : ℕ → ℕ → Queues → Entry → Queues
issue_entry own sites w e site = if is_other own sites site then w site ++ e ∷ [] else w site

abbrev pub first : {A : Type 0} → List A → Option A
first [] = None
first (x ∷ xs) = Some x

-- the next entry for a site, and what is left when it is taken
abbrev pub next_for : Queues → ℕ → Option Entry
next_for w site = first (w site)

abbrev pub take_entry : Queues → ℕ → Queues
take_entry w taker site = if site == taker then drop 1 (w site) else w site
