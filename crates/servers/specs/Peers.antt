-- A site of a layout, and how many sites the layout has.
use Rattle.std.specs.Prelude.{ℕ, ◌<◌, ◌≤◌, if◌then◌else◌, ◌&&◌, Ok, Err, Result, nat_le, nat_lt}
use Rattle.stamps.specs.declared.refusal.Refusal.{Refusal}
use Rattle.stamps.specs.declared.refusal.Refusal.TheVariants.{BadLayout, NotInLayout}

pub record PeersRecord : Type 0 where
  pub own : ℕ
  pub sites : ℕ

-- the site is one of the 2 to 4 sites of the layout
pub record IsInLayout (own sites : ℕ) : Type 0 where
  pub inside : own < sites
  pub some : 2 ≤ sites
  pub few : sites ≤ 4

-- a layout outside 2 to 4 sites is refused before a site that it lacks
abbrev pub checked_peers : ℕ → ℕ → Result PeersRecord Refusal
checked_peers own sites =
    if nat_le 2 sites && nat_le sites 4
    then (if nat_lt own sites then Ok (record { own = own; sites = sites }) else Err NotInLayout)
    else Err BadLayout

-- the same layout from another site; from this one if the layout lacks that site
abbrev pub peers_at : PeersRecord → ℕ → PeersRecord
peers_at p site = if nat_lt site p.sites then record p { own = site } else p
