-- Where the servers stand.
use Rattle.std.specs.Prelude.{ℕ, ◌+◌, ◌*◌}

-- servers stand site by site, four to a site
abbrev pub place_of : ℕ → ℕ → ℕ
place_of site partition = site * 4 + partition
