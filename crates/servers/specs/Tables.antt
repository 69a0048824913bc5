-- Tables of versions: the latest that is shown, and tidying.
use Rattle.std.specs.Prelude.{ℕ, ◌-◌, Bool, if◌then◌else◌, not, ◌&&◌, ◌||◌, List, [], ◌∷◌, length, Some, None, Option}
use Rattle.std.specs.Prelude.{◌==◌, nat_le, filter, slice_get}
use Rattle.std.specs.List.{list_any}
use Rattle.stamps.specs.Rows.{PerSite, covers}
use Rattle.stamps.specs.Kinds.{Kind}
use Rattle.servers.specs.Versions.{is_later, full_mark}
use Rattle.servers.specs.declared.table.VersionTable.{VersionTable}
use Rattle.servers.specs.declared.version.Version.{Version}

-- the versions of a table, in order of arrival
abbrev pub versions_of : VersionTable → List Version
versions_of t = t.versions.items

-- the version that stands at a place, if one was found
abbrev pub version_at : List Version → Option ℕ → Option Version
version_at vs None = None
version_at vs (Some index) = slice_get vs index

-- the mark of this row covers the version
abbrev pub is_covered : Kind → PerSite → Version → Bool
is_covered k mark v = covers mark (full_mark k v)

-- the version is visible at a site under a stable mark: it is local, or the stable mark covers it
abbrev pub is_visible : Kind → ℕ → PerSite → Version → Bool
is_visible k site stable v = v.source == site || is_covered k stable v

-- the better of what was found before and one version more: it has to be of the key, and pass the test
abbrev pub better_of : (Version → Bool) → ℕ → Option Version → Version → Option Version
better_of test key None v = if v.key == key && test v then Some v else None
better_of test key (Some best) v = if v.key == key && (test v && is_later v best) then Some v else Some best

-- the latest of a key that passes the test
abbrev pub latest_from : (Version → Bool) → ℕ → Option Version → List Version → Option Version
latest_from test key found [] = found
latest_from test key found (v ∷ vs) = latest_from test key (better_of test key found v) vs

abbrev pub latest : (Version → Bool) → ℕ → List Version → Option Version
latest test key vs = latest_from test key None vs

-- a later version of its key in the table is covered by the safe mark
abbrev pub is_outdated_by : Kind → PerSite → Version → Version → Bool
is_outdated_by k safe v w = w.key == v.key && (is_later w v && is_covered k safe w)

abbrev pub is_outdated : Kind → PerSite → List Version → Version → Bool
is_outdated k safe vs v = list_any (is_outdated_by k safe v) vs

-- what tidying keeps
abbrev pub versions_kept : Kind → PerSite → List Version → List Version
versions_kept k safe vs = filter (λ v. not (is_outdated k safe vs v)) vs

-- how many versions it drops, and what is held after it
abbrev pub table_tidy : Kind → PerSite → List Version → ℕ × List Version
table_tidy k safe vs = (length vs - length (versions_kept k safe vs), versions_kept k safe vs)

-- a server holds at most 32 versions
abbrev pub is_table_full : List Version → Bool
is_table_full vs = nat_le 32 (length vs)
