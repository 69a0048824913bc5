-- Versions: which is later, and their full marks.
use Rattle.std.specs.Prelude.{ℕ, Bool, ◌&&◌, ◌||◌, Result, ◌==◌, nat_lt}
use Rattle.std.specs.Result.{result_map_both}
use Rattle.stamps.specs.declared.refusal.Refusal.{Refusal}
use Rattle.stamps.specs.Rows.{PerSite, join}
use Rattle.stamps.specs.Kinds.{Kind}
use Rattle.servers.specs.declared.version.Version.{Version}

-- v is later than w: a higher stamp, or at equal stamps a higher source
abbrev pub is_later : Version → Version → Bool
is_later v w = nat_lt w.stamp v.stamp || (w.stamp == v.stamp && nat_lt w.source v.source)

-- the stamp of a version that a put was answered
abbrev pub stamp_answered : Result Version Refusal → Result ℕ Refusal
stamp_answered = result_map_both (λ v. v.stamp) (λ why. why)

-- the full mark: the version and what its writer depended on
abbrev pub full_mark : Kind → Version → PerSite
full_mark k v = join (k.floor v.mark) (k.lift v.source v.stamp)
