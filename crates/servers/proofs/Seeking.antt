-- The search for the latest version, by its place.
use Rattle.std.proofs.Common.{◌≡◌, ℕ, ◌+◌, ◌<◌, ◌≤◌, Bool, List, length, get_or, drop, Some, None, Option, IfSome, refl}
use Rattle.std.proofs.Common.{ap, ◌∙◌}
use Rattle.std.proofs.lemmas.List.{drop_all, drop_more}
use Rattle.stamps.specs.Rows.{same}
use Rattle.servers.specs.declared.value.Value.TheVariants.{Gone}
use Rattle.servers.specs.declared.version.Version.{Version}
use Rattle.std.proofs.lemmas.Option.{slice_get-get_or}
use Rattle.servers.specs.Tables.{better_of, latest, latest_from, version_at}

-- what stands at the place that was found so far; d is what a read past the end would give
abbrev pub standing : Version → List Version → Option ℕ → Option Version
standing d vs None = None
standing d vs (Some i) = Some (get_or vs i d)

abbrev pub within : Option ℕ → ℕ → Type 0
within None n = Unit {0}
within (Some i) n = i < n

-- one turn: what was found now is the better of what was found before and the version at i
pub seek_more : (test : Version → Bool) (key : ℕ) (d : Version) (vs : List Version) (i : ℕ) (was is : Option ℕ)
    → i < length vs
    → standing d vs is ≡ better_of test key (standing d vs was) (get_or vs i d)
    → latest_from test key (standing d vs was) (drop i vs) ≡ latest test key vs
    → latest_from test key (standing d vs is) (drop (i + 1) vs) ≡ latest test key vs
seek_more test key d vs i was is lt e inv =
    ap (λ f. latest_from test key f (drop (i + 1) vs)) e ∙ (rw (drop_more vs i d lt) at inv)

abbrev pub nothing : Version
nothing = record { key = 0; value = Gone; stamp = 0; source = 0; mark = same 0 }

-- after the last turn, what stands at the found place is the latest
pub seek_all : (test : Version → Bool) (key : ℕ) (d : Version) (vs : List Version) (i : ℕ) (found : Option ℕ)
    → length vs ≤ i → latest_from test key (standing d vs found) (drop i vs) ≡ latest test key vs
    → standing d vs found ≡ latest test key vs
seek_all test key d vs i found le inv = rw (drop_all i vs le) at inv

-- the version at a place is what stands there
pub stands : (d : Version) (xs : List Version) (found : Option ℕ) → within found (length xs)
    → version_at xs found ≡ standing d xs found
stands d xs None w = refl
stands d xs (Some i) lt = slice_get-get_or xs i d lt

-- a place that was found is within the versions
pub is_within : (found : Option ℕ) (n : ℕ) → within found n → IfSome found (λ i. i < n)
is_within None n w = w
is_within (Some i) n w = w
