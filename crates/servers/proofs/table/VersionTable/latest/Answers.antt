use Rattle.std.proofs.Common.{◌≡◌, ℕ, ◌<◌, ◌≤◌, Bool, List, length, get_or, Option, IfSome, refl, sym, ap, ◌∙◌, subst}
use Rattle.std.proofs.Common.{arith}
use Rattle.std.proofs.lemmas.List.{get_or_default, get_or_read_under}
use Rattle.std.proofs.lemmas.Bool.Decides.{nat_tests}
use Rattle.servers.specs.Laws.{IsLatest}
use Rattle.servers.specs.declared.version.Version.{Version}
use Rattle.servers.specs.Tables.{better_of, latest, version_at, versions_of}
use Rattle.servers.proofs.Latest.{latest_law}
use Rattle.servers.proofs.Seeking.{is_within, nothing, seek_all, seek_more, standing, stands, within}
use Rattle.servers.proofs.table.VersionTable.latest.Goals as goal
use Rattle.servers.proofs.table.VersionTable.latest.Goals.{then-version-key+then-passes+in-None}
use Rattle.servers.proofs.table.VersionTable.latest.Goals.{then-version-key+then-passes+in-Some+then-is_later}
use Rattle.servers.proofs.table.VersionTable.latest.Goals.{then-version-key+then-passes+in-Some+else-is_later}
use Rattle.servers.proofs.table.VersionTable.latest.Goals.{else-version-key}
use Rattle.servers.proofs.table.VersionTable.latest.Goals.{else-version-key-via-then-version-key+else-passes}
use Rattle.servers.proofs.table.VersionTable.latest.Goals.{else-version-key-via-else-version-key}

-- what was found after a turn is a place, and it is the better one
turn : (g : _) (c : goal.Joined-version-key g)
    → within c.if-version-key.found (length c.as_slice-versions.result.now)
    × (standing nothing c.as_slice-versions.result.now c.if-version-key.found
    ≡ better_of (g.T.VersionTest.passes c.args.test.now) c.args.key
    (standing nothing c.as_slice-versions.result.now c.loop-i.found)
    (get_or c.as_slice-versions.result.now c.loop-i.i nothing))
turn g c =
    let vs = c.as_slice-versions.result.now in
    let here = get_or_read_under vs c.loop-i.i (length vs) c.index-versions-i.result nothing c.index-versions-i.is
    c.loop-i-test.true refl in
    elim c.if-version-key.branch [
      | then-version-key+then-passes+in-None w ↦ grind (arith, nat_tests, here)
      | then-version-key+then-passes+in-Some+then-is_later w ↦
          let there = get_or_default vs w.in-Some.best w.index-versions-best.result nothing in
          grind (arith, nat_tests, here, there)
      | then-version-key+then-passes+in-Some+else-is_later w ↦
          let there = get_or_default vs w.in-Some.best w.index-versions-best.result nothing in
          grind (arith, nat_tests, here, there)
      | else-version-key w ↦
          elim w.else-version-key.branch [
            | else-version-key-via-then-version-key+else-passes w' ↦ grind (arith, nat_tests, here)
            | else-version-key-via-else-version-key w' ↦ grind (arith, nat_tests, here)
          ]
    ]

pub loop-i-preserved : goal.loop-i-preserved
loop-i-preserved g c =
    let vs = c.as_slice-versions.result.now in
    let t = turn g c in
    let lt : c.loop-i.i < length vs = c.loop-i-test.true in (
      t.0,
      seek_more (g.T.VersionTest.passes c.args.test.now) c.args.key nothing vs c.loop-i.i c.loop-i.found
          c.if-version-key.found lt t.1 c.loop-i.invariant.1,
    )

-- the answer is the latest, so it has what the law says
lawful : (test : Version → Bool) (key : ℕ) (vs : List Version) (r : Option Version) → r ≡ latest test key vs
    → IsLatest test key vs r
lawful test key vs r e = subst (IsLatest test key vs) (sym e) (latest_law test key vs)

pub returns : goal.returns
returns g c =
    let vs = c.as_slice-versions.result.now in
    let test = g.T.VersionTest.passes c.args.test.now in
    let le : length vs ≤ c.loop-i.i = c.loop-i-test.false in
    let held = c.as_slice-versions.ensures.value in
    let there = c.loop-i.invariant.0 in
    let is = ap (λ xs. version_at xs c.loop-i.found) (sym held) ∙ stands nothing vs c.loop-i.found there
    ∙ seek_all test c.args.key nothing vs c.loop-i.i c.loop-i.found le c.loop-i.invariant.1
    ∙ ap (latest test c.args.key) held in
    record {
      value = is;
      within = subst (λ xs. IfSome c.loop-i.found (λ i. i < length xs)) held
          (is_within c.loop-i.found (length vs) there);
      law = lawful test c.args.key (versions_of c.args.self.now) _ is;
    }
