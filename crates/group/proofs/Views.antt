-- How the array of servers shows in the group's state.
use Rattle.std.proofs.Common.{◌≡◌, ℕ, suc, ◌<◌, Bool, true, false, cond, ◌&&◌, eqb, ltb, List, [], ◌∷◌, map, length}
use Rattle.std.proofs.Common.{get_or, set, take, drop, ◌+◌, ◌-◌, ◌*◌, ◌≤◌, Ok, Err, Option, Result, sym, refl, ap, ◌∙◌}
use Rattle.std.proofs.Common.{subst, arith, OnErr}
use mathlib.Core.Path.{fun_ext}
use Rattle.std.proofs.lemmas.List.{get_or_past, get_or-drop, get_or-map, get_or-set_same, get_or-set_other, get_or-take}
use Rattle.std.proofs.lemmas.List.{length-drop, length-map, length-take, map-set, set-get_or}
use Rattle.std.proofs.lemmas.Bool.{and_parts, and_right, cases_eq, cond_both, cond-false, cond-true, le-ltb, ltb-true}
use Rattle.std.proofs.lemmas.Bool.Decides.{nat_tests}
use Rattle.stamps.specs.declared.refusal.Refusal.{Refusal}
use Rattle.stamps.specs.declared.refusal.Refusal.TheVariants.{NotInLayout}
use Rattle.servers.proofs.RowEntries.{by_site}
use Rattle.servers.specs.Servers.{ServerRecord, ServerState, new_server, view as server_view}
use Rattle.group.specs.Model.Groups.{GroupState, SessionState, SeatState, is_server}
use Rattle.group.specs.Model.Calls.{has_server, server_left, on_server}
use Rattle.group.specs.declared.group_parts.GroupParts.{GroupParts}
use Rattle.group.specs.declared.place.Place.{Place}
use Rattle.group.specs.Groups.{server_from}
use Rattle.group.specs.Parts.{call_server_at, server_at, view, with_server_at}
use Rattle.group.specs.Layouts.{checked_place}
use Rattle.group.specs.Places.{place_of}

-- one server replaced in the array is that server replaced in the state
at_set : (sites : ℕ) (xs : List ServerState) (site partition : ℕ) (s : ServerState) → length xs ≡ 16 → site < 4
    → partition < 4 → site < sites
    → server_from sites (set xs (place_of site partition) s)
    ≡ (λ i n. cond (eqb i site && eqb n partition) s (server_from sites xs i n))
at_set sites xs site partition s len ls lp inside =
    fun_ext λ i. fun_ext λ n.
    grind (
      arith,
      nat_tests,
      cases_eq (place_of i n) (place_of site partition),
      get_or-set_same xs (place_of site partition) s (new_server i sites),
      get_or-set_other xs (place_of site partition) (place_of i n) s (new_server i sites),
    )

-- the array as it was
at_same : (sites : ℕ) (xs : List ServerState) (site partition : ℕ) (s : ServerState) → site < 4 → partition < 4
    → site < sites → s ≡ server_from sites xs site partition
    → server_from sites (set xs (place_of site partition) s) ≡ server_from sites xs
at_same sites xs site partition s ls lp inside e =
    let here : server_from sites xs site partition ≡ get_or xs (place_of site partition) (new_server site sites) =
    grind (arith, nat_tests) in
    ap (λ t. server_from sites (set xs (place_of site partition) t)) (e ∙ here)
    ∙ ap (server_from sites) (set-get_or xs (place_of site partition) (new_server site sites))

-- the parts of a group's state that are no servers
pub record Rest : Type 0 where
  pub sites : ℕ
  pub partitions : ℕ
  pub sessions : List SessionState
  pub seats : List (Option SeatState)
  pub next : ℕ

-- the state of a group with these servers
abbrev pub state_with : Rest → (ℕ → ℕ → ServerState) → GroupState
state_with r server = record {
  sites = r.sites;
  partitions = r.partitions;
  server = server;
  sessions = r.sessions;
  seats = r.seats;
  next_serial = r.next;
}

abbrev pub rest_of : {C K Mark : Type 0} {rule : _} {kind : _} → GroupParts C K Mark rule kind → Rest
rest_of g =
    let s = view g in
    record { sites = s.sites; partitions = s.partitions; sessions = s.sessions; seats = s.seats; next = s.next_serial }

-- a place that there is
abbrev pub IsPlace : ℕ → Place → Type 0
IsPlace sites place = (place.0 < 4) × (place.1 < 4) × (place.0 < sites)

-- the server that stands in the array
pub at_place : (sites : ℕ) (servers : List ServerRecord) (site partition p : ℕ) (d : ServerRecord)
    → length servers ≡ 16 → site < 4 → partition < 4 → site < sites
    → p ≡ place_of site partition → server_from sites (map server_view servers) site partition
    ≡ server_view (get_or servers p d)
at_place sites servers site partition p d len ls lp inside e =
    let m = get_or-map server_view servers p d (new_server site sites) (omega arith) in
    grind (arith, nat_tests, m)

-- the servers of a site stand side by side
pub quarter : (sites : ℕ) (servers : List ServerRecord) (site count first some : ℕ)
    → length servers ≡ 16 → site < 4 → site < sites → count ≤ 4 → first ≡ site * 4 → some ≡ count
    → (length (take some (drop first servers)) ≡ count)
    × ((n : ℕ) (d : ServerRecord) → n < length (take some (drop first servers))
    → server_view (get_or (take some (drop first servers)) n d) ≡ server_from sites (map server_view servers) site n)
quarter sites servers site count first some len ls inside few ef es =
    let rest = drop first servers in
    let left : length rest ≡ 16 - first = omega (arith, length-drop first servers) in
    let all : length (take some rest) ≡ count = omega (arith, length-take some rest) in (
      all,
      λ n d here.
          let below : n < some = omega arith in
          ap server_view (get_or-take some rest n d below ∙ get_or-drop first servers n d)
          ∙ sym (at_place sites servers site n (first + n) d len ls (omega arith) inside (omega arith)),
    )

-- one server changed in the array is that server changed in the group
pub change_server_lem : (rest : Rest) (servers : List ServerRecord) (place : Place) (p : ℕ) (d new : ServerRecord)
    (change : ServerState → ServerState)
    → length servers ≡ 16 → IsPlace rest.sites place → p ≡ place_of place.0 place.1
    → server_view new ≡ change (server_view (get_or servers p d))
    → (let g = state_with rest (server_from rest.sites (map server_view servers)) in
    state_with rest (server_from rest.sites (map server_view (set servers p new)))
    ≡ with_server_at g place (change (server_at g place)))
change_server_lem rest servers place p d new change len is e step =
    let xs = map server_view servers in
    let s = server_view new in
    let g = state_with rest (server_from rest.sites xs) in
    ap (λ t. state_with rest (server_from rest.sites t)) (map-set server_view servers p new ∙ ap (λ q. set xs q s) e)
    ∙ ap (state_with rest) (at_set rest.sites xs place.0 place.1 s (length-map servers server_view ∙ len) is.0 is.1
    is.2)
    ∙ ap (λ t. with_server_at g place t) (step
    ∙ ap change (sym (at_place rest.sites servers place.0 place.1 p d len is.0 is.1 is.2 e)))

-- a server's answer, and the group with that server as it was left, are the group's answer and state
left_server : {A : Type 0} (rest : Rest) (xs : List ServerState) (place : Place) (r : Result A Refusal)
    (s : ServerState)
    → length xs ≡ 16 → IsPlace rest.sites place → OnErr r (s ≡ server_from rest.sites xs place.0 place.1)
    → (r, state_with rest (server_from rest.sites (set xs (place_of place.0 place.1) s)))
    ≡ server_left (state_with rest (server_from rest.sites xs)) place.0 place.1 (r, s)
left_server rest xs place (Ok x) s len is keeps =
    ap (λ t. (Ok x, state_with rest t)) (at_set rest.sites xs place.0 place.1 s len is.0 is.1 is.2)
left_server rest xs place (Err why) s len is keeps =
    ap (λ t. (Err why, state_with rest t)) (at_same rest.sites xs place.0 place.1 s is.0 is.1 is.2 keeps)

-- a call of the server at p, as the group's answer and state
pub call_server : {A : Type 0} (rest : Rest) (servers : List ServerRecord) (place : Place) (p : ℕ)
    (d new : ServerRecord) (r : Result A Refusal)
    (act : ServerState → Result A Refusal × ServerState)
    → length servers ≡ 16 → IsPlace rest.sites place → p ≡ place_of place.0 place.1
    → (r, server_view new) ≡ act (server_view (get_or servers p d))
    → OnErr r (server_view new ≡ server_view (get_or servers p d))
    → (r, state_with rest (server_from rest.sites (map server_view (set servers p new))))
    ≡ call_server_at (state_with rest (server_from rest.sites (map server_view servers))) place act
call_server rest servers place p d new r act len is e step keeps =
    let sites = rest.sites in
    let xs = map server_view servers in
    let there = at_place sites servers place.0 place.1 p d len is.0 is.1 is.2 e in
    ap (λ t. (r, state_with rest (server_from sites t)))
    (map-set server_view servers p new ∙ ap (λ q. set xs q (server_view new)) e)
    ∙ left_server rest xs place r (server_view new) (length-map servers server_view ∙ len) is
    (subst (λ s. OnErr r (server_view new ≡ s)) (sym there) keeps)
    ∙ ap (server_left (state_with rest (server_from sites xs)) place.0 place.1) (step ∙ ap act (sym there))

-- what a check of a layout has let through
pub passed : {A : Type 0} (b : Bool) (found given : A)
    → ◌≡◌ {A = Result A Refusal} (Ok found) (cond b (Ok given) (Err NotInLayout)) → (b ≡ true) × (found ≡ given)
passed true found given e = (refl, cc)
passed false found given e = cc

-- a server by the numbers of its place
pub by_numbers : {X : Type 0} (f : ℕ → ℕ → X) (site partition : ℕ) (place : Place) → place ≡ (site, partition)
    → f place.0 place.1 ≡ f site partition
by_numbers f site partition place e = ap (λ (x : ℕ × ℕ). f x.0 x.1) e

pub at_numbers : (g : GroupState) (place : Place) (site partition : ℕ) → place ≡ (site, partition)
    → server_at g place ≡ g.server site partition
at_numbers g place site partition e = by_numbers g.server site partition place e

-- a call of the server that a layout has
pub on_place : {A : Type 0} (g : GroupState) (site partition : ℕ) (place : Place)
    (act : ServerState → Result A Refusal × ServerState)
    → (Ok place) ≡ checked_place g.sites g.partitions site partition
    → call_server_at g place act ≡ on_server g site partition act
on_place g site partition place act e =
    let p = passed (has_server g site partition) place (site, partition) e in
    by_numbers (λ i n. server_left g i n (act (g.server i n))) site partition place p.1
    ∙ sym (cond-true (has_server g site partition) (server_left g site partition (act (g.server site partition)))
    (Err NotInLayout, g) p.0)

-- a call of a server that it lacks
pub on_no_place : {A : Type 0} (g : GroupState) (site partition : ℕ) (why : Refusal)
    (act : ServerState → Result A Refusal × ServerState)
    → (Err why) ≡ checked_place g.sites g.partitions site partition → (Err why, g) ≡ on_server g site partition act
on_no_place {A} g site partition why act e = by_test (has_server g site partition) e
  where
    by_test : (b : Bool) → ◌≡◌ {A = Result (ℕ × ℕ) Refusal} (Err why) (cond b (Ok (site, partition)) (Err NotInLayout))
        → (Err why, g) ≡ cond {A = Result A Refusal × GroupState} b
        (server_left g site partition (act (g.server site partition))) (Err NotInLayout, g)
    by_test true h = cc
    by_test false h = let same : why ≡ NotInLayout = cc in ap (λ w. (Err w, g)) same

-- the site of a server that a layout has
pub inside_of : (sites partitions site partition : ℕ) (place : Place)
    → (Ok place) ≡ checked_place sites partitions site partition → place.0 < sites
inside_of sites partitions site partition place e =
    let p = passed (is_server sites partitions site partition) place (site, partition) e in
    let both = and_parts (ltb site sites) (ltb partition partitions) p.0 in
    let number : ℕ × ℕ → ℕ = λ x. x.0 in
    subst (λ n. n < sites) (sym (ap number p.1)) (ltb-true _ _ both.0)

-- a call of the server at p, as the call of the group
pub on_server_lem : {A : Type 0} (rest : Rest) (servers : List ServerRecord) (site partition : ℕ) (place : Place)
    (p : ℕ) (d new : ServerRecord) (r : Result A Refusal)
    (act : ServerState → Result A Refusal × ServerState)
    → (Ok place) ≡ checked_place rest.sites rest.partitions site partition → length servers ≡ 16
    → (place.0 < 4) × (place.1 < 4) → p ≡ place_of place.0 place.1
    → (r, server_view new) ≡ act (server_view (get_or servers p d))
    → OnErr r (server_view new ≡ server_view (get_or servers p d))
    → (r, state_with rest (server_from rest.sites (map server_view (set servers p new))))
    ≡ on_server (state_with rest (server_from rest.sites (map server_view servers))) site partition act
on_server_lem rest servers site partition place p d new r act found len is e step keeps =
    call_server rest servers place p d new r act len
    (is.0, is.1, inside_of rest.sites rest.partitions site partition place found) e step keeps
    ∙ on_place (state_with rest (server_from rest.sites (map server_view servers))) site partition place act found

-- a refusal of a server leaves the group as it was
pub refused_same : {A : Type 0} (g mid : GroupState) (site partition : ℕ) (why : Refusal)
    (t : Result A Refusal × ServerState)
    → (Err why, mid) ≡ server_left g site partition t → mid ≡ g
refused_same {A} g mid site partition why (Err other, s) e =
    let second : Result A Refusal × GroupState → GroupState = λ x. x.1 in
    ap second e
refused_same {A} g mid site partition why (Ok done, s) e =
    let first : Result A Refusal × GroupState → Result A Refusal = λ x. x.0 in
    let no : Err why ≡ Ok done = ap first e in
    cc

-- a call of a server leaves the sessions as they were
pub sessions_left : {A : Type 0} (g mid : GroupState) (site partition : ℕ) (r : Result A Refusal)
    (t : Result A Refusal × ServerState)
    → (r, mid) ≡ server_left g site partition t → mid.sessions ≡ g.sessions
sessions_left {A} g mid site partition r (Ok done, s) e =
    let sessions : Result A Refusal × GroupState → List SessionState = λ x. x.1.sessions in
    ap sessions e
sessions_left {A} g mid site partition r (Err why, s) e =
    let sessions : Result A Refusal × GroupState → List SessionState = λ x. x.1.sessions in
    ap sessions e

-- a refusal leaves the group as it was
pub on_server_keeps : {A : Type 0} (g after : GroupState) (site partition : ℕ) (r : Result A Refusal)
    (act : ServerState → Result A Refusal × ServerState)
    → (r, after) ≡ on_server g site partition act → OnErr r (after ≡ g)
on_server_keeps g after site partition r act e =
    subst (λ t. OnErr t.0 (t.1 ≡ g)) (sym e) (by_test (has_server g site partition) (act (g.server site partition)))
  where
    by_result : {A : Type 0} (t : Result A Refusal × ServerState)
        → OnErr (server_left g site partition t).0 ((server_left g site partition t).1 ≡ g)
    by_result (Ok x, s) = tt
    by_result (Err why, s) = refl

    by_test : {A : Type 0} (b : Bool) (t : Result A Refusal × ServerState)
        → OnErr (cond b (server_left g site partition t) (Err NotInLayout, g)).0
        ((cond b (server_left g site partition t) (Err NotInLayout, g)).1 ≡ g)
    by_test true t = by_result t
    by_test false t = refl

-- four servers of a site as they are made
abbrev pub AreNew : ℕ → ℕ → ServerState → ServerState → ServerState → ServerState → Type 0
AreNew sites site a b c d = (a ≡ new_server site sites) × (b ≡ new_server site sites) × (c ≡ new_server site sites)
    × (d ≡ new_server site sites)

-- what the array of servers says as it is made
pub at_made : (sites : ℕ) (a0 a1 a2 a3 b0 b1 b2 b3 c0 c1 c2 c3 d0 d1 d2 d3 : ServerState)
    → (0 < sites → AreNew sites 0 a0 a1 a2 a3) → (1 < sites → AreNew sites 1 b0 b1 b2 b3)
    → (2 < sites → AreNew sites 2 c0 c1 c2 c3) → (3 < sites → AreNew sites 3 d0 d1 d2 d3)
    → server_from sites (a0 ∷ a1 ∷ a2 ∷ a3 ∷ b0 ∷ b1 ∷ b2 ∷ b3 ∷ c0 ∷ c1 ∷ c2 ∷ c3 ∷ d0 ∷ d1 ∷ d2 ∷ d3 ∷ [])
    ≡ (λ site partition. new_server site sites)
at_made sites a0 a1 a2 a3 b0 b1 b2 b3 c0 c1 c2 c3 d0 d1 d2 d3 a b c d =
    fun_ext λ i. fun_ext λ n. by_site (λ j. server_from sites all j n ≡ new_server j sites)
    (row 0 a0 a1 a2 a3 a refl refl refl refl n) (row 1 b0 b1 b2 b3 b refl refl refl refl n)
    (row 2 c0 c1 c2 c3 c refl refl refl refl n) (row 3 d0 d1 d2 d3 d refl refl refl refl n)
    (λ m. past (suc (suc (suc (suc m)))) n (omega arith)) i
  where
    all : List ServerState
    all = a0 ∷ a1 ∷ a2 ∷ a3 ∷ b0 ∷ b1 ∷ b2 ∷ b3 ∷ c0 ∷ c1 ∷ c2 ∷ c3 ∷ d0 ∷ d1 ∷ d2 ∷ d3 ∷ []

    one : (site n : ℕ) → (site < sites → get_or all (place_of site n) (new_server site sites) ≡ new_server site sites)
        → server_from sites all site n ≡ new_server site sites
    one site n made =
        cond_both (ltb site sites && ltb n 4) _ (new_server site sites) (λ u. u ≡ new_server site sites)
        (λ h. let both = and_parts (ltb site sites) (ltb n 4) h in made (ltb-true site sites both.0)) (λ _. refl)

    row : (site : ℕ) (e f g h : ServerState) → (site < sites → AreNew sites site e f g h)
        → get_or all (place_of site 0) (new_server site sites) ≡ e
        → get_or all (place_of site 1) (new_server site sites) ≡ f
        → get_or all (place_of site 2) (new_server site sites) ≡ g
        → get_or all (place_of site 3) (new_server site sites) ≡ h
        → (n : ℕ) → server_from sites all site n ≡ new_server site sites
    row site e f g h made p q r s n =
        by_site (λ m. server_from sites all site m ≡ new_server site sites)
        (one site 0 (λ l. p ∙ (made l).0)) (one site 1 (λ l. q ∙ (made l).1)) (one site 2 (λ l. r ∙ (made l).2))
        (one site 3 (λ l. s ∙ (made l).3))
        (λ m. cond-false (ltb site sites && ltb (suc (suc (suc (suc m)))) 4) _ (new_server site sites)
        (and_right (ltb site sites) (ltb (suc (suc (suc (suc m)))) 4)
        (le-ltb (suc (suc (suc (suc m)))) 4 (omega arith)))) n

    past : (site n : ℕ) → 4 ≤ site → server_from sites all site n ≡ new_server site sites
    past site n far = one site n (λ _. get_or_past all (place_of site n) (new_server site sites) (omega arith))
