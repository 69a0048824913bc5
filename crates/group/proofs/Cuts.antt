-- The cuts of open snapshots, seat by seat.
use Rattle.std.proofs.Common.{◌≡◌, ℕ, ◌+◌, ◌<◌, Bool, true, false, cond, eqb, List, [], ◌∷◌, ◌++◌, length, get_or}
use Rattle.std.proofs.Common.{position, ltb, drop, Some, None, Option, sym, refl, ap, ◌∙◌, append_assoc, arith}
use Rattle.std.proofs.lemmas.Bool.{ltb-true}
use Rattle.std.proofs.lemmas.List.{drop_more, get_or_default}
use Rattle.std.specs.List.{position_or_len}
use Rattle.std.specs.Option.{is_none}
use Rattle.stamps.specs.Rows.{PerSite}
use Rattle.stamps.specs.declared.row.Row.{Row}
use Rattle.group.specs.Model.Groups.{GroupState, SeatState, cuts_of, lowest_free, session_at}
use Rattle.group.specs.Sessions.{cut_in, free_seat}

-- a seat with a cut of the site
cuts_some : (g : GroupState) (site : ℕ) (o : Option SeatState) (ys : List (Option SeatState)) (cut : PerSite)
    → cut_in g site o ≡ Some cut → cuts_of g site (o ∷ ys) ≡ cut ∷ cuts_of g site ys
cuts_some g site None ys cut e = cc
cuts_some g site (Some y) ys cut e = by_test (eqb (session_at g y.session).site site) e
  where
    by_test : (b : Bool) → cond b (Some y.cut) None ≡ Some cut
        → cond b (y.cut ∷ cuts_of g site ys) (cuts_of g site ys) ≡ cut ∷ cuts_of g site ys
    by_test true h = cc
    by_test false h = cc

-- a seat without
cuts_none : (g : GroupState) (site : ℕ) (o : Option SeatState) (ys : List (Option SeatState)) → cut_in g site o ≡ None
    → cuts_of g site (o ∷ ys) ≡ cuts_of g site ys
cuts_none g site None ys e = refl
cuts_none g site (Some y) ys e = by_test (eqb (session_at g y.session).site site) e
  where
    by_test : (b : Bool) → cond b (Some y.cut) None ≡ None
        → cond b (y.cut ∷ cuts_of g site ys) (cuts_of g site ys) ≡ cuts_of g site ys
    by_test true h = cc
    by_test false h = refl

-- a cut is pushed
pub cut_more : (g : GroupState) (site : ℕ) (seats : List (Option SeatState)) (i : ℕ) (xs ys : List Row) (x : Row)
    (all : List PerSite)
    → i < length seats → cut_in g site (get_or seats i None) ≡ Some x → ys ≡ xs ++ x ∷ []
    → xs ++ cuts_of g site (drop i seats) ≡ all → ys ++ cuts_of g site (drop (i + 1) seats) ≡ all
cut_more g site seats i xs ys x all here cut push before =
    let rest = cuts_of g site (drop (i + 1) seats) in
    let now : cuts_of g site (drop i seats) ≡ x ∷ rest =
    ap (cuts_of g site) (drop_more seats i None here)
    ∙ cuts_some g site (get_or seats i None) (drop (i + 1) seats) x cut
    in
    ap (λ t. t ++ rest) push
    ∙ append_assoc xs (x ∷ []) rest
    ∙ ap (λ t. xs ++ t) (sym now) ∙ before

-- nothing is pushed
pub cut_none : (g : GroupState) (site : ℕ) (seats : List (Option SeatState)) (i : ℕ) (xs : List Row)
    (all : List PerSite)
    → i < length seats → cut_in g site (get_or seats i None) ≡ None
    → xs ++ cuts_of g site (drop i seats) ≡ all → xs ++ cuts_of g site (drop (i + 1) seats) ≡ all
cut_none g site seats i xs all here cut before =
    ap (λ t. xs ++ t) (sym (ap (cuts_of g site) (drop_more seats i None here)
    ∙ cuts_none g site (get_or seats i None) (drop (i + 1) seats) cut)) ∙ before

-- the first place with no snapshot is the lowest free seat
first_empty : (xs : List (Option SeatState)) → position_or_len is_none xs ≡ lowest_free xs
first_empty [] = refl
first_empty (None ∷ xs) = refl
first_empty (Some x ∷ xs) = omega (arith, first_empty xs)

pub free_seat_lem : (xs : List (Option SeatState)) → position is_none xs ≡ free_seat xs
free_seat_lem xs =
    ap (λ i. cond (ltb i (length xs)) (Some i) None) (first_empty xs)

-- the seat that was found
pub found_free : (ys : List (Option SeatState)) (n : ℕ) → free_seat ys ≡ Some n → (n ≡ lowest_free ys) × (n < length ys)
found_free ys n e = by_test (ltb (lowest_free ys) (length ys)) refl e
  where
    by_test : (b : Bool) → ltb (lowest_free ys) (length ys) ≡ b → cond b (Some (lowest_free ys)) None ≡ Some n
        → (n ≡ lowest_free ys) × (n < length ys)
    by_test true h f =
        let same : n ≡ lowest_free ys = cc in
        let below : lowest_free ys < length ys = ltb-true _ _ h in
        (same, omega arith)
    by_test false h f = cc

-- the seat of a place in the array
pub seat_of_place : (seats xs : List (Option SeatState)) (i : ℕ) (x : Option SeatState) → xs ≡ seats → x ≡ get_or xs i x
    → i < length xs → get_or seats i None ≡ x
seat_of_place seats xs i x e is here = ap (λ ys. get_or ys i None) (sym e) ∙ get_or_default xs i None x here ∙ sym is
