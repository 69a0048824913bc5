-- The tables of a group with one server, one session or one seat replaced.
use Rattle.std.proofs.Common.{◌≡◌, ℕ, suc, ◌<◌, List, [], ◌∷◌, ◌++◌, length, get_or, Some, None, Option, sym, refl, ap}
use Rattle.std.proofs.Common.{◌∙◌, ⊎_elim, add-one, arith, length-set}
use Rattle.std.proofs.lemmas.List.{get_or_past, length-append}
use Rattle.std.proofs.lemmas.Bool.{cases_lt}
use Rattle.stamps.specs.Rows.{PerSite}
use Rattle.stamps.specs.Kinds.{Kind}
use Rattle.servers.specs.declared.entry.Entry.{Entry}
use Rattle.servers.specs.Servers.{ServerState}
use Rattle.servers.specs.declared.version.Version.{Version}
use Rattle.group.specs.Model.Calls.{safe_mark}
use Rattle.group.specs.Model.Groups.{GroupState, SessionState, SeatState, new_session, session_at, seat_at, with_server}
use Rattle.group.specs.Model.Groups.{with_sessions, with_session, with_seat, lowest_free}
use Rattle.group.proofs.Model.Lists.{set1, set2, set1_cases, set1_here, set2_field, get_d_set, get_d_push}
use Rattle.group.proofs.Model.Invariant.{Tables, tables}

module _ (k : Kind) (g : GroupState) where
  -- one server replaced: the fields of its place change
  pub tables_server : (s n : ℕ) (x : ServerState) {held : ℕ → ℕ → List Version}
      {received reported stable : ℕ → ℕ → PerSite} {waits : ℕ → ℕ → ℕ → List Entry} →
      set2 (λ i m. (g.server i m).held) s n x.held ≡ held →
      set2 (λ i m. (g.server i m).marks.received) s n x.marks.received ≡ received →
      set2 (λ i m. (g.server i m).marks.reported) s n x.marks.reported ≡ reported →
      set2 (λ i m. (g.server i m).marks.stable) s n x.marks.stable ≡ stable →
      set2 (λ i m. (g.server i m).waiting) s n x.waiting ≡ waits →
      tables k (with_server g s n x)
      ≡ record {
        held = held;
        received = received;
        reported = reported;
        stable = stable;
        waits = waits;
        opened = length g.sessions;
        session = session_at g;
        seat = seat_at g;
        next = g.next_serial;
        safe =
            safe_mark k (with_server g s n x);
      }
  tables_server s n x a b c d e i = record {
    held = (set2_field (λ (y : ServerState). y.held) g.server s n x ∙ a) i;
    received = (set2_field (λ (y : ServerState). y.marks.received) g.server s n x ∙ b) i;
    reported = (set2_field (λ (y : ServerState). y.marks.reported) g.server s n x ∙ c) i;
    stable = (set2_field (λ (y : ServerState). y.marks.stable) g.server s n x ∙ d) i;
    waits = (set2_field (λ (y : ServerState). y.waiting) g.server s n x ∙ e) i;
    opened = length g.sessions;
    session = session_at g;
    seat = seat_at g;
    next = g.next_serial;
    safe = safe_mark k (with_server g s n x);
  }

  abbrev others : ℕ → (ℕ → SessionState) → (ℕ → Option SeatState) → ℕ → (ℕ → PerSite) → Tables
  others opened session seat next safe = record {
    held = λ s n. (g.server s n).held;
    received = λ s n. (g.server s n).marks.received;
    reported = λ s n. (g.server s n).marks.reported;
    stable = λ s n. (g.server s n).marks.stable;
    waits = λ s n. (g.server s n).waiting;
    opened = opened;
    session = session;
    seat = seat;
    next = next;
    safe = safe;
  }

  pub tables_session : (i : ℕ) (x : SessionState) → i < length g.sessions →
      tables k (with_session g i x) ≡ others (length g.sessions) (set1 (session_at g) i x) (seat_at g) g.next_serial
      (safe_mark k (with_session g i x))
  tables_session i x l j =
      others (length-set g.sessions i x j) (get_d_set g.sessions i x (new_session 0) l j) (seat_at g) g.next_serial
      (safe_mark k (with_session g i x))

  pub tables_enrol : (x : SessionState) →
      tables k (with_sessions g (g.sessions ++ (x ∷ [])))
      ≡ others (suc (length g.sessions)) (set1 (session_at g) (length g.sessions) x) (seat_at g) g.next_serial
      (safe_mark k (with_sessions g (g.sessions ++ (x ∷ []))))
  tables_enrol x j =
      others ((length-append g.sessions (x ∷ []) ∙ add-one (length g.sessions)) j)
      (get_d_push g.sessions x (new_session 0) j) (seat_at g) g.next_serial
      (safe_mark k (with_sessions g (g.sessions ++ (x ∷ []))))

  pub tables_seat : (a : ℕ) (y : Option SeatState) (next : ℕ) → a < length g.seats →
      tables k (with_seat g a y next) ≡ others (length g.sessions) (session_at g) (set1 (seat_at g) a y) next
      (safe_mark k (with_seat g a y next))
  tables_seat a y next l j = others (length g.sessions) (session_at g) (get_d_set g.seats a y None l j) next
      (safe_mark k (with_seat g a y next))

-- ---- sessions and seats

pub session_here : (g : GroupState) (i : ℕ) (x : SessionState) → i < length g.sessions
    → session_at (with_session g i x) i ≡ x
session_here g i x l = ap (λ (f : ℕ → SessionState). f i) (get_d_set g.sessions i x (new_session 0) l)
    ∙ set1_here (session_at g) i x

-- a session that stays at its site leaves all sessions at theirs
pub session_sites : (g : GroupState) (i : ℕ) (x : SessionState) → i < length g.sessions → x.site ≡ (session_at g i).site
    → (j : ℕ) → (session_at (with_session g i x) j).site ≡ (session_at g j).site
session_sites g i x l e j = ap (λ (f : ℕ → SessionState). (f j).site) (get_d_set g.sessions i x (new_session 0) l)
    ∙ set1_cases (session_at g) i x j (λ y. y.site ≡ (session_at g j).site)
    (λ d. e ∙ ap (λ (z : ℕ). (session_at g z).site) (sym d)) (λ _. refl)

none_some : {A : Type 0} {x : A} → ◌≡◌ {A = Option A} None (Some x) → ⊥
none_some e = let z : ◌≡◌ {A = ℕ} 0 1 = cc in omega arith

-- an open seat is one of the seats
pub seat_inside : (ys : List (Option SeatState)) (a : ℕ) (y : SeatState) → get_or ys a None ≡ Some y → a < length ys
seat_inside ys a y e =
    ⊎_elim (λ l. l) (λ past. absurd (none_some (sym (get_or_past ys a None past) ∙ e))) (cases_lt a (length ys))

-- the lowest free seat is free
pub lowest_free_lem : (ys : List (Option SeatState)) → get_or ys (lowest_free ys) None ≡ None
lowest_free_lem [] = refl
lowest_free_lem (None ∷ ys) = refl
lowest_free_lem (Some y ∷ ys) = lowest_free_lem ys
