-- The invariant of a group with one server, one session or one seat replaced.
use Rattle.std.proofs.Common.{◌≡◌, ℕ, suc, ◌<◌, ◌≤◌, List, [], ◌∷◌, ◌++◌, length, Some, None, Option, sym, refl, ap}
use Rattle.std.proofs.Common.{◌∙◌, subst, arith}
use Rattle.stamps.specs.Rows.{PerSite, HasStamps, Covers, join}
use Rattle.stamps.specs.Kinds.{Kind, IsMark, IsLawfulKind}
use Rattle.servers.specs.declared.entry.Entry.{Entry}
use Rattle.servers.specs.Servers.{MarksState, ServerState, server_raise as raised_server, server_report, server_tidy}
use Rattle.servers.specs.declared.version.Version.{Version}
use Rattle.group.specs.Model.Calls.{safe_mark}
use Rattle.group.specs.Model.Groups.{GroupState, SessionState, SeatState, new_session, session_at, seat_at, with_server}
use Rattle.group.specs.Model.Groups.{with_sessions, with_session, with_seat}
use Rattle.group.specs.Model.Pasts.{Pasts}
use Rattle.group.proofs.Model.Rows.{covers_self, covers_trans, join_left, join_least, join_mark, floor_mark, floor_over}
use Rattle.group.proofs.Model.Rows.{floor_under}
use Rattle.group.proofs.Model.Lists.{set1, set2, set1_cases, set2_cases, set1_other, set2_same, get_d_set, get_d_push}
use Rattle.group.proofs.Model.Floors.{AllStamps}
use Rattle.group.proofs.Model.Invariant.{Shape, Ghost, Tables, tables, Below, SessionInv, Core}
use Rattle.group.proofs.Model.Effects.{safer, raised, grown, reported}
use Rattle.group.proofs.Model.Tidying.{tidied_too}
use Rattle.group.proofs.Model.Seating.{closed, seated, remembered, enrolled, some_same, not_some}
use Rattle.group.proofs.Model.Safe.{safe_rows, rows_stamps, safe_mark_lem, safe_stable, safe_cut, safe_covers}
use Rattle.group.proofs.Model.Views.{session_sites, tables_server, tables_session, tables_enrol, tables_seat}

-- the shape of a group
abbrev pub shape : (g : GroupState) → g.sites ≤ 4 → 1 ≤ g.partitions → Shape
shape g four some = record { sites = g.sites; parts = g.partitions; sites_four = four; parts_some = some }

-- the group with all servers replaced
abbrev pub with_servers : GroupState → (ℕ → ℕ → ServerState) → GroupState
with_servers g server =
    record {
      sites = g.sites;
      partitions = g.partitions;
      server = server;
      sessions = g.sessions;
      seats = g.seats;
      next_serial = g.next_serial;
    }

module _ {k : Kind} (law : IsLawfulKind k) {P : Pasts} {G : Ghost} (g : GroupState) (four : g.sites ≤ 4)
    (some : 1 ≤ g.partitions)
    (h : Core k (shape g four some) P (tables k g) G) where
  cut_stamps : (a : ℕ) (y : SeatState) → seat_at g a ≡ Some y → IsMark k y.cut
  cut_stamps a y e = let o = h.seats a y e in subst (IsMark k) (sym o.its_cut) (h.cuts.cut_mark y.serial o.issued)

  -- the rows of the safe mark are rows of stamps
  pub safe_rows_lem : (s : ℕ) → AllStamps (safe_rows g s)
  safe_rows_lem s = rows_stamps g s (λ n. (h.marks.stable_mark s n).0) (λ a y e. (cut_stamps a y e).0)

  -- ---- one server replaced

  -- the safe marks do not fall if the stable marks do not
  pub safe_servers : (server : ℕ → ℕ → ServerState) → ((s n : ℕ) → IsMark k (server s n).marks.stable)
      → ((s n : ℕ) → Covers (server s n).marks.stable (g.server s n).marks.stable) →
      (s : ℕ) → Covers (safe_mark k (with_servers g server) s) (safe_mark k g s)
  safe_servers server mk up s = safe_covers law (with_servers g server) s
      (rows_stamps (with_servers g server) s (λ n. (mk s n).0) (λ a y e. (cut_stamps a y e).0))
      (safe_mark k g s) (safe_mark_lem law g s (safe_rows_lem s))
      (λ n l. covers_trans (up s n) (safe_stable law g s (safe_rows_lem s) n l))
      (λ a y e at_s. safe_cut law g s (safe_rows_lem s) a y e at_s)

  pub safe_server : (s n : ℕ) (x : ServerState) → IsMark k x.marks.stable
      → Covers x.marks.stable (g.server s n).marks.stable →
      (s' : ℕ) → Covers (safe_mark k (with_server g s n x) s') (safe_mark k g s')
  safe_server s n x mk up = safe_servers (set2 g.server s n x)
      (λ i m. set2_cases g.server s n x i m (λ y. IsMark k y.marks.stable) (λ _ _. mk) (λ _. h.marks.stable_mark i m))
      (λ i m. set2_cases g.server s n x i m (λ y. Covers y.marks.stable (g.server i m).marks.stable)
      (λ a b. subst (λ (z : ℕ). Covers x.marks.stable (g.server i z).marks.stable) (sym b)
      (subst (λ (z : ℕ). Covers x.marks.stable (g.server z n).marks.stable) (sym a) up))
      (λ _. covers_self (g.server i m).marks.stable))

  -- server (s, n) becomes x: the tables that the invariant was shown of are those of the group then
  pub place_server : {Q : Pasts} {G' : Ghost} (s n : ℕ) (x : ServerState) {held : ℕ → ℕ → List Version}
      {received reported stable : ℕ → ℕ → PerSite} {waits : ℕ → ℕ → ℕ → List Entry} →
      set2 (λ i m. (g.server i m).held) s n x.held ≡ held →
      set2 (λ i m. (g.server i m).marks.received) s n x.marks.received ≡ received →
      set2 (λ i m. (g.server i m).marks.reported) s n x.marks.reported ≡ reported →
      set2 (λ i m. (g.server i m).marks.stable) s n x.marks.stable ≡ stable →
      set2 (λ i m. (g.server i m).waiting) s n x.waiting ≡ waits →
      IsMark k x.marks.stable → Covers x.marks.stable (g.server s n).marks.stable →
      Core k (shape g four some) Q (record {
        held = held;
        received = received;
        reported = reported;
        stable = stable;
        waits = waits;
        opened = length g.sessions;
        session = session_at g;
        seat = seat_at g;
        next = g.next_serial;
        safe = safe_mark k g;
      }) G' →
      Core k (shape g four some) Q (tables k (with_server g s n x)) G'
  place_server {Q = Q} {G' = G'} s n x a b c d e mk up core =
      subst (λ (T : Tables). Core k (shape g four some) Q T G') (sym (tables_server k g s n x a b c d e))
      (safer (safe_mark k (with_server g s n x)) (λ s' _. safe_server s n x mk up s') core)

  same_safe : (s n : ℕ) (x : ServerState) → x.marks.stable ≡ (g.server s n).marks.stable → (s' : ℕ)
      → Covers (safe_mark k (with_server g s n x) s') (safe_mark k g s')
  same_safe s n x e = safe_server s n x (subst (IsMark k) (sym e) (h.marks.stable_mark s n))
      (subst (λ (m : PerSite). Covers m (g.server s n).marks.stable) (sym e) (covers_self (g.server s n).marks.stable))

  -- mark m, below what the site has received, is joined into a stable mark
  pub raise_server : (s n : ℕ) (m : PerSite) → IsMark k m
      → Below (shape g four some) (λ i j. (g.server i j).marks.received) s m →
      Core k (shape g four some) P (tables k (with_server g s n (raised_server k (g.server s n) m))) G
  raise_server s n m mk b =
      let stable = (g.server s n).marks.stable in
      let new = raised_server k (g.server s n) m in
      let sm = h.marks.stable_mark s n in
      let nm = join_mark law (floor_mark law sm.0) mk in
      let up = covers_trans (join_left (k.floor stable) m) (floor_over law sm) in
      let low : Below (shape g four some) (λ i j. (g.server i j).marks.received) s (join (k.floor stable) m) =
      λ n' l. join_least (covers_trans (h.marks.stable_below s n n' l) (floor_under law sm.0)) (b n' l) in
      subst (λ (T : Tables). Core k (shape g four some) P T G)
      (sym (tables_server k g s n new (set2_same _ s n _ refl) (set2_same _ s n _ refl) (set2_same _ s n _ refl) refl
      (set2_same _ s n _ refl)))
      (safer (safe_mark k (with_server g s n new)) (λ s' _. safe_server s n new nm up s')
      (raised s n (join (k.floor stable) m) nm up low h))

  pub report_server : (s n : ℕ) → Core k (shape g four some) P
      (tables k (with_server g s n (server_report k (g.server s n)))) G
  report_server s n =
      let new = server_report k (g.server s n) in
      let st = h.marks.received_stamps s n in
      subst (λ (T : Tables). Core k (shape g four some) P T G)
      (sym (tables_server k g s n new (set2_same _ s n _ refl) (set2_same _ s n _ refl) refl (set2_same _ s n _ refl)
      (set2_same _ s n _ refl)))
      (safer (safe_mark k (with_server g s n new)) (λ s' _. same_safe s n new refl s')
      (reported s n (k.floor (g.server s n).marks.received) (floor_mark law st) (floor_under law st) h))

  -- a server changes nothing but its reading
  pub same_server : (s n : ℕ) (new : ServerState) → new.held ≡ (g.server s n).held → new.marks ≡ (g.server s n).marks
      → new.waiting ≡ (g.server s n).waiting →
      Core k (shape g four some) P (tables k (with_server g s n new)) G
  same_server s n new a b c =
      subst (λ (T : Tables). Core k (shape g four some) P T G)
      (sym (tables_server k g s n new (set2_same _ s n _ a) (set2_same _ s n _ (ap (λ (m : MarksState). m.received) b))
      (set2_same _ s n _ (ap (λ (m : MarksState). m.reported) b))
      (set2_same _ s n _ (ap (λ (m : MarksState). m.stable) b)) (set2_same _ s n _ c)))
      (safer (safe_mark k (with_server g s n new)) (λ s' _. same_safe s n new (ap (λ (m : MarksState). m.stable) b) s')
      h)

  pub tidy_server : (s n : ℕ) → Core k (shape g four some) P
      (tables k (with_server g s n (server_tidy k (g.server s n) (safe_mark k g s)).1)) G
  tidy_server s n =
      let new = (server_tidy k (g.server s n) (safe_mark k g s)).1 in
      subst (λ (T : Tables). Core k (shape g four some) P T G)
      (sym (tables_server k g s n new refl (set2_same _ s n _ refl) (set2_same _ s n _ refl) (set2_same _ s n _ refl)
      (set2_same _ s n _ refl)))
      (safer (safe_mark k (with_server g s n new)) (λ s' _. same_safe s n new refl s') (tidied_too s n h))

  -- ---- one session replaced

  pub grow_session : (i : ℕ) (x : SessionState) → i < length g.sessions → x.site ≡ (session_at g i).site
      → Covers x.depends (session_at g i).depends → Covers x.knows (session_at g i).knows →
      SessionInv k (shape g four some) (λ s n. (g.server s n).marks.received) x
      → Core k (shape g four some) P (tables k (with_session g i x)) G
  grow_session i x l e d c inv =
      subst (λ (T : Tables). Core k (shape g four some) P T G) (sym (tables_session k g i x l))
      (safer (safe_mark k (with_session g i x))
      (λ s _. safe_covers law (with_session g i x) s
      (rows_stamps (with_session g i x) s (λ n. (h.marks.stable_mark s n).0) (λ a y f. (cut_stamps a y f).0))
      (safe_mark k g s) (safe_mark_lem law g s (safe_rows_lem s))
      (λ n ln. safe_stable law g s (safe_rows_lem s) n ln)
      (λ a y f at_s. safe_cut law g s (safe_rows_lem s) a y f (sym (session_sites g i x l e y.session) ∙ at_s)))
      (grown i x e d c inv h))

  pub enrol_session : (s : ℕ) → s < g.sites → Core k (shape g four some) P
      (tables k (with_sessions g (g.sessions ++ (new_session s ∷ [])))) G
  enrol_session s ls =
      let g' = with_sessions g (g.sessions ++ (new_session s ∷ [])) in
      let old : (j : ℕ) → j < length g.sessions → (session_at g' j).site ≡ (session_at g j).site =
      λ j l. ap (λ (f : ℕ → SessionState). (f j).site) (get_d_push g.sessions (new_session s) (new_session 0))
      ∙ ap (λ (y : SessionState). y.site) (set1_other (session_at g) (length g.sessions) (new_session s) j
      (λ d. omega arith)) in
      subst (λ (T : Tables). Core k (shape g four some) P T G) (sym (tables_enrol k g (new_session s)))
      (safer (safe_mark k g')
      (λ s' _. safe_covers law g' s' (rows_stamps g' s' (λ n. (h.marks.stable_mark s' n).0)
      (λ a y f. (cut_stamps a y f).0)) (safe_mark k g s') (safe_mark_lem law g s' (safe_rows_lem s'))
      (λ n ln. safe_stable law g s' (safe_rows_lem s') n ln)
      (λ a y f at_s. safe_cut law g s' (safe_rows_lem s') a y f (sym (old y.session (h.seats a y f).known) ∙ at_s)))
      (enrolled h law s ls))

  -- ---- one seat replaced

  -- whatever is put at the seat has a cut that its site's safe mark was below
  safe_seat : (a : ℕ) (o : Option SeatState) (next : ℕ) → a < length g.seats →
      ((y : SeatState) → o ≡ Some y → IsMark k y.cut × Covers y.cut (safe_mark k g (session_at g y.session).site)) →
      (s : ℕ) → Covers (safe_mark k (with_seat g a o next) s) (safe_mark k g s)
  safe_seat a o next l fits s =
      let at_seat : (b : ℕ) (y : SeatState) → seat_at (with_seat g a o next) b ≡ Some y
      → set1 (seat_at g) a o b ≡ Some y =
      λ b y e. sym (ap (λ (f : ℕ → Option SeatState). f b) (get_d_set g.seats a o None l)) ∙ e in
      safe_covers law (with_seat g a o next) s
      (rows_stamps (with_seat g a o next) s (λ n. (h.marks.stable_mark s n).0)
      (λ b y e. set1_cases (seat_at g) a o b (λ z. z ≡ Some y → HasStamps y.cut) (λ _ f. (fits y f).0.0)
      (λ _ f. (cut_stamps b y f).0) (at_seat b y e)))
      (safe_mark k g s) (safe_mark_lem law g s (safe_rows_lem s))
      (λ n ln. safe_stable law g s (safe_rows_lem s) n ln)
      (λ b y e at_s. set1_cases (seat_at g) a o b (λ z. z ≡ Some y → Covers y.cut (safe_mark k g s))
      (λ _ f. subst (λ (z : ℕ). Covers y.cut (safe_mark k g z)) at_s (fits y f).1)
      (λ _ f. safe_cut law g s (safe_rows_lem s) b y f at_s)
      (at_seat b y e))

  pub close_seat : (a : ℕ) → a < length g.seats
      → Core k (shape g four some) P (tables k (with_seat g a None g.next_serial)) G
  close_seat a l =
      subst (λ (T : Tables). Core k (shape g four some) P T G) (sym (tables_seat k g a None g.next_serial l))
      (safer (safe_mark k (with_seat g a None g.next_serial))
      (λ s _. safe_seat a None g.next_serial l (λ y e. absurd (not_some e)) s) (closed h a))

  -- session i opens a snapshot at a free seat; the cut is known to it and covers a stable mark of its site
  pub open_seat : (i a n : ℕ) (m : PerSite) → i < length g.sessions → a < length g.seats → n < g.partitions → IsMark k m
      →
      Covers (session_at g i).knows m → Covers m (g.server (session_at g i).site n).marks.stable
      → Below (shape g four some) (λ s n. (g.server s n).marks.received) (session_at g i).site m →
      Core k (shape g four some) P (tables k (with_seat g a
      (Some (record { session = i; serial = g.next_serial; cut = m })) (suc g.next_serial)))
      (remembered h g.next_serial m (session_at g i).site)
  open_seat i a n m li la ln mk kn high b =
      let y : SeatState = record { session = i; serial = g.next_serial; cut = m } in
      let s = (session_at g i).site in
      let over : Covers m (safe_mark k g s) = covers_trans high (safe_stable law g s (safe_rows_lem s) n ln) in
      subst (λ (T : Tables). Core k (shape g four some) P T (remembered h g.next_serial m s))
      (sym (tables_seat k g a (Some y) (suc g.next_serial) la))
      (safer (safe_mark k (with_seat g a (Some y) (suc g.next_serial)))
      (λ s' _. safe_seat a (Some y) (suc g.next_serial) la
      (λ z e. subst (λ (w : SeatState). IsMark k w.cut × Covers w.cut (safe_mark k g (session_at g w.session).site))
      (some_same e) (mk, over)) s')
      (seated h i a m li kn mk b))
