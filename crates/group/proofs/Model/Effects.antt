-- Marks only rise: what stays true when they do, and the effects of a call that only raises marks.
use Rattle.std.proofs.Common.{◌≡◌, ℕ, ◌<◌, ◌⊎◌, List, Option, sym, refl, ◌∙◌, subst, inl, inr, le_trans, mod-lt}
use Rattle.stamps.specs.Rows.{PerSite, HasStamps, Covers}
use Rattle.stamps.specs.Kinds.{Kind, IsMark}
use Rattle.servers.specs.declared.entry.Entry.{Entry}
use Rattle.servers.specs.Versions.{full_mark}
use Rattle.servers.specs.declared.version.Version.{Version}
use Rattle.servers.proofs.Elements.{InList}
use Rattle.group.specs.Model.Events.{Put, IsLater}
use Rattle.group.specs.Model.Groups.{SessionState, SeatState}
use Rattle.group.specs.Model.Pasts.{Pasts}
use Rattle.group.proofs.Model.Rows.{covers_self, covers_trans, covers_at}
use Rattle.group.proofs.Model.Lists.{set1, set2, set1_cases, set2_cases}
use Rattle.group.proofs.Model.Invariant.{Shape, part, Ghost, Tables, name_of, Had, Below, StandsIn, HeldInv}
use Rattle.group.proofs.Model.Invariant.{ServerMarks, SessionInv, CutInv, Reached, Before, PastInv, Core}

-- ---- tables with some things replaced

abbrev pub with_stable : Tables → (ℕ → ℕ → PerSite) → (ℕ → PerSite) → Tables
with_stable T stable safe =
    record {
      held = T.held;
      received = T.received;
      reported = T.reported;
      stable = stable;
      waits = T.waits;
      opened = T.opened;
      session = T.session;
      seat = T.seat;
      next = T.next;
      safe = safe;
    }

abbrev pub with_reported : Tables → (ℕ → ℕ → PerSite) → Tables
with_reported T reported =
    record {
      held = T.held;
      received = T.received;
      reported = reported;
      stable = T.stable;
      waits = T.waits;
      opened = T.opened;
      session = T.session;
      seat = T.seat;
      next = T.next;
      safe = T.safe;
    }

abbrev pub with_held : Tables → (ℕ → ℕ → List Version) → Tables
with_held T held =
    record {
      held = held;
      received = T.received;
      reported = T.reported;
      stable = T.stable;
      waits = T.waits;
      opened = T.opened;
      session = T.session;
      seat = T.seat;
      next = T.next;
      safe = T.safe;
    }

abbrev pub with_sessions : Tables → ℕ → (ℕ → SessionState) → Tables
with_sessions T opened session =
    record {
      held = T.held;
      received = T.received;
      reported = T.reported;
      stable = T.stable;
      waits = T.waits;
      opened = opened;
      session = session;
      seat = T.seat;
      next = T.next;
      safe = T.safe;
    }

abbrev pub with_seats : Tables → (ℕ → Option SeatState) → ℕ → Tables
with_seats T seat next =
    record {
      held = T.held;
      received = T.received;
      reported = T.reported;
      stable = T.stable;
      waits = T.waits;
      opened = T.opened;
      session = T.session;
      seat = seat;
      next = next;
      safe = T.safe;
    }

abbrev pub with_safe : Tables → (ℕ → PerSite) → Tables
with_safe T safe =
    record {
      held = T.held;
      received = T.received;
      reported = T.reported;
      stable = T.stable;
      waits = T.waits;
      opened = T.opened;
      session = T.session;
      seat = T.seat;
      next = T.next;
      safe = safe;
    }

-- what an entry that is issued or taken changes
abbrev pub with_entries : Tables → (ℕ → ℕ → List Version) → (ℕ → ℕ → PerSite) → (ℕ → ℕ → ℕ → List Entry) → Tables
with_entries T held received waits =
    record {
      held = held;
      received = received;
      reported = T.reported;
      stable = T.stable;
      waits = waits;
      opened = T.opened;
      session = T.session;
      seat = T.seat;
      next = T.next;
      safe = T.safe;
    }

-- ---- rising

abbrev pub Rises : (ℕ → ℕ → PerSite) → (ℕ → ℕ → PerSite) → Type 0
Rises old new = (s n : ℕ) → Covers (new s n) (old s n)

-- sessions stay at their site, and their marks only rise
abbrev pub Grown : ℕ → (ℕ → SessionState) → (ℕ → SessionState) → Type 0
Grown opened old new =
    (i : ℕ) → i < opened → ((new i).site ≡ (old i).site) × Covers (new i).depends (old i).depends
    × Covers (new i).knows (old i).knows

abbrev pub Sub : List Version → List Version → Type 0
Sub a b = (v : Version) → InList v a → InList v b

pub part_small : (L : Shape) (key : ℕ) → part L key < L.parts
part_small L key = mod-lt key L.parts_some

pub rises_same : (t : ℕ → ℕ → PerSite) → Rises t t
rises_same t s n = covers_self (t s n)

pub rises_set : (t : ℕ → ℕ → PerSite) (s n : ℕ) (m : PerSite) → Covers m (t s n) → Rises t (set2 t s n m)
rises_set t s n m c s' n' =
    set2_cases t s n m s' n' (λ x. Covers x (t s' n')) (λ e f. rw (e, f) c) (λ _. covers_self (t s' n'))

pub grown_same : (opened : ℕ) (t : ℕ → SessionState) → Grown opened t t
grown_same opened t i l = (refl, covers_self (t i).depends, covers_self (t i).knows)

pub grown_set : (opened : ℕ) (t : ℕ → SessionState) (i : ℕ) (x : SessionState) → x.site ≡ (t i).site
    → Covers x.depends (t i).depends → Covers x.knows (t i).knows → Grown opened t (set1 t i x)
grown_set opened t i x a b c j l =
    set1_cases t i x j (λ y. (y.site ≡ (t j).site) × Covers y.depends (t j).depends × Covers y.knows (t j).knows)
    (λ e. rw e (a, b, c)) (λ _. grown_same opened t j l)

pub had_rises : (L : Shape) {old new : ℕ → ℕ → PerSite} (s : ℕ) (v : Version) → Rises old new → Had L old s v
    → Had L new s v
had_rises L {old} {new} s v r h =
    le_trans h (covers_at (new s (part L v.key)) (old s (part L v.key)) v.source (r s (part L v.key)))

pub below_rises : (L : Shape) {old new : ℕ → ℕ → PerSite} (s : ℕ) (m : PerSite) → Rises old new → Below L old s m
    → Below L new s m
below_rises L s m r b n l = covers_trans (r s n) (b n l)

pub stands_safer : {k : Kind} {vs : List Version} {safe safe' : PerSite} {v : Version} → Covers safe' safe
    → StandsIn k vs safe v → StandsIn k vs safe' v
stands_safer {k = k} {safe = safe} {safe' = safe'} {v = v} up x =
    record { other = x.other; there = x.there; same_key = x.same_key; how = go x.how }
  where
    go : (x.other ≡ v) ⊎ (IsLater (name_of x.other) (name_of v) × Covers safe (full_mark k x.other))
        → (x.other ≡ v) ⊎ (IsLater (name_of x.other) (name_of v) × Covers safe' (full_mark k x.other))
    go (inl e) = inl e
    go (inr (l, c)) = inr (l, covers_trans up c)

module _ {k : Kind} {L : Shape} where
  pub reached_rises : {received received' : ℕ → ℕ → PerSite} {log log' : List Version} {s : ℕ}
      {mark mark' clear clear' : PerSite} {p : Put} →
      Rises received received' → Sub log log' → Covers mark' mark → Covers clear' clear →
      Reached k L received log s mark clear p → Reached k L received' log' s mark' clear' p
  reached_rises {s = s} {clear = clear} {clear' = clear'} r sub m c h = record {
    version = h.version;
    logged = sub h.version h.logged;
    named = h.named;
    covered = covers_trans m h.covered;
    here = had_rises L s h.version r h.here;
    seen = go h.seen;
  }
    where
      go : (h.version.source ≡ s) ⊎ Covers clear (full_mark k h.version)
          → (h.version.source ≡ s) ⊎ Covers clear' (full_mark k h.version)
      go (inl e) = inl e
      go (inr d) = inr (covers_trans c d)

  pub before_rises : {received received' stable stable' : ℕ → ℕ → PerSite} {log log' : List Version} {u p : Put} →
      Rises received received' → Sub log log' → Rises stable stable' → Before k L received stable log u p
      → Before k L received' stable' log' u p
  before_rises r sub st b = record {
    writer = b.writer;
    logged = sub b.writer b.logged;
    named = b.named;
    reached = reached_rises r sub (covers_self b.writer.mark) (st _ _) b.reached;
  }

  pub pasts_rise : {P : Pasts} {received received' stable stable' : ℕ → ℕ → PerSite} {opened : ℕ}
      {session session' : ℕ → SessionState} {log log' : List Version} →
      Rises received received' → Rises stable stable' → Grown opened session session' → Sub log log' →
      PastInv k L P received stable opened session log → PastInv k L P received' stable' opened session' log'
  pasts_rise {received' = received'} {session = session} {session' = session'} {log' = log'} r st gr sub h = record {
    open_only = h.open_only;
    of_session_lem = λ i p q. let l = h.open_only i p q in let g = gr i l in
        subst (λ (s : ℕ). Reached k L received' log' s (session' i).depends (session' i).knows p) (sym g.0)
        (reached_rises r sub g.1 g.2 (h.of_session_lem i p q));
    of_put_lem = λ u p q. before_rises r sub st (h.of_put_lem u p q);
  }

  pub holds_safer : {received : ℕ → ℕ → PerSite} {held : ℕ → ℕ → List Version} {safe safe' : ℕ → PerSite}
      {log : List Version} →
      ((s : ℕ) → s < L.sites → Covers (safe' s) (safe s)) → HeldInv k L received held safe log
      → HeldInv k L received held safe' log
  holds_safer up h = record { had = h.had; kept = λ v s l i w. stands_safer (up s l) (h.kept v s l i w) }

  -- what was received only rises
  pub marks_received : {received received' reported stable : ℕ → ℕ → PerSite} →
      Rises received received' → ((s n : ℕ) → HasStamps (received' s n)) → ServerMarks k L received reported stable
      → ServerMarks k L received' reported stable
  marks_received r st h = record {
    received_stamps = st;
    reported_mark = h.reported_mark;
    reported_below = λ s n. covers_trans (r s n) (h.reported_below s n);
    stable_mark = h.stable_mark;
    stable_below = λ s n. below_rises L s _ r (h.stable_below s n);
  }

  pub session_received : {received received' : ℕ → ℕ → PerSite} {x : SessionState} → Rises received received'
      → SessionInv k L received x → SessionInv k L received' x
  session_received {x = x} r h = record {
    inside = h.inside;
    depends_mark = h.depends_mark;
    knows_mark = h.knows_mark;
    knows_below = below_rises L x.site x.knows r h.knows_below;
  }

  pub cuts_received : {received received' : ℕ → ℕ → PerSite} {next : ℕ} {cut_of : ℕ → PerSite} {snap_site : ℕ → ℕ}
      → Rises received received' → CutInv k L received next cut_of snap_site
      → CutInv k L received' next cut_of snap_site
  cuts_received r h =
      record { cut_mark = h.cut_mark; cut_below = λ q l. below_rises L _ _ r (h.cut_below q l); cut_site = h.cut_site }

  -- ---- effects

  -- the safe marks rise
  pub safer : {P : Pasts} {T : Tables} {G : Ghost} (safe : ℕ → PerSite)
      → ((s : ℕ) → s < L.sites → Covers (safe s) (T.safe s)) → Core k L P T G → Core k L P (with_safe T safe) G
  safer safe up h = record {
    logs = h.logs;
    queues = h.queues;
    holds = holds_safer up h.holds;
    marks = h.marks;
    sessions = h.sessions;
    seats = h.seats;
    cuts = h.cuts;
    pasts = h.pasts;
  }

  -- the stable mark of (s, n) rises to m
  pub raised : {P : Pasts} {T : Tables} {G : Ghost} (s n : ℕ) (m : PerSite) → IsMark k m → Covers m (T.stable s n)
      → Below L T.received s m →
      Core k L P T G → Core k L P (with_stable T (set2 T.stable s n m) T.safe) G
  raised {T = T} s n m mk c b h =
      let up = rises_set T.stable s n m c in
      record {
        logs = h.logs;
        queues = h.queues;
        holds = h.holds;
        marks = record {
          received_stamps = h.marks.received_stamps;
          reported_mark = h.marks.reported_mark;
          reported_below = h.marks.reported_below;
          stable_mark =
              λ s' n'. set2_cases T.stable s n m s' n' (IsMark k) (λ _ _. mk) (λ _. h.marks.stable_mark s' n');
          stable_below = λ s' n'. set2_cases T.stable s n m s' n' (λ x. Below L T.received s' x) (λ e _. rw e b)
              (λ _. h.marks.stable_below s' n');
        };
        sessions = h.sessions;
        seats = h.seats;
        cuts = h.cuts;
        pasts = pasts_rise (rises_same T.received) up (grown_same T.opened T.session) (λ v i. i) h.pasts;
      }

  -- session i becomes x: at the same site, with marks that have only risen
  pub grown : {P : Pasts} {T : Tables} {G : Ghost} (i : ℕ) (x : SessionState) → x.site ≡ (T.session i).site
      → Covers x.depends (T.session i).depends → Covers x.knows (T.session i).knows →
      SessionInv k L T.received x → Core k L P T G → Core k L P (with_sessions T T.opened (set1 T.session i x)) G
  grown {T = T} {G = G} i x a b c inv h =
      let up = grown_set T.opened T.session i x a b c in
      record {
        logs = h.logs;
        queues = h.queues;
        holds = h.holds;
        marks = h.marks;
        sessions = λ j l. set1_cases T.session i x j (SessionInv k L T.received) (λ _. inv) (λ _. h.sessions j l);
        seats = λ s y e. let o = h.seats s y e in let u = up y.session o.known in record {
          known = o.known;
          covered = covers_trans u.2 o.covered;
          issued = o.issued;
          its_cut = o.its_cut;
          its_site = u.0 ∙ o.its_site;
        };
        cuts = h.cuts;
        pasts = pasts_rise (rises_same T.received) (rises_same T.stable) up (λ v j. j) h.pasts;
      }

  -- a server reports the floor of what it has received
  pub reported : {P : Pasts} {T : Tables} {G : Ghost} (s n : ℕ) (m : PerSite) → IsMark k m → Covers (T.received s n) m
      → Core k L P T G → Core k L P (with_reported T (set2 T.reported s n m)) G
  reported {T = T} s n m mk c h = record {
    logs = h.logs;
    queues = h.queues;
    holds = h.holds;
    marks = record {
      received_stamps = h.marks.received_stamps;
      reported_mark =
          λ s' n'. set2_cases T.reported s n m s' n' (IsMark k) (λ _ _. mk) (λ _. h.marks.reported_mark s' n');
      reported_below = λ s' n'. set2_cases T.reported s n m s' n' (λ x. Covers (T.received s' n') x)
          (λ e f. rw (e, f) c) (λ _. h.marks.reported_below s' n');
      stable_mark = h.marks.stable_mark;
      stable_below = h.marks.stable_below;
    };
    sessions = h.sessions;
    seats = h.seats;
    cuts = h.cuts;
    pasts = h.pasts;
  }
