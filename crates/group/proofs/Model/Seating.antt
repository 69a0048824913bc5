-- New sessions, and opening and closing snapshots.
use Rattle.std.proofs.Common.{◌≡◌, ℕ, suc, ◌<◌, Some, None, Option, sym, ap, ◌∙◌, subst, le_refl, arith}
use Rattle.stamps.specs.Rows.{PerSite, Covers}
use Rattle.stamps.specs.Kinds.{Kind, IsMark, IsLawfulKind}
use Rattle.group.specs.Model.Events.{Put}
use Rattle.group.specs.Model.Groups.{SessionState, SeatState, new_session}
use Rattle.group.specs.Model.Pasts.{Pasts, of_session}
use Rattle.group.proofs.Model.Rows.{covers_zero, zero_mark}
use Rattle.group.proofs.Model.Lists.{set1, set1_cases, set1_here, set1_other}
use Rattle.group.proofs.Model.Invariant.{Shape, Ghost, Tables, Below, SessionInv, SeatInv, Reached, Core}
use Rattle.group.proofs.Model.Effects.{with_sessions, with_seats}

pub some_same : {A : Type 0} {x y : A} → Some x ≡ Some y → x ≡ y
some_same e = cc

pub not_some : {A : Type 0} {x : A} → ◌≡◌ {A = Option A} None (Some x) → ⊥
not_some e = let z : ◌≡◌ {A = ℕ} 0 1 = cc in omega arith

module _ {k : Kind} {L : Shape} {P : Pasts} {T : Tables} {G : Ghost} (h : Core k L P T G) where
  -- a seat is freed
  pub closed : (a : ℕ) → Core k L P (with_seats T (set1 T.seat a None) T.next) G
  closed a = record {
    logs = h.logs;
    queues = h.queues;
    holds = h.holds;
    marks = h.marks;
    sessions = h.sessions;
    seats = λ b y. set1_cases T.seat a None b
        (λ z. z ≡ Some y → SeatInv T.opened T.session T.next G.cut_of G.snap_site y) (λ _ e. absurd (not_some e))
        (λ _. h.seats b y);
    cuts = h.cuts;
    pasts = h.pasts;
  }

  -- what the proof remembers of a new snapshot
  abbrev pub remembered : ℕ → PerSite → ℕ → Ghost
  remembered q m s = record { log = G.log; cut_of = set1 G.cut_of q m; snap_site = set1 G.snap_site q s }

  -- session i opens a snapshot of cut m, which it knows
  pub seated : (i a : ℕ) (m : PerSite) → i < T.opened → Covers (T.session i).knows m → IsMark k m
      → Below L T.received (T.session i).site m →
      Core k L P (with_seats T (set1 T.seat a (Some (record { session = i; serial = T.next; cut = m }))) (suc T.next))
      (remembered T.next m (T.session i).site)
  seated i a m l kn mk b = record {
    logs = h.logs;
    queues = h.queues;
    holds = h.holds;
    marks = h.marks;
    sessions = h.sessions;
    seats = seat';
    cuts = record {
      cut_mark = λ q lq. at_q q lq (λ s c. IsMark k c) mk (h.cuts.cut_mark q);
      cut_below = λ q lq. at_q q lq (λ s c. Below L T.received s c) b (h.cuts.cut_below q);
      cut_site = λ q lq. at_q q lq (λ s c. s < L.sites) (h.sessions i l).inside (h.cuts.cut_site q);
    };
    pasts = h.pasts;
  }
    where
      y : SeatState
      y = record { session = i; serial = T.next; cut = m }

      cut' : ℕ → PerSite
      cut' = set1 G.cut_of T.next m

      site' : ℕ → ℕ
      site' = set1 G.snap_site T.next (T.session i).site

      Fits : SeatState → Type 0
      Fits z = SeatInv T.opened T.session (suc T.next) cut' site' z

      new : Fits y
      new = record {
        known = l;
        covered = kn;
        issued = le_refl (suc T.next);
        its_cut = sym (set1_here G.cut_of T.next m);
        its_site =
            sym (set1_here G.snap_site T.next (T.session i).site);
      }

      seat' : (c : ℕ) (z : SeatState) → set1 T.seat a (Some y) c ≡ Some z → Fits z
      seat' c z = set1_cases T.seat a (Some y) c (λ o. o ≡ Some z → Fits z)
          (λ _ e. subst Fits (some_same e) new)
          (λ _ e.
          let o = h.seats c z e in
          let before = o.issued in
          let older : z.serial ≡ T.next → ⊥ = λ d. omega arith in
          record {
            known = o.known;
            covered = o.covered;
            issued = omega arith;
            its_cut = o.its_cut ∙ sym (set1_other G.cut_of T.next m z.serial older);
            its_site = o.its_site ∙ sym (set1_other G.snap_site T.next (T.session i).site z.serial older);
          })

      at_q : (q : ℕ) → q < suc T.next → (Q : ℕ → PerSite → Type 0) → Q (T.session i).site m
          → (q < T.next → Q (G.snap_site q) (G.cut_of q)) → Q (site' q) (cut' q)
      at_q q lq Q here old = set1_cases G.snap_site T.next (T.session i).site q (λ s. Q s (cut' q))
          (λ e. set1_cases G.cut_of T.next m q (λ c. Q (T.session i).site c) (λ _. here) (λ ne. absurd (ne e)))
          (λ ne. set1_cases G.cut_of T.next m q (λ c. Q (G.snap_site q) c) (λ e. absurd (ne e))
          (λ _. old (omega arith)))

  -- a session is opened at site s
  pub enrolled : IsLawfulKind k → (s : ℕ) → s < L.sites
      → Core k L P (with_sessions T (suc T.opened) (set1 T.session T.opened (new_session s))) G
  enrolled law s ls = record {
    logs = h.logs;
    queues = h.queues;
    holds = h.holds;
    marks = h.marks;
    sessions = λ i l. set1_cases T.session T.opened (new_session s) i (SessionInv k L T.received)
        (λ _. record {
          inside = ls;
          depends_mark = zero_mark law;
          knows_mark = zero_mark law;
          knows_below = λ n ln. covers_zero (T.received s n);
        })
        (λ ne. h.sessions i (omega arith));
    seats = λ a y e.
        let o = h.seats a y e in
        let k' = o.known in
        let old = set1_other T.session T.opened (new_session s) y.session (λ d. omega arith) in
        record {
          known = omega arith;
          covered = subst (λ (x : SessionState). Covers x.knows y.cut) (sym old) o.covered;
          issued = o.issued;
          its_cut = o.its_cut;
          its_site = ap (λ (x : SessionState). x.site) old ∙ o.its_site;
        };
    cuts = h.cuts;
    pasts = record {
      open_only = λ i p q. let l = h.pasts.open_only i p q in omega arith;
      of_session_lem = sess;
      of_put_lem = h.pasts.of_put_lem;
    };
  }
    where
      sess : (i : ℕ) (p : Put) → P (of_session i) p →
          Reached k L T.received G.log (set1 T.session T.opened (new_session s) i).site
          (set1 T.session T.opened (new_session s) i).depends (set1 T.session T.opened (new_session s) i).knows p
      sess i p q =
          let l = h.pasts.open_only i p q in
          let old = set1_other T.session T.opened (new_session s) i (λ d. omega arith) in
          subst (λ (x : SessionState). Reached k L T.received G.log x.site x.depends x.knows p) (sym old)
          (h.pasts.of_session_lem i p q)
