-- The invariant after a heartbeat, and after a put.
use Rattle.std.proofs.Common.{◌≡◌, ℕ, ◌^◌, ◌<◌, ◌≤◌, ◌⊎◌, List, [], ◌∷◌, ◌++◌, sym, refl, ap, ◌∙◌, subst, inl, inr}
use Rattle.std.proofs.Common.{⊎_elim, le_trans, le_refl, arith}
use Rattle.std.proofs.lemmas.Bool.{cases_eq}
use Rattle.stamps.specs.Rows.{PerSite, HasStamps, at, greatest, with_entry}
use Rattle.stamps.specs.Kinds.{Kind, IsMark}
use Rattle.servers.specs.declared.entry.Entry.TheVariants.{Update, Heartbeat}
use Rattle.servers.specs.declared.version.Version.{Version}
use Rattle.servers.proofs.Elements.{InList}
use Rattle.group.specs.Model.Events.{Put}
use Rattle.group.specs.Model.Pasts.{Pasts}
use Rattle.group.proofs.Model.Rows.{stamps_entry}
use Rattle.group.proofs.Model.Lists.{in_left, in_end, in_push, set2, set2_cases}
use Rattle.group.proofs.Model.Invariant.{Shape, part, Ghost, Tables, name_of, last, Had, LogInv, QueueInv, StandsIn}
use Rattle.group.proofs.Model.Invariant.{HeldInv, Core}
use Rattle.group.proofs.Model.Effects.{with_entries, Rises, Sub, rises_same, grown_same, had_rises, marks_received}
use Rattle.group.proofs.Model.Effects.{session_received, cuts_received, pasts_rise}
use Rattle.group.proofs.Model.Issuing.{receiving, sending, issue_rises, last_rises, last_here, had_back, not_had}
use Rattle.group.proofs.Model.Issuing.{queues_issue}

pub stands_grow : {k : Kind} (vs vs' : List Version) (m : PerSite) (v : Version) → Sub vs vs' → StandsIn k vs m v
    → StandsIn k vs' m v
stands_grow vs vs' m v sub x =
    record { other = x.other; there = sub x.other x.there; same_key = x.same_key; how = x.how }

pub receiving_stamps : (received : ℕ → ℕ → PerSite) (s n i t : ℕ) → ((s n : ℕ) → HasStamps (received s n)) → t < 2 ^ 63
    → (s' n' : ℕ) → HasStamps (receiving received s n i t s' n')
receiving_stamps received s n i t st l s' n' =
    set2_cases received s n (with_entry (received s n) i t) s' n' HasStamps
    (λ _ _. stamps_entry (received s n) i t (st s n) l) (λ _. st s' n')

no_heartbeat : (t : ℕ) (v : Version) → Heartbeat t ≡ Update v → ⊥
no_heartbeat t v e = let z : ◌≡◌ {A = ℕ} 0 1 = cc in omega arith

module _ {k : Kind} {L : Shape} {P : Pasts} {T : Tables} {G : Ghost} (h : Core k L P T G) (s n : ℕ)
    (in_s : s < L.sites) where
  -- a heartbeat of stamp t
  pub beaten : (t : ℕ) → last T.received s n < t → t < 2 ^ 63 →
      Core k L P (with_entries T T.held (receiving T.received s n s t) (sending L.sites T.waits s n (Heartbeat t))) G
  beaten t new small =
      let up = issue_rises L T.received T.waits G.log h.queues s n (Heartbeat t) in_s new in
      record {
        logs = record {
          source = h.logs.source;
          stamped = λ v i. le_trans (h.logs.stamped v i)
              (last_rises L T.received T.waits G.log h.queues s n (Heartbeat t) in_s new v.source (part L v.key)
              (h.logs.source v i));
          small = h.logs.small;
          marked = h.logs.marked;
          above = h.logs.above;
          unique = h.logs.unique;
        };
        queues = queues_issue L T.received T.waits G.log h.queues s n (Heartbeat t) in_s new G.log (λ v i. i)
            (λ v e. absurd (no_heartbeat t v e)) (λ v i. inl i);
        holds = record {
          had = λ v s' n' i. let o = h.holds.had v s' n' i in (o.0, o.1, had_rises L s' v up o.2);
          kept = λ v s' l' i hd. h.holds.kept v s' l' i
              (had_back L T.received T.waits G.log h.queues s n (Heartbeat t) in_s new v s' (h.logs.source v i)
              (h.logs.stamped v i) hd);
        };
        marks = marks_received up (receiving_stamps T.received s n s t h.marks.received_stamps small) h.marks;
        sessions = λ i l. session_received up (h.sessions i l);
        seats = h.seats;
        cuts = cuts_received up h.cuts;
        pasts = pasts_rise up (rises_same T.stable) (grown_same T.opened T.session) (λ v i. i) h.pasts;
      }

  abbrev pub logged : Version → Ghost
  logged v = record { log = v ∷ G.log; cut_of = G.cut_of; snap_site = G.snap_site }

  -- version v, made here, is kept and issued
  module _ (v : Version) (source : v.source ≡ s) (at_n : part L v.key ≡ n) (new : last T.received s n < v.stamp)
      (small : v.stamp < 2 ^ 63)
      (marked : IsMark k v.mark) (above : greatest v.mark < v.stamp) where
    abbrev held' : ℕ → ℕ → List Version
    held' = set2 T.held s n (T.held s n ++ (v ∷ []))

    abbrev received' : ℕ → ℕ → PerSite
    received' = receiving T.received s n s v.stamp

    up : Rises T.received (receiving T.received s n s v.stamp)
    up = issue_rises L T.received T.waits G.log h.queues s n (Update v) in_s new

    has : (w : Version) → w ≡ v → Had L received' s w
    has w e = subst (λ (x : Version). Had L received' s x) (sym e)
        (subst (λ (x : ℕ). v.stamp ≤ at (received' s (part L v.key)) x) (sym source)
        (subst (λ (x : ℕ). v.stamp ≤ at (received' s x) s) (sym at_n)
        (subst (λ (x : ℕ). v.stamp ≤ x) (sym (last_here L T.received T.waits G.log h.queues s n (Update v) in_s new))
        (le_refl v.stamp))))

    kept_logs : LogInv k L received' (v ∷ G.log)
    kept_logs = record { source = src; stamped = stm; small = sml; marked = mrk; above = abv; unique = unq }
      where
        src : (w : Version) → InList w (v ∷ G.log) → w.source < L.sites
        src w (inl e) =
            subst (λ (x : Version). x.source < L.sites) (sym e) (subst (λ (x : ℕ). x < L.sites) (sym source) in_s)
        src w (inr j) = h.logs.source w j

        stm : (w : Version) → InList w (v ∷ G.log) → w.stamp ≤ last received' w.source (part L w.key)
        stm w (inl e) = subst (λ (x : ℕ). w.stamp ≤ at (received' x (part L w.key)) w.source)
            (sym (ap (λ (x : Version). x.source) e ∙ source)) (has w e)
        stm w (inr j) = le_trans (h.logs.stamped w j)
            (last_rises L T.received T.waits G.log h.queues s n (Update v) in_s new w.source (part L w.key)
            (h.logs.source w j))

        sml : (w : Version) → InList w (v ∷ G.log) → w.stamp < 2 ^ 63
        sml w (inl e) = subst (λ (x : Version). x.stamp < 2 ^ 63) (sym e) small
        sml w (inr j) = h.logs.small w j

        mrk : (w : Version) → InList w (v ∷ G.log) → IsMark k w.mark
        mrk w (inl e) = subst (λ (x : Version). IsMark k x.mark) (sym e) marked
        mrk w (inr j) = h.logs.marked w j

        abv : (w : Version) → InList w (v ∷ G.log) → greatest w.mark < w.stamp
        abv w (inl e) = subst (λ (x : Version). greatest x.mark < x.stamp) (sym e) above
        abv w (inr j) = h.logs.above w j

        -- no version of the log has the new name
        clash : (w : Version) → InList w G.log → name_of w ≡ name_of v → ⊥
        clash w j e =
            let old : v.stamp ≤ last T.received v.source (part L v.key) =
            subst (λ (p : Put). p.stamp ≤ last T.received p.source (part L p.key)) e (h.logs.stamped w j) in
            let low : v.stamp ≤ last T.received s n =
            subst (λ (x : ℕ). v.stamp ≤ last T.received s x) at_n
            (subst (λ (x : ℕ). v.stamp ≤ last T.received x (part L v.key)) source old) in
            omega arith

        unq : (w x : Version) → InList w (v ∷ G.log) → InList x (v ∷ G.log) → name_of w ≡ name_of x → w ≡ x
        unq w x (inl a) (inl b) e = a ∙ sym b
        unq w x (inl a) (inr b) e = absurd (clash x b (sym e ∙ ap name_of a))
        unq w x (inr a) (inl b) e = absurd (clash w a (e ∙ ap name_of b))
        unq w x (inr a) (inr b) e = h.logs.unique w x a b e

    update_same : (w x : Version) → Update w ≡ Update x → x ≡ w
    update_same w x e = cc

    kept_queues : QueueInv L received' (sending L.sites T.waits s n (Update v)) (v ∷ G.log)
    kept_queues = queues_issue L T.received T.waits G.log h.queues s n (Update v) in_s new (v ∷ G.log) (λ w j. inr j)
        (λ w e. let same = update_same v w e in (
          inl same,
          ap (λ (x : Version). x.source) same
              ∙ source,
          ap (λ (x : Version). part L x.key) same ∙ at_n,
        )) cover
      where
        cover : (w : Version) → InList w (v ∷ G.log)
            → InList w G.log ⊎ ((Update v ≡ Update w) × (w.source ≡ s) × (part L w.key ≡ n))
        cover w (inl e) = inr (
          ap Update (sym e),
          ap (λ (x : Version). x.source) e
              ∙ source,
          ap (λ (x : Version). part L x.key) e ∙ at_n,
        )
        cover w (inr j) = inl j

    kept_holds : HeldInv k L received' held' T.safe (v ∷ G.log)
    kept_holds = record { had = had'; kept = kept' }
      where
        had' : (w : Version) (s' n' : ℕ) → InList w (held' s' n')
            → InList w (v ∷ G.log) × (part L w.key ≡ n') × Had L received' s' w
        had' w s' n' = set2_cases T.held s n (T.held s n ++ (v ∷ [])) s' n'
            (λ vs. InList w vs → InList w (v ∷ G.log) × (part L w.key ≡ n') × Had L received' s' w)
            (λ a b j. rw (a, b) (⊎_elim (old s n) (λ e. (inl e, ap (λ (x : Version). part L x.key) e ∙ at_n, has w e))
            (in_push w (T.held s n) v j)))
            (λ _ j. old s' n' j)
          where
            old : (s'' n'' : ℕ) → InList w (T.held s'' n'')
                → InList w (v ∷ G.log) × (part L w.key ≡ n'') × Had L received' s'' w
            old s'' n'' j = let o = h.holds.had w s'' n'' j in (inr o.0, o.1, had_rises L s'' w up o.2)

        grow : (w : Version) (s' n' : ℕ) → InList w (T.held s' n') → InList w (held' s' n')
        grow w s' n' j = set2_cases T.held s n (T.held s n ++ (v ∷ [])) s' n' (InList w)
            (λ a b. in_left w (T.held s n) (v ∷ []) (rw (a, b) at j)) (λ _. j)

        itself : InList v (held' s n)
        itself = set2_cases T.held s n (T.held s n ++ (v ∷ [])) s n (InList v) (λ _ _. in_end (T.held s n) v)
            (λ no'. absurd (no' refl refl))

        kept' : (w : Version) (s' : ℕ) → s' < L.sites → InList w (v ∷ G.log) → Had L received' s' w
            → StandsIn k (held' s' (part L w.key)) (T.safe s') w
        kept' w s' l' (inr j) hd = stands_grow _ _ _ w (λ x m. grow x s' (part L w.key) m)
            (h.holds.kept w s' l' j (had_back L T.received T.waits G.log h.queues s n (Update v) in_s new w s'
            (h.logs.source w j) (h.logs.stamped w j) hd))
        kept' w s' l' (inl e) hd = ⊎_elim
            (λ a. record {
              other = w;
              there = subst (λ (x : Version). InList x (held' s' (part L x.key))) (sym e)
                  (subst (λ (x : ℕ). InList v (held' x (part L v.key))) (sym a)
                  (subst (λ (x : ℕ). InList v (held' s x)) (sym at_n) itself));
              same_key = refl;
              how = inl refl;
            })
            (λ ne. absurd (not_had L T.received T.waits G.log h.queues s n (Update v) in_s new w s' l' ne
            (ap (λ (x : Version). x.source) e ∙ source) (ap (λ (x : Version). part L x.key) e ∙ at_n)
            (ap (λ (x : Version). x.stamp) e) hd))
            (cases_eq s' s)

    pub kept : Core k L P (with_entries T (set2 T.held s n (T.held s n ++ (v ∷ [])))
        (receiving T.received s n s v.stamp) (sending L.sites T.waits s n (Update v))) (logged v)
    kept = record {
      logs = kept_logs;
      queues = kept_queues;
      holds = kept_holds;
      marks = marks_received up (receiving_stamps T.received s n s v.stamp h.marks.received_stamps small) h.marks;
      sessions = λ i l. session_received up (h.sessions i l);
      seats = h.seats;
      cuts = cuts_received up h.cuts;
      pasts = pasts_rise up (rises_same T.stable) (grown_same T.opened T.session) (λ w j. inr j) h.pasts;
    }
