-- Opening, reading and closing a snapshot keep the invariant.
use Rattle.std.proofs.Common.{◌≡◌, ℕ, suc, ◌-◌, ◌^◌, ◌<◌, ◌≤◌, cond, eqb, ltb, leb, ◌⊎◌, ◌∷◌, length, Some, None, Ok}
use Rattle.std.proofs.Common.{Err, Option, Result, sym, refl, ap, ◌∙◌, subst, inl, inr, ⊎_elim, arith, length-set}
use Rattle.std.proofs.lemmas.Bool.{cond_both, eqb-true, leb-false, ltb-true}
use Rattle.stamps.specs.declared.refusal.Refusal.{Refusal}
use Rattle.stamps.specs.declared.refusal.Refusal.TheVariants.{NotInLayout, NoSession, NoneFree, NotOpen, End}
use Rattle.stamps.specs.Rows.{PerSite, Covers, join}
use Rattle.stamps.specs.Kinds.{Kind, IsMark, IsLawfulKind}
use Rattle.servers.specs.Laws.{IsLatest}
use Rattle.servers.specs.Servers.{ServerState, server_raise as raised_server, latest_covered}
use Rattle.servers.specs.Tables.{is_covered}
use Rattle.servers.specs.Versions.{full_mark}
use Rattle.servers.specs.declared.version.Version.{Version}
use Rattle.servers.proofs.Elements.{InList, in_list}
use Rattle.servers.proofs.Latest.{latest_law}
use Rattle.group.specs.Model.Calls.{with_depends, informed_server, learn, on_seat, on_seat_of, on_session, show}
use Rattle.group.specs.Model.Calls.{shown_of, open_snapshot_at}
use Rattle.group.specs.Model.Events.{Put, Shown, put_shown, Ticket, open_snapshot, read, close, what_is_told}
use Rattle.group.specs.Model.Events.{snapshot_opened, read_by, snapshot_closed, Done, History}
use Rattle.group.specs.Model.Groups.{GroupState, SessionState, SeatState, partition_of, session_at, seat_at}
use Rattle.group.specs.Model.Groups.{with_server, with_session, with_seat, lowest_free}
use Rattle.group.specs.Model.Pasts.{HasInPast, pasts_with_shown, reader_of}
use Rattle.group.specs.Model.Promises.{IsOpen}
use Rattle.group.proofs.Model.Rows.{covers_self, covers_trans, covers_true, floor_mark, floor_under}
use Rattle.group.proofs.Model.Lists.{set1, set1_cases, set1_here, set1_other, set2_here, get_d_set}
use Rattle.group.proofs.Model.Invariant.{Shape, Ghost, tables, part, Had, Below, SeatInv, Core}
use Rattle.group.proofs.Model.Seating.{some_same, not_some}
use Rattle.group.proofs.Model.Safe.{safe_cut}
use Rattle.group.proofs.Model.Views.{lowest_free_lem, seat_inside, session_sites}
use Rattle.group.proofs.Model.GroupEffects.{shape, raise_server, open_seat, close_seat, safe_rows_lem}
use Rattle.group.proofs.Model.Showing.{Best, best_read}
use Rattle.group.proofs.Model.Histories.{ServerFrame, ReadRight, shown_option, Inv, Grows, grows_same, read_grows, Kept}
use Rattle.group.proofs.Model.Histories.{refused_kept, still_opened}
use Rattle.group.proofs.Model.ServerSteps.{server_frames}
use Rattle.group.proofs.Model.SessionSteps.{see_core, learn_core, learn_frame, learn_opened, learn_sites, learn_session}

not_closed : (t u : Ticket) (key : ℕ) (o : Option Shown) → read_by t key o ≡ snapshot_closed u → ⊥
not_closed t u key o e = let z : ◌≡◌ {A = ℕ} 0 1 = cc in omega arith

not_snapshot : (t u : Ticket) (key i : ℕ) (o : Option Shown) → read_by t key o ≡ snapshot_opened i u → ⊥
not_snapshot t u key i o e = let z : ◌≡◌ {A = ℕ} 0 1 = cc in omega arith

read_same : (t u : Ticket) (key j : ℕ) (o p : Option Shown) → read_by t key o ≡ read_by u j p
    → (t ≡ u) × (key ≡ j) × (o ≡ p)
read_same t u key j o p e = (cc, cc, cc)

module _ {k : Kind} (law : IsLawfulKind k) {sites : ℕ} {h : History} {g : GroupState} {G : Ghost}
    (v : Inv k sites h g G) where
  abbrev L : Shape
  L = shape g v.frame.layout.few_sites v.frame.layout.some_partitions

  -- ---- closing

  pub keeps_close : (t : Ticket) →
      let r = on_seat {A = Done} g t (λ y. (Ok tt, with_seat g t.seat None g.next_serial)) in
      Kept k sites h g G (what_is_told (close t) r.0) r.1
  keeps_close t = at_seat (seat_at g t.seat) refl
    where
      Fine : Result Done Refusal × GroupState → Type 0
      Fine r = Kept k sites h g G (what_is_told (close t) r.0) r.1

      g' : GroupState
      g' = with_seat g t.seat None g.next_serial

      seats' : t.seat < length g.seats → (b : ℕ) (y : SeatState) → seat_at g' b ≡ Some y
          → set1 (seat_at g) t.seat None b ≡ Some y
      seats' la b y e = sym (ap (λ (f : ℕ → Option SeatState). f b) (get_d_set g.seats t.seat None None la)) ∙ e

      -- what is open and not this snapshot is still open
      still : (y : SeatState) → seat_at g t.seat ≡ Some y → y.serial ≡ t.serial → t.seat < length g.seats →
          (u : Ticket) → (u ≡ t → ⊥) × IsOpen u h
          → (z : SeatState) × (seat_at g' u.seat ≡ Some z) × (z.serial ≡ u.serial)
      still y there same la u (ne, op) =
          let o = v.hist.open_known u op in (
            o.0,
            ap (λ (f : ℕ → Option SeatState). f u.seat) (get_d_set g.seats t.seat None None la)
                ∙ set1_cases (seat_at g) t.seat None u.seat (λ z. z ≡ Some o.0)
                (λ d.
                let one : y ≡ o.0 = some_same (sym there ∙ (ap (seat_at g) (sym d) ∙ o.1)) in
                let serials : u.serial ≡ t.serial = sym o.2 ∙ (ap (λ (z : SeatState). z.serial) (sym one) ∙ same) in
                absurd (ne (λ i. record { seat = d i; serial = serials i })))
                (λ _. o.1),
            o.2,
          )

      closed : (y : SeatState) → seat_at g t.seat ≡ Some y → y.serial ≡ t.serial
          → Kept k sites h g G (snapshot_closed t) g'
      closed y there same =
          let la = seat_inside g.seats t.seat y there in
          record {
            ghost = G;
            inv = record {
              frame = record {
                layout = v.frame.layout;
                servers = v.frame.servers;
                sessions = v.frame.sessions;
                seats = length-set g.seats t.seat None ∙ v.frame.seats;
                serials = v.frame.serials;
              };
              layout = v.layout;
              core = close_seat law g v.frame.layout.few_sites v.frame.layout.some_partitions v.core t.seat la;
              hist = record {
                opened_known = v.hist.opened_known;
                sites_known = v.hist.sites_known;
                readers_known = λ b z e. set1_cases (seat_at g) t.seat None b
                    (λ o. o ≡ Some z → reader_of h z.serial ≡ z.session) (λ _ f. absurd (not_some f))
                    (λ _ f. v.hist.readers_known b z f) (seats' la b z e);
                open_known = λ u op. still y there same la u op;
              };
              reads = λ u key o i. ⊎_elim (λ e. absurd (not_closed u t key o e)) (v.reads u key o) i;
              written = v.written;
              logged = v.logged;
            };
            grows = grows_same k g.next_serial G;
          }

      at_seat : (o : Option SeatState) → seat_at g t.seat ≡ o
          → Fine (on_seat_of {A = Done} g t.serial o (λ y. (Ok tt, with_seat g t.seat None g.next_serial)))
      at_seat None e = refused_kept v
      at_seat (Some y) e = cond_both {A = Result Done Refusal × GroupState} (eqb y.serial t.serial) (Ok tt, g')
          (Err NotOpen, g) Fine (λ s. closed y e (eqb-true _ _ s)) (λ _. refused_kept v)

  -- ---- opening

  pub keeps_snapshot : (i n : ℕ) →
      let r = cond {A = Result Ticket Refusal × GroupState} (ltb n g.partitions)
      (on_session g i (λ x. open_snapshot_at k g i x n (lowest_free g.seats))) (Err NotInLayout, g) in
      Kept k sites h g G (what_is_told (open_snapshot i n) r.0) r.1
  keeps_snapshot i n =
      cond_both {A = Result Ticket Refusal × GroupState} (ltb n g.partitions) _ (Err NotInLayout, g) Fine
      (λ ln. cond_both {A = Result Ticket Refusal × GroupState} (ltb i (length g.sessions)) _ (Err NoSession, g) Fine
      (λ li. cond_both {A = Result Ticket Refusal × GroupState} (leb 4 seat) (Err NoneFree, g) _ Fine
      (λ _. refused_kept v)
      (λ free. cond_both {A = Result Ticket Refusal × GroupState} (leb (2 ^ 32 - 1) g.next_serial) (Err End, g)
      (Ok ticket, g') Fine
      (λ _. refused_kept v)
      (λ more. opened (ltb-true _ _ ln) (ltb-true _ _ li) (leb-false _ _ free) (leb-false _ _ more))))
      (λ _. refused_kept v))
      (λ _. refused_kept v)
    where
      Fine : Result Ticket Refusal × GroupState → Type 0
      Fine r = Kept k sites h g G (what_is_told (open_snapshot i n) r.0) r.1

      seat : ℕ
      seat = lowest_free g.seats

      next : ℕ
      next = g.next_serial

      ticket : Ticket
      ticket = record { seat = lowest_free g.seats; serial = g.next_serial }

      heard : ServerState
      heard = informed_server k g (session_at g i) n

      m : PerSite
      m = heard.marks.stable

      y : SeatState
      y = record { session = i; serial = g.next_serial; cut = (informed_server k g (session_at g i) n).marks.stable }

      g1 : GroupState
      g1 = learn k g i (session_at g i) n

      g' : GroupState
      g' = with_seat (learn k g i (session_at g i) n) (lowest_free g.seats)
          (Some (record {
            session = i;
            serial = g.next_serial;
            cut = (informed_server k g (session_at g i) n).marks.stable;
          })) (suc g.next_serial)

      opened : n < g.partitions → i < length g.sessions → seat < 4 → next < 2 ^ 32 - 1
          → Kept k sites h g G (snapshot_opened i ticket) g'
      opened ln li free more = record {
        ghost = G';
        inv = record {
          frame = record {
            layout = v.frame.layout;
            servers = (learn_frame law v i n li).servers;
            sessions = (learn_frame law v i n li).sessions;
            seats = length-set g.seats (lowest_free g.seats) (Some y) ∙ v.frame.seats;
            serials = omega arith;
          };
          layout = v.layout;
          core = open_seat law g1 v.frame.layout.few_sites v.frame.layout.some_partitions core1 i (lowest_free g.seats)
              n m li1 la ln marked known high low;
          hist = record {
            opened_known = learn_opened law v i n li;
            sites_known = learn_sites law v i n li;
            readers_known = readers';
            open_known = open';
          };
          reads = λ t key o j. ⊎_elim (λ e. absurd (not_snapshot t ticket key i o e))
              (λ j'. read_grows grows t key o (v.reads t key o j')) j;
          written = v.written;
          logged = v.logged;
        };
        grows = grows;
      }
        where
          core1 : Core k L (HasInPast h) (tables k g1) G
          core1 = learn_core law v i n li

          here : session_at g1 i ≡ record {
            site = (session_at g i).site;
            depends = (session_at g i).depends;
            knows = heard.marks.stable;
          }
          here = learn_session law v i n li

          G' : Ghost
          G' = record {
            log = G.log;
            cut_of = set1 G.cut_of g.next_serial m;
            snap_site = set1 G.snap_site g.next_serial (session_at g1 i).site;
          }

          li1 : i < length g1.sessions
          li1 = subst (λ (z : ℕ). i < z) (sym (length-set g.sessions i _)) li

          la : lowest_free g.seats < length g.seats
          la = subst (λ (z : ℕ). lowest_free g.seats < z) (sym v.frame.seats) free

          at_server : g1.server (session_at g i).site n ≡ heard
          at_server = set2_here g.server (session_at g i).site n heard

          marked : IsMark k m
          marked = subst (λ (z : ServerState). IsMark k z.marks.stable) at_server
              (core1.marks.stable_mark (session_at g i).site n)

          known : Covers (session_at g1 i).knows m
          known = subst (λ (z : SessionState). Covers z.knows m) (sym here) (covers_self m)

          high : Covers m (g1.server (session_at g1 i).site n).marks.stable
          high = subst (λ (z : SessionState). Covers m (g1.server z.site n).marks.stable) (sym here)
              (subst (λ (z : ServerState). Covers m z.marks.stable) (sym at_server) (covers_self m))

          low : Below L (λ a b. (g1.server a b).marks.received) (session_at g1 i).site m
          low = subst (λ (z : SessionState). Below L (λ a b. (g1.server a b).marks.received) z.site m) (sym here)
              (subst (λ (z : ServerState). Below L (λ a b. (g1.server a b).marks.received) (session_at g i).site
              z.marks.stable) at_server (core1.marks.stable_below (session_at g i).site n))

          older : (q : ℕ) → q < g.next_serial → q ≡ g.next_serial → ⊥
          older q lq e = omega arith

          grows : Grows k g.next_serial (suc g.next_serial) G G'
          grows = record {
            more = omega arith;
            same_cut = λ q lq. set1_other G.cut_of g.next_serial m q (older q lq);
            best = λ q lq key o b. b;
          }

          seats' : (λ b. seat_at g' b) ≡ set1 (seat_at g) (lowest_free g.seats) (Some y)
          seats' = get_d_set g.seats (lowest_free g.seats) (Some y) None la

          readers' : (b : ℕ) (z : SeatState) → seat_at g' b ≡ Some z
              → cond (eqb z.serial g.next_serial) i (reader_of h z.serial) ≡ z.session
          readers' b z e = set1_cases (seat_at g) (lowest_free g.seats) (Some y) b
              (λ o. o ≡ Some z → cond (eqb z.serial g.next_serial) i (reader_of h z.serial) ≡ z.session)
              (λ _ f. subst (λ (w : SeatState). cond (eqb w.serial g.next_serial) i (reader_of h w.serial) ≡ w.session)
              (some_same f) (set1_here (reader_of h) g.next_serial i))
              (λ _ f. set1_other (reader_of h) g.next_serial i z.serial (older z.serial (v.core.seats b z f).issued)
              ∙ v.hist.readers_known b z f)
              (sym (ap (λ (f : ℕ → Option SeatState). f b) seats') ∙ e)

          open' : (t : Ticket) → (t ≡ ticket) ⊎ IsOpen t h
              → (z : SeatState) × (seat_at g' t.seat ≡ Some z) × (z.serial ≡ t.serial)
          open' t (inl e) =
              subst (λ (u : Ticket). (z : SeatState) × (seat_at g' u.seat ≡ Some z) × (z.serial ≡ u.serial)) (sym e) (
                y,
                ap (λ (f : ℕ → Option SeatState). f (lowest_free g.seats)) seats'
                    ∙ set1_here (seat_at g) (lowest_free g.seats) (Some y),
                refl,
              )
          open' t (inr op) =
              let o = v.hist.open_known t op in (
                o.0,
                ap (λ (f : ℕ → Option SeatState). f t.seat) seats'
                    ∙ set1_cases (seat_at g) (lowest_free g.seats) (Some y) t.seat (λ z. z ≡ Some o.0)
                    (λ d. absurd (not_some (sym (lowest_free_lem g.seats) ∙ (ap (seat_at g) (sym d) ∙ o.1))))
                    (λ _. o.1),
                o.2,
              )

  -- ---- reading

  module _ (a : ℕ) (y : SeatState) (there : seat_at g a ≡ Some y) (key : ℕ) where
    abbrev x : SessionState
    x = session_at g y.session

    abbrev s : ℕ
    s = (session_at g y.session).site

    abbrev n : ℕ
    n = partition_of g key

    seat : SeatInv (length g.sessions) (session_at g) g.next_serial G.cut_of G.snap_site y
    seat = v.core.seats a y there

    pub cut_mark : IsMark k y.cut
    cut_mark = subst (IsMark k) (sym seat.its_cut) (v.core.cuts.cut_mark y.serial seat.issued)

    pub cut_below : Below L (λ i j. (g.server i j).marks.received) s y.cut
    cut_below = subst (λ (z : ℕ). Below L (λ i j. (g.server i j).marks.received) z y.cut) (sym seat.its_site)
        (subst (Below L (λ i j. (g.server i j).marks.received) (G.snap_site y.serial)) (sym seat.its_cut)
        (v.core.cuts.cut_below y.serial seat.issued))

    -- what the snapshot reads is the latest version in the log that its cut covers
    pub read_best : (o : Option Version) → IsLatest (is_covered k (k.floor y.cut)) key (g.server s n).held o
        → Best k G.log (G.cut_of y.serial) key o
    read_best o best = subst (λ (m : PerSite). Best k G.log m key o) seat.its_cut
        (best_read law L v.core y.cut s key (v.core.sessions y.session seat.known).inside cut_below
        (safe_cut law g s (safe_rows_lem law g v.frame.layout.few_sites v.frame.layout.some_partitions v.core s) a y
        there refl) o
        (subst (λ (m : PerSite). IsLatest (is_covered k m) key (g.server s n).held o)
        (law.floor_own y.cut cut_mark.0 cut_mark.1) best))

    abbrev server' : ServerState
    server' = raised_server k (g.server s n) (k.floor y.cut)

    abbrev g1 : GroupState
    g1 = with_server g s n server'

    core1 : Core k L (HasInPast h) (tables k g1) G
    core1 = raise_server law g v.frame.layout.few_sites v.frame.layout.some_partitions v.core s n (k.floor y.cut)
        (floor_mark law cut_mark.0) (λ n' ln. covers_trans (cut_below n' ln) (floor_under law cut_mark.0))

    frames : (s' n' : ℕ) → ServerFrame g.sites s' (g1.server s' n')
    frames = server_frames law v s n server' (let f = v.frame.servers s n in
        record {
          site_is = f.site_is;
          sites_is = f.sites_is;
          versions = f.versions;
          entries = f.entries;
          reading = f.reading;
        })

    -- what this read answers is right, and so is what was read before
    reads_right : (t : Ticket) → y.serial ≡ t.serial → (o : Option Version)
        → IsLatest (is_covered k (k.floor y.cut)) key (g.server s n).held o →
        (u : Ticket) (j : ℕ) (p : Option Shown) → InList (read_by u j p) (read_by t key (shown_option o) ∷ h)
        → ReadRight k G g.next_serial u j p
    reads_right t same o best u j p (inl e) =
        let q = read_same u t j key p (shown_option o) e in
        let serials : y.serial ≡ u.serial = same ∙ sym (ap (λ (z : Ticket). z.serial) q.0) in
        record {
          found = o;
          is = q.2;
          issued = subst (λ (z : ℕ). z < g.next_serial) serials seat.issued;
          best = subst (λ (z : ℕ). Best k G.log (G.cut_of u.serial) z o) (sym q.1)
              (subst (λ (z : ℕ). Best k G.log (G.cut_of z) key o) serials (read_best o best));
        }
    reads_right t same o best u j p (inr i) = v.reads u j p i

    pub read_kept : (t : Ticket) → t.seat ≡ a → y.serial ≡ t.serial → (o : Option Version)
        → IsLatest (is_covered k (k.floor y.cut)) key (g.server s n).held o →
        Kept k sites h g G (what_is_told (read t key) (show k g1 y.session o).0) (show k g1 y.session o).1
    read_kept t at_a same None best = record {
      ghost = G;
      inv = record {
        frame = record {
          layout = v.frame.layout;
          servers = frames;
          sessions = v.frame.sessions;
          seats = v.frame.seats;
          serials = v.frame.serials;
        };
        layout = v.layout;
        core = core1;
        hist = record {
          opened_known = v.hist.opened_known;
          sites_known = v.hist.sites_known;
          readers_known = v.hist.readers_known;
          open_known = v.hist.open_known;
        };
        reads = reads_right t same None best;
        written = v.written;
        logged = v.logged;
      };
      grows = grows_same k g.next_serial G;
    }
    read_kept t at_a same (Some w) best = record {
      ghost = G;
      inv = record {
        frame = record {
          layout = v.frame.layout;
          servers = frames;
          sessions = subst (λ (z : ℕ). z ≤ 8) (sym (length-set g.sessions y.session x2)) v.frame.sessions;
          seats = v.frame.seats;
          serials = v.frame.serials;
        };
        layout = v.layout;
        core = subst (λ (z : ℕ). Core k L (pasts_with_shown (HasInPast h) z (put_shown key (shown_of w)))
            (tables k (with_session g1 y.session x2)) G) (sym (v.hist.readers_known a y there) ∙ ap (reader_of h) same)
            (subst (λ (p : Put). Core k L (pasts_with_shown (HasInPast h) y.session p)
            (tables k (with_session g1 y.session x2)) G)
            (ap (λ (z : ℕ). record { key = z; stamp = w.stamp; source = w.source }) best.1.0)
            (see_core law g1 v.frame.layout.few_sites v.frame.layout.some_partitions core1 y.session w seat.known
            had_there.0 had_there.2 (inr clear)));
        hist = record {
          opened_known = still_opened v (length-set g.sessions y.session x2);
          sites_known = λ j lj. v.hist.sites_known j (subst (λ (z : ℕ). j < z) (length-set g.sessions y.session x2) lj)
              ∙ sym (session_sites g1 y.session x2 seat.known refl j);
          readers_known = v.hist.readers_known;
          open_known = v.hist.open_known;
        };
        reads = reads_right t same (Some w) best;
        written = v.written;
        logged = v.logged;
      };
      grows = grows_same k g.next_serial G;
    }
      where
        x2 : SessionState
        x2 = with_depends (session_at g y.session) (join (k.floor (session_at g y.session).depends) (full_mark k w))

        had_there : InList w G.log × (part L w.key ≡ n) × Had L (λ i j. (g1.server i j).marks.received) s w
        had_there = core1.holds.had w s n (subst (λ (z : ServerState). InList w z.held)
            (sym (set2_here g.server s n server')) (in_list (g.server s n).held w best.0))

        clear : Covers x.knows (full_mark k w)
        clear = covers_trans seat.covered (covers_trans (floor_under law cut_mark.0)
            (covers_true (k.floor y.cut) (full_mark k w) best.1.1))

  pub keeps_read : (t : Ticket) (key : ℕ) →
      let r = on_seat {A = Option Shown} g t (λ y.
      let x = session_at g y.session in
      let s = raised_server k (g.server x.site (partition_of g key)) (k.floor y.cut) in
      show k (with_server g x.site (partition_of g key) s) y.session (latest_covered k s key (k.floor y.cut))) in
      Kept k sites h g G (what_is_told (read t key) r.0) r.1
  keeps_read t key = at_seat (seat_at g t.seat) refl
    where
      Fine : Result (Option Shown) Refusal × GroupState → Type 0
      Fine r = Kept k sites h g G (what_is_told (read t key) r.0) r.1

      act : SeatState → Result (Option Shown) Refusal × GroupState
      act y =
          let x = session_at g y.session in
          let s = raised_server k (g.server x.site (partition_of g key)) (k.floor y.cut) in
          show k (with_server g x.site (partition_of g key) s) y.session (latest_covered k s key (k.floor y.cut))

      at_seat : (o : Option SeatState) → seat_at g t.seat ≡ o → Fine (on_seat_of g t.serial o (λ y.
          let x = session_at g y.session in
          let s = raised_server k (g.server x.site (partition_of g key)) (k.floor y.cut) in
          show k (with_server g x.site (partition_of g key) s) y.session (latest_covered k s key (k.floor y.cut))))
      at_seat None e = refused_kept v
      at_seat (Some y) e =
          cond_both {A = Result (Option Shown) Refusal × GroupState} (eqb y.serial t.serial) _ (Err NotOpen, g) Fine
          (λ same. read_kept t.seat y e key t refl (eqb-true _ _ same)
          (latest_covered k (raised_server k (g.server (session_at g y.session).site (partition_of g key))
          (k.floor y.cut)) key (k.floor y.cut))
          (latest_law (is_covered k (k.floor y.cut)) key
          (g.server (session_at g y.session).site (partition_of g key)).held))
          (λ _. refused_kept v)
