-- Opening a session, a put and a get keep the invariant.
use Rattle.std.proofs.Common.{◌≡◌, ℕ, ◌^◌, ◌<◌, ◌≤◌, true, false, cond, eqb, ltb, leb, ◌⊎◌, [], ◌∷◌, ◌++◌, length, Some}
use Rattle.std.proofs.Common.{None, Ok, Err, Option, Result, sym, refl, ap, ◌∙◌, subst, inl, inr, ⊎_elim, le_refl}
use Rattle.std.proofs.Common.{arith, length-set}
use Rattle.std.proofs.lemmas.List.{length-append}
use Rattle.std.proofs.lemmas.Bool.{cond_both, eqb-true, leb-false, ltb-true, or_cases}
use Rattle.stamps.specs.declared.refusal.Refusal.{Refusal}
use Rattle.stamps.specs.declared.refusal.Refusal.TheVariants.{NotInLayout, NoSession, NoneFree, TableFull, OutboxFull}
use Rattle.stamps.specs.Clocks.{Rule, IsAllowed, IsLawfulRule}
use Rattle.stamps.specs.Rows.{PerSite, Covers, at, greatest, join, with_entry}
use Rattle.stamps.specs.Kinds.{Kind, IsMark, IsLawfulKind}
use Rattle.servers.specs.declared.entry.Entry.TheVariants.{Update}
use Rattle.servers.specs.Laws.{IsLatest}
use Rattle.servers.specs.Outboxes.{is_outbox_full}
use Rattle.servers.specs.Servers.{ServerState, server_put_with, put_version, server_issue, server_keep, last_of}
use Rattle.servers.specs.Servers.{server_raise as raised_server, sees, latest_visible}
use Rattle.servers.specs.Tables.{is_covered, is_table_full}
use Rattle.servers.specs.Values.{value_from}
use Rattle.servers.specs.declared.value.Value.{Value}
use Rattle.servers.specs.Versions.{full_mark}
use Rattle.servers.specs.declared.version.Version.{Version}
use Rattle.servers.proofs.Elements.{InList, in_list}
use Rattle.servers.proofs.Latest.{latest_law}
use Rattle.group.specs.Model.Calls.{open_session_step, on_session, put_left, put_value, with_depends, shown_of, show}
use Rattle.group.specs.Model.Calls.{informed_server, learn}
use Rattle.group.specs.Model.Events.{Put, IsAsLate, Shown, Ticket, open_session, put, get, what_is_told, session_opened}
use Rattle.group.specs.Model.Events.{wrote, got, read_by, History}
use Rattle.group.specs.Model.Groups.{GroupState, SessionState, new_session, partition_of, session_at, with_server}
use Rattle.group.specs.Model.Groups.{with_sessions, with_session}
use Rattle.group.specs.Model.Pasts.{Pasts, of_session, HasInPast, pasts_with_shown, pasts_with_put, site_of}
use Rattle.group.specs.Model.Promises.{WasOpened, WasPut}
use Rattle.group.proofs.Model.Rows.{covers_self, covers_trans, covers_true, covers_at, entry_rises, floor_mark}
use Rattle.group.proofs.Model.Rows.{floor_over, floor_under, full_is_mark, full_stamp, join_left, join_right}
use Rattle.group.proofs.Model.Rows.{join_least, join_mark, stamps_at}
use Rattle.group.proofs.Model.Lists.{set1, set2, set1_cases, set2_cases, set1_other, set2_here, set2_same, get_d_push}
use Rattle.group.proofs.Model.Invariant.{Shape, Ghost, tables, name_of, part, last, Had, Below, Reached, Core}
use Rattle.group.proofs.Model.Effects.{Rises, part_small, raised, reached_rises, with_entries}
use Rattle.group.proofs.Model.Seeing.{Clear, seen_too}
use Rattle.group.proofs.Model.Issuing.{received_le, receiving, sending}
use Rattle.group.proofs.Model.Putting.{kept}
use Rattle.group.proofs.Model.Writing.{written_too}
use Rattle.group.proofs.Model.Views.{session_here, session_sites}
use Rattle.group.proofs.Model.GroupEffects.{shape, place_server, raise_server, grow_session, enrol_session}
use Rattle.group.proofs.Model.Showing.{Best}
use Rattle.group.proofs.Model.Histories.{Frame, Inv, Grows, grows_same, read_grows, Kept, refused_kept, still_opened}
use Rattle.group.proofs.Model.ServerSteps.{server_frames, issued_received, issued_waits, issued_entries, last_is}

not_opened : (t : Ticket) (key i site : ℕ) (o : Option Shown) → read_by t key o ≡ session_opened i site → ⊥
not_opened t key i site o e = let z : ◌≡◌ {A = ℕ} 0 1 = cc in omega arith

not_wrote : (t : Ticket) (key i j kind amount stamp : ℕ) (o : Option Shown)
    → read_by t key o ≡ wrote i j kind amount stamp → ⊥
not_wrote t key i j kind amount stamp o e = let z : ◌≡◌ {A = ℕ} 0 1 = cc in omega arith

not_got : (t : Ticket) (key i j : ℕ) (o p : Option Shown) → read_by t key o ≡ got i j p → ⊥
not_got t key i j o p e = let z : ◌≡◌ {A = ℕ} 0 1 = cc in omega arith

-- session i has been shown w, and depends on it from then on
pub see_core : {k : Kind} (law : IsLawfulKind k) {P : Pasts} {G : Ghost} (g : GroupState) (four : g.sites ≤ 4)
    (some : 1 ≤ g.partitions) (core : Core k (shape g four some) P (tables k g) G)
    (i : ℕ) (w : Version) → i < length g.sessions → InList w G.log
    → Had (shape g four some) (λ s n. (g.server s n).marks.received) (session_at g i).site w →
    Clear law (shape g four some) (λ s n. (g.server s n).marks.stable) (session_at g i).site (session_at g i).knows w →
    Core k (shape g four some) (pasts_with_shown P i (name_of w))
    (tables k (with_session g i (with_depends (session_at g i)
    (join (k.floor (session_at g i).depends) (full_mark k w))))) G
see_core {k} law {P} {G} g four some core i w l logged' had clear =
    let L = shape g four some in
    let x = session_at g i in
    let inv = core.sessions i l in
    let full = full_mark k w in
    let x' = with_depends x (join (k.floor x.depends) full) in
    let is_full = full_is_mark law w (core.logs.marked w logged') (let s = core.logs.source w logged' in omega arith)
    (core.logs.small w logged') in
    let grown = grow_session law g four some core i x' l refl
    (covers_trans (join_left (k.floor x.depends) full) (floor_over law inv.depends_mark)) (covers_self x.knows)
    (record {
      inside = inv.inside;
      depends_mark = join_mark law (floor_mark law inv.depends_mark.0) is_full;
      knows_mark = inv.knows_mark;
      knows_below = inv.knows_below;
    }) in
    let same = session_here g i x' l in
    seen_too law L i w (subst (λ (z : ℕ). i < z) (sym (length-set g.sessions i x')) l) logged'
    (subst (λ (y : SessionState). Had L (λ s n. (g.server s n).marks.received) y.site w) (sym same) had)
    (subst (λ (y : SessionState). Covers y.depends full) (sym same) (join_right (k.floor x.depends) full))
    (subst (λ (y : SessionState). Clear law L (λ s n. (g.server s n).marks.stable) y.site y.knows w) (sym same) clear)
    grown

module _ {k : Kind} (law : IsLawfulKind k) {sites : ℕ} {h : History} {g : GroupState} {G : Ghost}
    (v : Inv k sites h g G) where
  abbrev L : Shape
  L = shape g v.frame.layout.few_sites v.frame.layout.some_partitions

  -- ---- opening a session

  pub keeps_open : (site : ℕ) → Kept k sites h g G (what_is_told (open_session site) (open_session_step g site).0)
      (open_session_step g site).1
  keeps_open site =
      cond_both {A = Result ℕ Refusal × GroupState} (ltb site g.sites) _ (Err NotInLayout, g)
      (λ r. Kept k sites h g G (what_is_told (open_session site) r.0) r.1)
      (λ inside. cond_both {A = Result ℕ Refusal × GroupState} (leb 8 (length g.sessions)) (Err NoneFree, g)
      (Ok (length g.sessions), g') (λ r. Kept k sites h g G (what_is_told (open_session site) r.0) r.1)
      (λ _. refused_kept v)
      (λ room. opened (ltb-true _ _ inside) (leb-false _ _ room)))
      (λ _. refused_kept v)
    where
      g' : GroupState
      g' = with_sessions g (g.sessions ++ (new_session site ∷ []))

      count : ℕ
      count = length g.sessions

      known : (i : ℕ) → i < length (g.sessions ++ (new_session site ∷ []))
          → cond (eqb i count) site (site_of h i) ≡ (session_at g' i).site
      known i l =
          set1_cases (site_of h) count site i (λ z. z ≡ (set1 (session_at g) count (new_session site) i).site)
          (λ e. sym (set1_cases (session_at g) count (new_session site) i (λ y. y.site ≡ site) (λ _. refl)
          (λ ne. absurd (ne e))))
          (λ ne. v.hist.sites_known i (omega (arith, length-append g.sessions (new_session site ∷ [])))
          ∙ sym (ap (λ (y : SessionState). y.site) (set1_other (session_at g) count (new_session site) i ne)))
          ∙ sym (ap (λ (f : ℕ → SessionState). (f i).site) (get_d_push g.sessions (new_session site) (new_session 0)))

      opened : site < g.sites → count < 8 → Kept k sites h g G (session_opened count site) g'
      opened inside few = record {
        ghost = G;
        inv = record {
          frame = record {
            layout = v.frame.layout;
            servers = v.frame.servers;
            sessions = omega (arith, length-append g.sessions (new_session site ∷ []));
            seats = v.frame.seats;
            serials = v.frame.serials;
          };
          layout = v.layout;
          core = enrol_session law g v.frame.layout.few_sites v.frame.layout.some_partitions v.core site inside;
          hist = record {
            opened_known = λ j o. let more = length-append g.sessions (new_session site ∷ []) in
                ⊎_elim (λ e. omega arith) (λ before. let l = v.hist.opened_known j before in omega arith) o;
            sites_known = known;
            readers_known = v.hist.readers_known;
            open_known = v.hist.open_known;
          };
          reads = λ t key o i. ⊎_elim (λ e. absurd (not_opened t key count site o e)) (v.reads t key o) i;
          written = v.written;
          logged = v.logged;
        };
        grows = grows_same k g.next_serial G;
      }

  -- ---- a put

  module _ (i key kind amount : ℕ) (l : i < length g.sessions) (value : Value)
      (lawful : value_from kind amount ≡ Ok value) where
    abbrev x : SessionState
    x = session_at g i

    abbrev s : ℕ
    s = (session_at g i).site

    abbrev n : ℕ
    n = partition_of g key

    abbrev srv : ServerState
    srv = g.server (session_at g i).site (partition_of g key)

    in_s : s < g.sites
    in_s = (v.core.sessions i l).inside

    -- the version, the server and the session after a put of stamp t
    abbrev ver : ℕ → Version
    ver t = put_version srv key value (k.floor x.depends) t

    abbrev server' : ℕ → ServerState
    server' t = raised_server k (server_issue (server_keep srv (ver t)) (Update (ver t))) (k.floor x.knows)

    abbrev session' : ℕ → SessionState
    session' t = with_depends x (join (k.floor x.depends) (full_mark k (ver t)))

    abbrev g1 : ℕ → GroupState
    g1 t = with_server g s n (server' t)

    abbrev g2 : ℕ → GroupState
    g2 t = with_session (g1 t) i (session' t)

    module _ (t : ℕ) (room : is_table_full srv.held ≡ false)
        (free : is_outbox_full srv.site srv.sites srv.waiting ≡ false)
        (new : last_of srv < t) (after : greatest (k.floor x.depends) < t) (small : t < 2 ^ 63) where
      abbrev G' : Ghost
      G' = record { log = ver t ∷ G.log; cut_of = G.cut_of; snap_site = G.snap_site }

      site_is : srv.site ≡ s
      site_is = (v.frame.servers s n).site_is

      marked : IsMark k (k.floor x.depends)
      marked = floor_mark law (v.core.sessions i l).depends_mark.0

      new' : last (λ a b. (g.server a b).marks.received) s n < t
      new' = subst (λ (z : ℕ). z < t) (last_is law v s n in_s) new

      stored : Core k L (HasInPast h) (with_entries (tables k g)
          (set2 (λ a b. (g.server a b).held) s n (srv.held ++ (ver t ∷ [])))
          (receiving (λ a b. (g.server a b).marks.received) s n s t)
          (sending g.sites (λ a b. (g.server a b).waiting) s n (Update (ver t)))) G'
      stored = kept v.core s n in_s (ver t) site_is refl new' small marked after

      stable' : PerSite
      stable' = join (k.floor srv.marks.stable) (k.floor x.knows)

      stable_marked : IsMark k (join (k.floor srv.marks.stable) (k.floor x.knows))
      stable_marked = join_mark law (floor_mark law (v.core.marks.stable_mark s n).0)
          (floor_mark law (v.core.sessions i l).knows_mark.0)

      stable_up : Covers (join (k.floor srv.marks.stable) (k.floor x.knows)) srv.marks.stable
      stable_up = covers_trans (join_left (k.floor srv.marks.stable) (k.floor x.knows))
          (floor_over law (v.core.marks.stable_mark s n))

      core1 : Core k L (HasInPast h) (tables k (g1 t)) G'
      core1 =
          place_server law g v.frame.layout.few_sites v.frame.layout.some_partitions v.core s n (server' t)
          refl (issued_received law v s n in_s t) (set2_same _ s n _ refl) refl
          (issued_waits law v s n in_s (Update (ver t))) stable_marked stable_up
          (raised s n (join (k.floor srv.marks.stable) (k.floor x.knows)) stable_marked stable_up
          (λ n' ln. join_least (covers_trans (stored.marks.stable_below s n n' ln)
          (floor_under law (v.core.marks.stable_mark s n).0))
          (covers_trans ((stored.sessions i l).knows_below n' ln) (floor_under law (v.core.sessions i l).knows_mark.0)))
          stored)

      core2 : Core k L (HasInPast h) (tables k (g2 t)) G'
      core2 =
          let inv = core1.sessions i l in
          grow_session law (g1 t) v.frame.layout.few_sites v.frame.layout.some_partitions core1 i (session' t) l refl
          (covers_trans (join_left (k.floor x.depends) (full_mark k (ver t)))
          (floor_over law (v.core.sessions i l).depends_mark)) (covers_self x.knows)
          (record {
            inside = inv.inside;
            depends_mark = join_mark law marked (full_is_mark law (ver t) marked
                (subst (λ (z : ℕ). z < 4) (sym site_is)
                (let f = v.frame.layout.few_sites in let q = in_s in omega arith)) small);
            knows_mark = inv.knows_mark;
            knows_below = inv.knows_below;
          })

      same : session_at (g2 t) i ≡ session' t
      same = session_here (g1 t) i (session' t) l

      source : (ver t).source ≡ (session_at (g2 t) i).site
      source = site_is ∙ sym (ap (λ (y : SessionState). y.site) same)

      -- every received row has only risen
      risen : Rises (λ a b. (g.server a b).marks.received) (λ a b. ((g2 t).server a b).marks.received)
      risen a b = set2_cases g.server s n (server' t) a b (λ y. Covers y.marks.received (g.server a b).marks.received)
          (λ e f. subst (λ (z : ℕ). Covers (with_entry srv.marks.received srv.site t) (g.server a z).marks.received)
          (sym f)
          (subst (λ (z : ℕ). Covers (with_entry srv.marks.received srv.site t) (g.server z n).marks.received) (sym e)
          (entry_rises srv.marks.received srv.site t (omega arith))))
          (λ _. covers_self (g.server a b).marks.received)

      -- the stable mark there covers what the session knows
      stable_knows : Covers ((g2 t).server (ver t).source n).marks.stable x.knows
      stable_knows = set2_cases g.server s n (server' t) (ver t).source n (λ y. Covers y.marks.stable x.knows)
          (λ _ _. covers_trans (join_right (k.floor srv.marks.stable) (k.floor x.knows))
          (floor_over law (v.core.sessions i l).knows_mark))
          (λ no'. absurd (no' site_is refl))

      before : (p : Put) → HasInPast h (of_session i) p
          → Reached k L (λ a b. ((g2 t).server a b).marks.received) (ver t ∷ G.log) (ver t).source (ver t).mark
          ((g2 t).server (ver t).source (part L (ver t).key)).marks.stable p
      before p q =
          subst (λ (z : ℕ). Reached k L (λ a b. ((g2 t).server a b).marks.received) (ver t ∷ G.log) z (ver t).mark
          ((g2 t).server (ver t).source n).marks.stable p) (sym site_is)
          (reached_rises risen (λ w j. inr j) (floor_over law (v.core.sessions i l).depends_mark) stable_knows
          (v.core.pasts.of_session_lem i p q))

      core3 : Core k L (pasts_with_put (HasInPast h) i (name_of (ver t))) (tables k (g2 t)) G'
      core3 = written_too i (ver t) (subst (λ (z : ℕ). i < z) (sym (length-set g.sessions i (session' t))) l) (inl refl)
          source
          (subst (λ (z : ℕ). Had L (λ a b. ((g2 t).server a b).marks.received) z (ver t)) source
          (core2.logs.stamped (ver t) (inl refl)))
          (subst (λ (y : SessionState). Covers y.depends (full_mark k (ver t))) (sym same)
          (join_right (k.floor x.depends) (full_mark k (ver t))))
          before core2

      name : Put
      name = record { key = key; stamp = t; source = site_of h i }

      named : name_of (ver t) ≡ record { key = key; stamp = t; source = site_of h i }
      named = ap (λ (z : ℕ). record { key = key; stamp = t; source = z }) (site_is ∙ sym (v.hist.sites_known i l))

      -- no cut of an earlier snapshot covers the new version
      uncovered : (q : ℕ) → q < g.next_serial → Covers (G.cut_of q) (full_mark k (ver t)) → ⊥
      uncovered q lq c =
          let at_source = full_stamp law (ver t) (G.cut_of q)
          (subst (λ (z : ℕ). z < 4) (sym site_is) (let f = v.frame.layout.few_sites in let r = in_s in omega arith))
          small c in
          let low = covers_at (g.server (G.snap_site q) n).marks.received (G.cut_of q) srv.site
          (v.core.cuts.cut_below q lq n (part_small L key)) in
          let high = received_le v.core.queues (G.snap_site q) n s (v.core.cuts.cut_site q lq) in_s in
          let low' : at (G.cut_of q) s ≤ at (g.server (G.snap_site q) n).marks.received s =
          subst (λ (z : ℕ). at (G.cut_of q) z ≤ at (g.server (G.snap_site q) n).marks.received z) site_is low in
          let at_s : t ≤ at (G.cut_of q) s = subst (λ (z : ℕ). t ≤ at (G.cut_of q) z) site_is at_source in
          let r = new' in
          omega arith

      best' : (q : ℕ) → q < g.next_serial → (j : ℕ) (o : Option Version) → Best k G.log (G.cut_of q) j o
          → Best k (ver t ∷ G.log) (G.cut_of q) j o
      best' q lq j None b = none
        where
          none : (w : Version) → InList w (ver t ∷ G.log) → w.key ≡ j → Covers (G.cut_of q) (full_mark k w) → ⊥
          none w (inl d) e c = uncovered q lq (subst (λ (u : Version). Covers (G.cut_of q) (full_mark k u)) d c)
          none w (inr m) e c = b w m e c
      best' q lq j (Some u) b = (inr b.0, b.1, b.2, top)
        where
          top : (w : Version) → InList w (ver t ∷ G.log) → w.key ≡ j → Covers (G.cut_of q) (full_mark k w)
              → IsAsLate (name_of u) (name_of w)
          top w (inl d) e c = absurd (uncovered q lq (subst (λ (z : Version). Covers (G.cut_of q) (full_mark k z)) d c))
          top w (inr m) e c = b.3 w m e c

      grows : Grows k g.next_serial g.next_serial G G'
      grows = record { more = le_refl g.next_serial; same_cut = λ q lq. refl; best = best' }

      written' : (w : Version) → InList w (ver t ∷ G.log) → WasPut (wrote i key kind amount t ∷ h) (name_of w) w.value
      written' w (inl e) = subst (λ (z : Version). WasPut (wrote i key kind amount t ∷ h) (name_of z) z.value) (sym e)
          (inr (named, lawful))
      written' w (inr j) = inl (v.written w j)

      logged' : (p : Put) (y : Value) → WasPut (wrote i key kind amount t ∷ h) p y
          → (w : Version) × InList w (ver t ∷ G.log) × (name_of w ≡ p)
      logged' p y (inl o) = let r = v.logged p y o in (r.0, inr r.1, r.2)
      logged' p y (inr (e, _)) = (ver t, inl refl, named ∙ sym e)

      pub put_kept : Kept k sites h g G (wrote i key kind amount t) (g2 t)
      put_kept = record {
        ghost = G';
        inv = record {
          frame = record {
            layout = v.frame.layout;
            servers = server_frames law v s n (server' t) (let f = v.frame.servers s n in record {
              site_is = f.site_is;
              sites_is = f.sites_is;
              versions = (let few = leb-false 32 (length srv.held) room in
                  omega (arith, length-append srv.held (ver t ∷ [])));
              entries = issued_entries law v s n in_s (Update (ver t)) free;
              reading = f.reading;
            });
            sessions = subst (λ (z : ℕ). z ≤ 8) (sym (length-set g.sessions i (session' t))) v.frame.sessions;
            seats = v.frame.seats;
            serials = v.frame.serials;
          };
          layout = v.layout;
          core = subst (λ (p : Put). Core k L (pasts_with_put (HasInPast h) i p) (tables k (g2 t)) G') named core3;
          hist = record {
            opened_known = still_opened v (length-set g.sessions i (session' t));
            sites_known = λ j lj. v.hist.sites_known j
                (subst (λ (z : ℕ). j < z) (length-set g.sessions i (session' t)) lj)
                ∙ sym (session_sites (g1 t) i (session' t) l refl j);
            readers_known = v.hist.readers_known;
            open_known = v.hist.open_known;
          };
          reads = λ r j o m. ⊎_elim (λ e. absurd (not_wrote r j i key kind amount t o e))
              (λ m'. read_grows grows r j o (v.reads r j o m')) m;
          written = written';
          logged = logged';
        };
        grows = grows;
      }

  pub keeps_put : (rule : Rule) → IsLawfulRule rule → (i key kind amount : ℕ) →
      Kept k sites h g G (what_is_told (put i key kind amount)
      (on_session g i (λ x. put_value rule k g i key x (value_from kind amount))).0)
      (on_session g i (λ x. put_value rule k g i key x (value_from kind amount))).1
  keeps_put rule clock i key kind amount =
      cond_both {A = Result ℕ Refusal × GroupState} (ltb i (length g.sessions)) _ (Err NoSession, g) Fine
      (λ e. with_value (ltb-true _ _ e) (value_from kind amount) refl) (λ _. refused_kept v)
    where
      Fine : Result ℕ Refusal × GroupState → Type 0
      Fine r = Kept k sites h g G (what_is_told (put i key kind amount) r.0) r.1

      y : SessionState
      y = session_at g i

      server : ServerState
      server = g.server y.site (partition_of g key)

      dep : PerSite
      dep = k.floor y.depends

      with_value : i < length g.sessions → (w : Result Value Refusal) → value_from kind amount ≡ w
          → Fine (put_value rule k g i key y w)
      with_value l (Err why) e = refused_kept v
      with_value l (Ok value) e =
          cond_both {A = Result Version Refusal × ServerState} (is_table_full server.held) (Err TableFull, server) _
          (λ r. Fine (put_left k g i y key r))
          (λ _. refused_kept v)
          (λ room. cond_both {A = Result Version Refusal × ServerState}
          (is_outbox_full server.site server.sites server.waiting) (Err OutboxFull, server) _
          (λ r. Fine (put_left k g i y key r))
          (λ _. refused_kept v)
          (λ free. stamped room free (rule (last_of server) server.reading (greatest dep))
          (clock.allowed (last_of server) server.reading (greatest dep)
          (stamps_at server.marks.received server.site (v.core.marks.received_stamps y.site (partition_of g key)))
          (v.frame.servers y.site (partition_of g key)).reading small_dep)))
        where
          small_dep : greatest dep < 2 ^ 63
          small_dep = let d = (floor_mark law (v.core.sessions i l).depends_mark.0).0 in omega arith

          stamped : is_table_full server.held ≡ false → is_outbox_full server.site server.sites server.waiting ≡ false
              → (r : Result ℕ Refusal) → IsAllowed (last_of server) (greatest dep) r →
              Fine (put_left k g i y key (server_put_with k server key value dep (k.floor y.knows) r))
          stamped room free (Ok t) a = put_kept i key kind amount l value e t room free a.0 a.1 a.2
          stamped room free (Err why) a = refused_kept v

  -- ---- a session learns its server's stable mark

  module _ (i n : ℕ) (l : i < length g.sessions) where
    abbrev heard : ServerState
    heard = informed_server k g (session_at g i) n

    abbrev learnt : GroupState
    learnt = learn k g i (session_at g i) n

    abbrev known : SessionState
    known = record { site = (session_at g i).site; depends = (session_at g i).depends; knows = heard.marks.stable }

    pub learn_core : Core k L (HasInPast h) (tables k (learn k g i (session_at g i) n)) G
    learn_core =
        let y = session_at g i in
        let inv = v.core.sessions i l in
        let g1 = with_server g y.site n heard in
        let stable = (g.server y.site n).marks.stable in
        let raised1 = raise_server law g v.frame.layout.few_sites v.frame.layout.some_partitions v.core y.site n
        (k.floor y.knows) (floor_mark law inv.knows_mark.0)
        (λ n' ln. covers_trans (inv.knows_below n' ln) (floor_under law inv.knows_mark.0)) in
        let inv1 = raised1.sessions i l in
        grow_session law g1 v.frame.layout.few_sites v.frame.layout.some_partitions raised1 i known l refl
        (covers_self y.depends) (covers_trans (join_right (k.floor stable) (k.floor y.knows))
        (floor_over law inv.knows_mark))
        (record {
          inside = inv1.inside;
          depends_mark = inv1.depends_mark;
          knows_mark =
              join_mark law (floor_mark law (v.core.marks.stable_mark y.site n).0) (floor_mark law inv.knows_mark.0);
          knows_below = subst (λ (z : ServerState). Below L (λ a b. (g1.server a b).marks.received) y.site
              z.marks.stable) (set2_here g.server y.site n heard) (raised1.marks.stable_below y.site n);
        })

    pub learn_frame : Frame (learn k g i (session_at g i) n)
    learn_frame = record {
      layout = v.frame.layout;
      servers = server_frames law v (session_at g i).site n heard
          (let f = v.frame.servers (session_at g i).site n in
          record {
            site_is = f.site_is;
            sites_is = f.sites_is;
            versions = f.versions;
            entries = f.entries;
            reading = f.reading;
          });
      sessions = subst (λ (z : ℕ). z ≤ 8) (sym (length-set g.sessions i known)) v.frame.sessions;
      seats = v.frame.seats;
      serials = v.frame.serials;
    }

    pub learn_opened : (j : ℕ) → WasOpened j h → j < length learnt.sessions
    learn_opened = still_opened v (length-set g.sessions i known)

    pub learn_sites : (j : ℕ) → j < length learnt.sessions
        → site_of h j ≡ (session_at (learn k g i (session_at g i) n) j).site
    learn_sites j lj =
        v.hist.sites_known j (subst (λ (z : ℕ). j < z) (length-set g.sessions i known) lj)
        ∙ sym (session_sites (with_server g (session_at g i).site n heard) i known l refl j)

    pub learn_session : session_at (learn k g i (session_at g i) n) i
        ≡ record { site = (session_at g i).site; depends = (session_at g i).depends; knows = heard.marks.stable }
    learn_session = session_here (with_server g (session_at g i).site n heard) i known l

  -- ---- a get

  pub keeps_get : (i key : ℕ) →
      let r = on_session {A = Option Shown} g i
      (λ x. show k (learn k g i x (partition_of g key)) i
      (latest_visible k (informed_server k g x (partition_of g key)) key)) in
      Kept k sites h g G (what_is_told (get i key) r.0) r.1
  keeps_get i key =
      cond_both {A = Result (Option Shown) Refusal × GroupState} (ltb i (length g.sessions)) _ (Err NoSession, g) Fine
      (λ e. found (ltb-true _ _ e) (latest_visible k heard' key) (latest_law (sees k heard') key heard'.held))
      (λ _. refused_kept v)
    where
      Fine : Result (Option Shown) Refusal × GroupState → Type 0
      Fine r = Kept k sites h g G (what_is_told (get i key) r.0) r.1

      n : ℕ
      n = partition_of g key

      y : SessionState
      y = session_at g i

      heard' : ServerState
      heard' = informed_server k g (session_at g i) (partition_of g key)

      g1 : GroupState
      g1 = learn k g i (session_at g i) (partition_of g key)

      found : i < length g.sessions → (o : Option Version) → IsLatest (sees k heard') key heard'.held o
          → Fine (show k g1 i o)
      found l None best = record {
        ghost = G;
        inv = record {
          frame = record {
            layout = v.frame.layout;
            servers = (learn_frame i (partition_of g key) l).servers;
            sessions = (learn_frame i (partition_of g key) l).sessions;
            seats = v.frame.seats;
            serials = v.frame.serials;
          };
          layout = v.layout;
          core = learn_core i (partition_of g key) l;
          hist = record {
            opened_known = learn_opened i (partition_of g key) l;
            sites_known = learn_sites i (partition_of g key) l;
            readers_known = v.hist.readers_known;
            open_known =
                v.hist.open_known;
          };
          reads = λ t j o m. ⊎_elim (λ e. absurd (not_got t j i key o None e)) (v.reads t j o) m;
          written = v.written;
          logged = v.logged;
        };
        grows = grows_same k g.next_serial G;
      }
      found l (Some w) best = record {
        ghost = G;
        inv = record {
          frame = record {
            layout = v.frame.layout;
            servers = (learn_frame i (partition_of g key) l).servers;
            sessions = subst (λ (z : ℕ). z ≤ 8) (sym (length-set g1.sessions i x2))
                (learn_frame i (partition_of g key) l).sessions;
            seats = v.frame.seats;
            serials = v.frame.serials;
          };
          layout = v.layout;
          core = subst (λ (p : Put). Core k L (pasts_with_shown (HasInPast h) i p) (tables k (with_session g1 i x2)) G)
              (ap (λ (z : ℕ). record { key = z; stamp = w.stamp; source = w.source }) best.1.0)
              (see_core law g1 v.frame.layout.few_sites v.frame.layout.some_partitions core1 i w l1 logged' had clear);
          hist = record {
            opened_known = λ j o. subst (λ (z : ℕ). j < z) (sym (length-set g1.sessions i x2))
                (learn_opened i (partition_of g key) l j o);
            sites_known = λ j lj. learn_sites i (partition_of g key) l j
                (subst (λ (z : ℕ). j < z) (length-set g1.sessions i x2) lj) ∙ sym (session_sites g1 i x2 l1 refl j);
            readers_known = v.hist.readers_known;
            open_known = v.hist.open_known;
          };
          reads = λ t j o m. ⊎_elim (λ e. absurd (not_got t j i key o (Some (shown_of w)) e)) (v.reads t j o) m;
          written = v.written;
          logged = v.logged;
        };
        grows = grows_same k g.next_serial G;
      }
        where
          x2 : SessionState
          x2 = with_depends (session_at g1 i) (join (k.floor (session_at g1 i).depends) (full_mark k w))

          core1 : Core k L (HasInPast h) (tables k g1) G
          core1 = learn_core i (partition_of g key) l

          l1 : i < length g1.sessions
          l1 = subst (λ (z : ℕ). i < z) (sym (length-set g.sessions i (known i (partition_of g key) l))) l

          here : session_at g1 i ≡ known i (partition_of g key) l
          here = learn_session i (partition_of g key) l

          held : InList w (g1.server y.site n).held
          held = subst (λ (z : ServerState). InList w z.held) (sym (set2_here g.server y.site n heard'))
              (in_list heard'.held w best.0)

          had_there : InList w G.log × (part L w.key ≡ n) × Had L (λ a b. (g1.server a b).marks.received) y.site w
          had_there = core1.holds.had w y.site n held

          logged' : InList w G.log
          logged' = had_there.0

          had : Had L (λ a b. (g1.server a b).marks.received) (session_at g1 i).site w
          had = subst (λ (z : SessionState). Had L (λ a b. (g1.server a b).marks.received) z.site w) (sym here)
              had_there.2

          stable_mark : IsMark k heard'.marks.stable
          stable_mark = subst (λ (z : ServerState). IsMark k z.marks.stable) (set2_here g.server y.site n heard')
              (core1.marks.stable_mark y.site n)

          clear' : (eqb w.source heard'.site ≡ true) ⊎ (is_covered k (k.floor heard'.marks.stable) w ≡ true)
              → Clear law L (λ a b. (g1.server a b).marks.stable) y.site heard'.marks.stable w
          clear' (inl e) =
              let own = eqb-true _ _ e ∙ (v.frame.servers y.site n).site_is in
              inl (
                own,
                set2_cases g.server y.site n heard' w.source (part L w.key)
                    (λ z. Covers heard'.marks.stable z.marks.stable) (λ _ _. covers_self heard'.marks.stable)
                    (λ no'. absurd (no' own had_there.1)),
              )
          clear' (inr c) = inr (covers_trans (floor_under law stable_mark.0)
              (covers_true (k.floor heard'.marks.stable) (full_mark k w) c))

          clear : Clear law L (λ a b. (g1.server a b).marks.stable) (session_at g1 i).site (session_at g1 i).knows w
          clear = subst (λ (z : SessionState). Clear law L (λ a b. (g1.server a b).marks.stable) z.site z.knows w)
              (sym here)
              (clear' (or_cases (eqb w.source heard'.site) (is_covered k (k.floor heard'.marks.stable) w) best.1.1))
