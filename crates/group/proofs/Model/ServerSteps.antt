-- The calls that concern no session keep the invariant.
use Rattle.std.proofs.Common.{◌≡◌, ℕ, suc, ◌^◌, ◌<◌, ◌≤◌, true, false, cond, not, ◌&&◌, eqb, ltb, leb, List, [], ◌∷◌}
use Rattle.std.proofs.Common.{◌++◌, length, drop, Ok, Err, Result, sym, refl, ap, ◌∙◌, subst, ⊎_elim, arith, lit<}
use Rattle.std.proofs.lemmas.List.{length-append, length-drop}
use Rattle.std.proofs.lemmas.Bool.{and_parts, and_cases, cond_both, eqb-false, leb-false, ltb-true, not-true, or_parts}
use Rattle.std.proofs.lemmas.Bool.{both_ways}
use Rattle.stamps.specs.declared.refusal.Refusal.{Refusal}
use Rattle.stamps.specs.declared.refusal.Refusal.TheVariants.{NotInLayout, Unlawful, ReadingBehind, TableFull}
use Rattle.stamps.specs.declared.refusal.Refusal.TheVariants.{OutboxFull}
use Rattle.stamps.specs.Clocks.{Rule, IsAllowed, IsLawfulRule}
use Rattle.stamps.specs.Rows.{PerSite, Covers, HasStamps, at, with_entry}
use Rattle.stamps.specs.CommonFloors.{common_floor}
use Rattle.stamps.specs.Kinds.{Kind, IsMark, IsLawfulKind}
use Rattle.servers.specs.Entries.{entry_stamp}
use Rattle.servers.specs.declared.entry.Entry.{Entry}
use Rattle.servers.specs.declared.entry.Entry.TheVariants.{Update, Heartbeat}
use Rattle.servers.specs.Others.{is_other}
use Rattle.servers.specs.Outboxes.{Queues, first, is_queue_full, issue_entry, next_for, is_outbox_full, take_entry}
use Rattle.servers.specs.Servers.{MarksState, ServerState, server_tell, server_tell_checked, server_heartbeat}
use Rattle.servers.specs.Servers.{server_heartbeat_with, last_of, server_issue, server_keep}
use Rattle.servers.specs.Servers.{server_receive as receiving_server, server_take, server_take_other, server_hand_over}
use Rattle.servers.specs.Servers.{server_raise, server_report, server_tidy}
use Rattle.servers.specs.Tables.{is_table_full}
use Rattle.servers.specs.declared.version.Version.{Version}
use Rattle.servers.proofs.Elements.{InList}
use Rattle.servers.proofs.RowEntries.{by_site}
use Rattle.servers.proofs.Tidied.{tidied_law}
use Rattle.group.specs.Model.Calls.{has_server, server_left, on_server, change_server, deliver_entry, deliver_left}
use Rattle.group.specs.Model.Calls.{safe_mark, with_ok}
use Rattle.group.specs.Model.Events.{Done, nothing, History}
use Rattle.group.specs.Model.Groups.{GroupState, with_server, reported_at}
use Rattle.group.specs.Model.Pasts.{HasInPast}
use Rattle.group.proofs.Model.Rows.{covers_self, covers_trans, stamps_at}
use Rattle.group.proofs.Model.Lists.{set2, set2_cases, set2_field, set2_other, set2_same}
use Rattle.group.proofs.Model.Floors.{common_mark, common_below, in_first, first_in}
use Rattle.group.proofs.Model.Invariant.{Shape, Ghost, Tables, tables, last, Below, Core}
use Rattle.group.proofs.Model.Effects.{safer, with_entries}
use Rattle.group.proofs.Model.Issuing.{receiving, sending}
use Rattle.group.proofs.Model.Putting.{beaten}
use Rattle.group.proofs.Model.Taking.{handed_over, taken_beat, taken_update}
use Rattle.group.proofs.Model.Views.{tables_server}
use Rattle.group.proofs.Model.GroupEffects.{shape, safe_servers, place_server, raise_server, report_server, same_server}
use Rattle.group.proofs.Model.GroupEffects.{tidy_server}
use Rattle.group.proofs.Model.Histories.{ServerFrame, Inv, Kept, servers_kept, refused_kept}

-- one entry more for every other site, where none of them has 16 to take
pub issued_few : (own sites : ℕ) (w : Queues) (e : Entry) → sites ≤ 4 → is_outbox_full own sites w ≡ false
    → ((site : ℕ) → length (w site) ≤ 16) → (site : ℕ) → length (issue_entry own sites w e site) ≤ 16
issued_few own sites w e few room old site =
    cond_both (is_other own sites site) (w site ++ (e ∷ [])) (w site) (λ q. length q ≤ 16)
    (λ other. let l = leb-false 16 (length (w site)) (free site other) in
    omega (arith, length-append (w site) (e ∷ [])))
    (λ _. old site)
  where
    Free : ℕ → Type 0
    Free i = is_other own sites i ≡ true → leb 16 (length (w i)) ≡ false

    one : (i : ℕ) → is_queue_full own sites w i ≡ false → Free i
    one i no_16 other = ⊎_elim (λ f. absurd (both_ways (is_other own sites i) f other)) (λ f. f)
        (and_cases (is_other own sites i) (leb 16 (length (w i))) no_16)

    free : (i : ℕ) → Free i
    free =
        let a = or_parts (is_queue_full own sites w 0) _ room in
        let b = or_parts (is_queue_full own sites w 1) _ a.1 in
        let c = or_parts (is_queue_full own sites w 2) (is_queue_full own sites w 3) b.1 in
        by_site Free (one 0 a.0) (one 1 b.0) (one 2 c.0) (one 3 c.1)
        (λ m other. absurd (let l = ltb-true (suc (suc (suc (suc m)))) sites
        (and_parts (ltb (suc (suc (suc (suc m)))) sites) _ other).0 in omega arith))

pub taken_few : (w : Queues) (taker : ℕ) → ((site : ℕ) → length (w site) ≤ 16) → (site : ℕ)
    → length (take_entry w taker site) ≤ 16
taken_few w taker old site = cond_both (eqb site taker) (drop 1 (w site)) (w site) (λ q. length q ≤ 16)
    (λ _. let l = old site in omega (arith, length-drop 1 (w site))) (λ _. old site)

pub in_layout : (g : GroupState) (s n : ℕ) → has_server g s n ≡ true → (s < g.sites) × (n < g.partitions)
in_layout g s n e = let p = and_parts (ltb s g.sites) (ltb n g.partitions) e in (ltb-true _ _ p.0, ltb-true _ _ p.1)

module _ {k : Kind} (law : IsLawfulKind k) {sites : ℕ} {h : History} {g : GroupState} {G : Ghost}
    (v : Inv k sites h g G) where
  abbrev L : Shape
  L = shape g v.frame.layout.few_sites v.frame.layout.some_partitions

  -- frames with one server replaced
  pub server_frames : (s n : ℕ) (x : ServerState) → ServerFrame g.sites s x → (s' n' : ℕ)
      → ServerFrame g.sites s' (set2 g.server s n x s' n')
  server_frames s n x f s' n' =
      set2_cases g.server s n x s' n' (ServerFrame g.sites s')
      (λ a _. subst (λ (z : ℕ). ServerFrame g.sites z x) (sym a) f) (λ _. v.frame.servers s' n')

  one_kept : (s n : ℕ) (x : ServerState) → ServerFrame g.sites s x
      → Core k L (HasInPast h) (tables k (with_server g s n x)) G → Kept k sites h g G nothing (with_server g s n x)
  one_kept s n x f core = servers_kept v (set2 g.server s n x) (server_frames s n x f) core

  -- a call of one server, by what it is if the layout has the server
  on_kept : {A : Type 0} (s n : ℕ) (act : ServerState → Result A Refusal × ServerState) →
      (s < g.sites → n < g.partitions → Kept k sites h g G nothing (server_left g s n (act (g.server s n))).1)
      → Kept k sites h g G nothing (on_server g s n act).1
  on_kept {A} s n act inside =
      cond_both {A = Result A Refusal × GroupState} (has_server g s n) (server_left g s n (act (g.server s n)))
      (Err NotInLayout, g) (λ r. Kept k sites h g G nothing r.1)
      (λ e. let l = in_layout g s n e in inside l.0 l.1) (λ _. refused_kept v)

  -- the frame of a server whose marks alone have changed
  marks_frame : (s n : ℕ) (marks : MarksState)
      → ServerFrame g.sites s (record {
        site = (g.server s n).site;
        sites = (g.server s n).sites;
        reading = (g.server s n).reading;
        marks = marks;
        held = (g.server s n).held;
        waiting = (g.server s n).waiting;
      })
  marks_frame s n marks =
      let f = v.frame.servers s n in
      record {
        site_is = f.site_is;
        sites_is = f.sites_is;
        versions = f.versions;
        entries = f.entries;
        reading = f.reading;
      }

  pub keeps_tell : (s n time : ℕ) → Kept k sites h g G nothing (on_server g s n (λ x. server_tell x time)).1
  keeps_tell s n time = on_kept s n (λ x. server_tell x time) (λ _ _.
      cond_both {A = Result ℕ Refusal} (ltb time (2 ^ 47)) (Ok time) (Err Unlawful)
      (λ c. Kept k sites h g G nothing (server_left g s n (server_tell_checked (g.server s n) c)).1)
      (λ small. cond_both {A = Result Done Refusal × ServerState} (ltb time (g.server s n).reading)
      (Err ReadingBehind, g.server s n) (Ok tt, new) (λ r. Kept k sites h g G nothing (server_left g s n r).1)
      (λ _. refused_kept v)
      (λ _. one_kept s n new (frame (ltb-true _ _ small))
      (same_server law g v.frame.layout.few_sites v.frame.layout.some_partitions v.core s n new refl refl refl)))
      (λ _. refused_kept v))
    where
      new : ServerState
      new = record {
        site = (g.server s n).site;
        sites = (g.server s n).sites;
        reading = time;
        marks = (g.server s n).marks;
        held = (g.server s n).held;
        waiting = (g.server s n).waiting;
      }

      frame : time < 2 ^ 47 → ServerFrame g.sites s new
      frame small = let f = v.frame.servers s n in
          record {
            site_is = f.site_is;
            sites_is = f.sites_is;
            versions = f.versions;
            entries = f.entries;
            reading = small;
          }

  pub keeps_report : (s n : ℕ) → Kept k sites h g G nothing (change_server g s n (server_report k)).1
  keeps_report s n = on_kept {A = Done} s n (λ x. (Ok tt, server_report k x))
      (λ _ _. one_kept s n (server_report k (g.server s n)) (marks_frame s n _)
      (report_server law g v.frame.layout.few_sites v.frame.layout.some_partitions v.core s n))

  pub keeps_stabilise : (s n : ℕ) → Kept k sites h g G nothing
      (change_server g s n (λ x. server_raise k x (common_floor k (reported_at g s)))).1
  keeps_stabilise s n = on_kept {A = Done} s n (λ x. (Ok tt, server_raise k x m))
      (λ _ _. one_kept s n (server_raise k (g.server s n) m) (marks_frame s n _)
      (raise_server law g v.frame.layout.few_sites v.frame.layout.some_partitions v.core s n m
      (common_mark law rows stamps) low))
    where
      rows : List PerSite
      rows = reported_at g s

      m : PerSite
      m = common_floor k (reported_at g s)

      stamps : (x : PerSite) → InList x rows → HasStamps x
      stamps x i = let r = first_in (λ j. (g.server s j).marks.reported) g.partitions x i in
          subst HasStamps (sym r.2) (v.core.marks.reported_mark s r.0).0

      low : Below L (λ i j. (g.server i j).marks.received) s m
      low n' l = covers_trans (v.core.marks.reported_below s n')
          (common_below law rows stamps _ (in_first (λ j. (g.server s j).marks.reported) g.partitions n' l))

  pub keeps_tidy : (s n : ℕ) → Kept k sites h g G nothing
      (on_server g s n (λ x. with_ok (server_tidy k x (safe_mark k g s)))).1
  keeps_tidy s n = on_kept {A = ℕ} s n (λ x. with_ok (server_tidy k x (safe_mark k g s)))
      (λ _ _. one_kept s n new frame (tidy_server law g v.frame.layout.few_sites v.frame.layout.some_partitions v.core s
      n))
    where
      new : ServerState
      new = (server_tidy k (g.server s n) (safe_mark k g s)).1

      frame : ServerFrame g.sites s new
      frame =
          let f = v.frame.servers s n in
          let c = (tidied_law k (safe_mark k g s) (g.server s n).held).counts in
          let few = f.versions in
          record {
            site_is = f.site_is;
            sites_is = f.sites_is;
            versions = omega arith;
            entries = f.entries;
            reading = f.reading;
          }

  -- ---- a server issues an entry

  module _ (s n : ℕ) (in_s : s < g.sites) where
    abbrev srv : ServerState
    srv = g.server s n

    -- the received row and the outbox of a server that has issued an entry, by the server's place
    pub issued_received : (t : ℕ) → set2 (λ i m. (g.server i m).marks.received) s n
        (with_entry srv.marks.received srv.site t) ≡ receiving (λ i m. (g.server i m).marks.received) s n s t
    issued_received t = ap (λ (z : ℕ). set2 (λ i m. (g.server i m).marks.received) s n
        (with_entry srv.marks.received z t)) (v.frame.servers s n).site_is

    pub issued_waits : (e : Entry) → set2 (λ i m. (g.server i m).waiting) s n
        (issue_entry srv.site srv.sites srv.waiting e) ≡ sending g.sites (λ i m. (g.server i m).waiting) s n e
    issued_waits e =
        ap (λ (z : ℕ). set2 (λ i m. (g.server i m).waiting) s n (issue_entry z srv.sites srv.waiting e))
        (v.frame.servers s n).site_is
        ∙ ap (λ (z : ℕ). set2 (λ i m. (g.server i m).waiting) s n (issue_entry s z srv.waiting e))
        (v.frame.servers s n).sites_is

    -- the last stamp, as the server and as the tables have it
    pub last_is : last_of srv ≡ last (λ i m. (g.server i m).marks.received) s n
    last_is = ap (at srv.marks.received) (v.frame.servers s n).site_is

    pub issued_entries : (e : Entry) → is_outbox_full srv.site srv.sites srv.waiting ≡ false → (site : ℕ)
        → length (issue_entry srv.site srv.sites srv.waiting e site) ≤ 16
    issued_entries e room =
        let f = v.frame.servers s n in
        issued_few srv.site srv.sites srv.waiting e (subst (λ (z : ℕ). z ≤ 4) (sym f.sites_is) v.frame.layout.few_sites)
        room f.entries

    beat_kept : (t : ℕ) → is_outbox_full srv.site srv.sites srv.waiting ≡ false → last_of srv < t → t < 2 ^ 63
        → Kept k sites h g G nothing (with_server g s n (server_issue srv (Heartbeat t)))
    beat_kept t room new small =
        let f = v.frame.servers s n in
        one_kept s n (server_issue srv (Heartbeat t))
        (record {
          site_is = f.site_is;
          sites_is = f.sites_is;
          versions = f.versions;
          entries = issued_entries (Heartbeat t) room;
          reading = f.reading;
        })
        (place_server law g v.frame.layout.few_sites v.frame.layout.some_partitions v.core s n
        (server_issue srv (Heartbeat t))
        (set2_same _ s n _ refl) (issued_received t) (set2_same _ s n _ refl) (set2_same _ s n _ refl)
        (issued_waits (Heartbeat t))
        (v.core.marks.stable_mark s n) (covers_self srv.marks.stable)
        (beaten v.core s n in_s t (subst (λ (z : ℕ). z < t) last_is new) small))

  pub keeps_heartbeat : (rule : Rule) → IsLawfulRule rule → (s n : ℕ)
      → Kept k sites h g G nothing (on_server g s n (server_heartbeat rule)).1
  keeps_heartbeat rule clock s n = on_kept s n (server_heartbeat rule) (λ in_s _.
      cond_both {A = Result ℕ Refusal × ServerState}
      (is_outbox_full (g.server s n).site (g.server s n).sites (g.server s n).waiting)
      (Err OutboxFull, g.server s n) (server_heartbeat_with (g.server s n) answer)
      (λ r. Kept k sites h g G nothing (server_left g s n r).1)
      (λ _. refused_kept v)
      (λ room. go in_s room answer (clock.allowed (last_of (g.server s n)) (g.server s n).reading 0
      (stamps_at (g.server s n).marks.received (g.server s n).site (v.core.marks.received_stamps s n))
      (v.frame.servers s n).reading (lit< tt))))
    where
      answer : Result ℕ Refusal
      answer = rule (last_of (g.server s n)) (g.server s n).reading 0

      go : s < g.sites → is_outbox_full (g.server s n).site (g.server s n).sites (g.server s n).waiting ≡ false
          → (r : Result ℕ Refusal) → IsAllowed (last_of (g.server s n)) 0 r
          → Kept k sites h g G nothing (server_left g s n (server_heartbeat_with (g.server s n) r)).1
      go in_s room (Ok t) a = beat_kept s n in_s t room a.0 a.2
      go in_s room (Err why) a = refused_kept v

  -- ---- a site takes an entry

  module _ (from to n : ℕ) (e : Entry) (rest : List Entry) (lf : from < g.sites) (lt : to < g.sites)
      (apart : from ≡ to → ⊥) (waiting : (g.server from n).waiting to ≡ e ∷ rest) where
    abbrev sender : ServerState
    sender = g.server from n

    abbrev taker : ServerState
    taker = g.server to n

    not_to : from ≡ to → n ≡ n → ⊥
    not_to a _ = apart a

    -- the tables once the taker has become x and the sender has handed the entry over
    taken_tables : (x : ServerState) {held : ℕ → ℕ → List Version}
        → set2 (λ i m. (g.server i m).held) to n x.held ≡ held →
        x.marks.received ≡ with_entry taker.marks.received from (entry_stamp e)
        → x.marks.reported ≡ taker.marks.reported → x.marks.stable ≡ taker.marks.stable → x.waiting ≡ taker.waiting
        →
        Core k L (HasInPast h) (with_entries (tables k g) held
        (receiving (λ i m. (g.server i m).marks.received) to n from (entry_stamp e))
        (handed_over (λ i m. (g.server i m).waiting) from to n)) G →
        Core k L (HasInPast h) (tables k (with_server (with_server g to n x) from n (server_hand_over sender to))) G
    taken_tables x {held} same-held same_received same-reported same-stable same-waits core =
        subst (λ (T : Tables). Core k L (HasInPast h) T G)
        (sym (tables_server k (with_server g to n x) from n (server_hand_over sender to)
        (both (λ (y : ServerState). y.held) sender.held refl ∙ same-held)
        (both (λ (y : ServerState). y.marks.received) sender.marks.received refl
        ∙ ap (λ (m : PerSite). set2 (λ i j. (g.server i j).marks.received) to n m) same_received)
        (both (λ (y : ServerState). y.marks.reported) sender.marks.reported refl ∙ set2_same _ to n _ same-reported)
        (both (λ (y : ServerState). y.marks.stable) sender.marks.stable refl ∙ set2_same _ to n _ same-stable)
        (ap (λ (f : ℕ → ℕ → ℕ → List Entry). set2 f from n (take_entry sender.waiting to))
        (set2_field (λ (y : ServerState). y.waiting) g.server to n x ∙ set2_same _ to n _ same-waits))))
        (safer (safe_mark k (with_server (with_server g to n x) from n (server_hand_over sender to)))
        (λ s' _. safe_servers law g v.frame.layout.few_sites v.frame.layout.some_partitions v.core
        (set2 (set2 g.server to n x) from n (server_hand_over sender to))
        (λ i m. subst (IsMark k) (sym (stable_same i m)) (v.core.marks.stable_mark i m))
        (λ i m. subst (λ (z : PerSite). Covers z (g.server i m).marks.stable) (sym (stable_same i m))
        (covers_self (g.server i m).marks.stable)) s')
        core)
      where
        -- the sender's field is as it was, so only the taker's has changed
        both : {A : Type 0} (p : ServerState → A) (y : A) → y ≡ p sender
            → set2 (λ i m. p (set2 g.server to n x i m)) from n y ≡ set2 (λ i m. p (g.server i m)) to n (p x)
        both p y e =
            ap (λ f. set2 f from n y) (set2_field p g.server to n x)
            ∙ set2_same (set2 (λ i m. p (g.server i m)) to n (p x)) from n y
            (e ∙ sym (set2_other (λ i m. p (g.server i m)) to n (p x) from n not_to))

        stable_same : (i m : ℕ) → (set2 (set2 g.server to n x) from n (server_hand_over sender to) i m).marks.stable
            ≡ (g.server i m).marks.stable
        stable_same i m = set2_cases (set2 g.server to n x) from n (server_hand_over sender to) i m
            (λ y. y.marks.stable ≡ (g.server i m).marks.stable)
            (λ a b. ap (λ (z : ℕ). (g.server z n).marks.stable) (sym a)
            ∙ ap (λ (z : ℕ). (g.server i z).marks.stable) (sym b))
            (λ _. set2_cases g.server to n x i m (λ y. y.marks.stable ≡ (g.server i m).marks.stable)
            (λ a b. same-stable ∙ (ap (λ (z : ℕ). (g.server z n).marks.stable) (sym a)
            ∙ ap (λ (z : ℕ). (g.server i z).marks.stable) (sym b)))
            (λ _. refl))

    taken_kept : (x : ServerState) → ServerFrame g.sites to x
        → Core k L (HasInPast h) (tables k (with_server (with_server g to n x) from n (server_hand_over sender to))) G →
        Kept k sites h g G nothing (with_server (with_server g to n x) from n (server_hand_over sender to))
    taken_kept x f core = servers_kept v (set2 (set2 g.server to n x) from n (server_hand_over sender to))
        (λ i m. set2_cases (set2 g.server to n x) from n (server_hand_over sender to) i m (ServerFrame g.sites i)
        (λ a _. subst (λ (z : ℕ). ServerFrame g.sites z (server_hand_over sender to)) (sym a) handed)
        (λ _. server_frames to n x f i m))
        core
      where
        handed : ServerFrame g.sites from (server_hand_over sender to)
        handed = let f = v.frame.servers from n in
            record {
              site_is = f.site_is;
              sites_is = f.sites_is;
              versions = f.versions;
              entries = taken_few sender.waiting to f.entries;
              reading = f.reading;
            }

  update_beat : (w : Version) (t : ℕ) → Update w ≡ Heartbeat t → ⊥
  update_beat w t e = let z : ◌≡◌ {A = ℕ} 0 1 = cc in omega arith

  took_kept : (from to n : ℕ) (e : Entry) (rest : List Entry) → from < g.sites → to < g.sites → (from ≡ to → ⊥)
      → (g.server from n).waiting to ≡ e ∷ rest →
      Kept k sites h g G nothing (deliver_left g from to n (server_take_other (g.server to n) from e)).1
  took_kept from to n (Heartbeat t) rest lf lt apart waiting =
      let x = receiving_server (g.server to n) from t in
      taken_kept from to n (Heartbeat t) rest lf lt apart waiting x (marks_frame to n _)
      (taken_tables from to n (Heartbeat t) rest lf lt apart waiting x (set2_same _ to n _ refl) refl refl refl refl
      (taken_beat v.core from to n (Heartbeat t) rest lf lt apart waiting (λ w d. update_beat w t d)))
  took_kept from to n (Update w) rest lf lt apart waiting =
      cond_both {A = Result Done Refusal × ServerState} (is_table_full (g.server to n).held)
      (Err TableFull, g.server to n) (Ok tt, x) (λ r. Kept k sites h g G nothing (deliver_left g from to n r).1)
      (λ _. refused_kept v)
      (λ room. taken_kept from to n (Update w) rest lf lt apart waiting x (frame room)
      (taken_tables from to n (Update w) rest lf lt apart waiting x refl refl refl refl refl
      (taken_update v.core from to n (Update w) rest lf lt apart waiting w refl)))
    where
      x : ServerState
      x = receiving_server (server_keep (g.server to n) w) from w.stamp

      frame : is_table_full (g.server to n).held ≡ false → ServerFrame g.sites to x
      frame room =
          let f = v.frame.servers to n in
          let few = leb-false 32 (length (g.server to n).held) room in
          let more = length-append (g.server to n).held (w ∷ []) in
          record {
            site_is = f.site_is;
            sites_is = f.sites_is;
            versions = omega arith;
            entries = f.entries;
            reading = f.reading;
          }

  pub keeps_deliver : (from to n : ℕ) →
      Kept k sites h g G nothing (cond {A = Result Done Refusal × GroupState}
      (has_server g from n && (has_server g to n && not (eqb from to)))
      (deliver_entry g from to n (next_for (g.server from n).waiting to)) (Err NotInLayout, g)).1
  keeps_deliver from to n =
      cond_both {A = Result Done Refusal × GroupState} (has_server g from n && (has_server g to n && not (eqb from to)))
      (deliver_entry g from to n (next_for (g.server from n).waiting to)) (Err NotInLayout, g)
      (λ r. Kept k sites h g G nothing r.1)
      (λ e.
      let p = and_parts (has_server g from n) (has_server g to n && not (eqb from to)) e in
      let q = and_parts (has_server g to n) (not (eqb from to)) p.1 in
      go (in_layout g from n p.0).0 (in_layout g to n q.0).0 (eqb-false from to (not-true _ q.1))
      ((g.server from n).waiting to) refl)
      (λ _. refused_kept v)
    where
      -- the sender's site is another one of the taker's layout, or the entry is refused
      other : (e : Entry) → (from ≡ to → ⊥) → Kept k sites h g G nothing
          (deliver_left g from to n (server_take_other (g.server to n) from e)).1
          → Kept k sites h g G nothing (deliver_left g from to n (server_take (g.server to n) from e)).1
      other e apart kept =
          cond_both {A = Result Done Refusal × ServerState} (is_other (g.server to n).site (g.server to n).sites from)
          (server_take_other (g.server to n) from e) (Err NotInLayout, g.server to n)
          (λ r. Kept k sites h g G nothing (deliver_left g from to n r).1)
          (λ _. kept) (λ _. refused_kept v)

      go : from < g.sites → to < g.sites → (from ≡ to → ⊥) → (q : List Entry) → (g.server from n).waiting to ≡ q
          → Kept k sites h g G nothing (deliver_entry g from to n (first q)).1
      go lf lt apart [] waiting = refused_kept v
      go lf lt apart (e ∷ rest) waiting = other e apart (took_kept from to n e rest lf lt apart waiting)
