-- The promises about snapshots, from the invariant.
use Rattle.std.proofs.Common.{◌≡◌, ℕ, ◌<◌, eqb, List, ◌∷◌, Contains, Some, None, Ok, Err, Option, Result, sym, refl, ap}
use Rattle.std.proofs.Common.{◌∙◌, subst, inl, arith}
use Rattle.std.proofs.lemmas.Bool.{cond_both, cond-true, eq-eqb}
use Rattle.stamps.specs.declared.refusal.Refusal.{Refusal}
use Rattle.stamps.specs.declared.refusal.Refusal.TheVariants.{NotOpen}
use Rattle.stamps.specs.Clocks.{Rule, IsLawfulRule}
use Rattle.stamps.specs.Rows.{PerSite, Covers}
use Rattle.stamps.specs.Kinds.{Kind, IsLawfulKind}
use Rattle.servers.specs.Laws.{IsLatest}
use Rattle.servers.specs.Servers.{latest_covered, server_raise as raised_server}
use Rattle.servers.specs.Tables.{is_covered}
use Rattle.servers.specs.Versions.{full_mark}
use Rattle.servers.specs.declared.version.Version.{Version}
use Rattle.servers.proofs.Elements.{in_list}
use Rattle.servers.proofs.Latest.{latest_law}
use Rattle.group.specs.Model.Calls.{step, on_seat_of, show, shown_of}
use Rattle.group.specs.Model.Events.{Put, IsAsLate, Shown, put_shown, Ticket, Call, open_snapshot, read, what_is_told}
use Rattle.group.specs.Model.Events.{read_by, History}
use Rattle.group.specs.Model.Groups.{GroupState, SeatState, partition_of, seat_at, session_at, with_server}
use Rattle.group.specs.Model.GroupStore.{group_store}
use Rattle.group.specs.Model.Pasts.{of_put, HasInPast}
use Rattle.group.specs.Model.Promises.{IsOpen, IsSameAnswer, ShowsAsLate, WasPut}
use Rattle.group.specs.Model.Stores.{Run, then, then_all, history}
use Rattle.group.proofs.Model.Rows.{covers_trans, full_mark_lem}
use Rattle.group.proofs.Model.Invariant.{Shape, Ghost, name_of, Before}
use Rattle.group.proofs.Model.GroupEffects.{shape}
use Rattle.group.proofs.Model.Showing.{Best, best_same}
use Rattle.group.proofs.Model.Histories.{Inv, ReadRight, shown_option}
use Rattle.group.proofs.Model.SnapshotSteps.{read_best}
use Rattle.group.proofs.Model.SessionLines.{showing_answer}
use Rattle.group.proofs.Model.Runs.{keeps, ran}

-- what a read of an open seat answers
abbrev read_from : Kind → GroupState → ℕ → SeatState → Result (Option Shown) Refusal × GroupState
read_from k g key y =
    let x = session_at g y.session in
    let s = raised_server k (g.server x.site (partition_of g key)) (k.floor y.cut) in
    show k (with_server g x.site (partition_of g key) s) y.session (latest_covered k s key (k.floor y.cut))

-- the version that it finds
abbrev read_found : Kind → GroupState → ℕ → SeatState → Option Version
read_found k g key y =
    let x = session_at g y.session in
    latest_covered k (raised_server k (g.server x.site (partition_of g key)) (k.floor y.cut)) key (k.floor y.cut)

module _ {k : Kind} (law : IsLawfulKind k) {sites : ℕ} {h : History} {g : GroupState} {G : Ghost}
    (v : Inv k sites h g G) where
  abbrev L : Shape
  L = shape g v.frame.layout.few_sites v.frame.layout.some_partitions

  -- an open snapshot answers the latest version in the log that its cut covers
  pub read_answers : (rule : Rule) (t : Ticket) (key : ℕ) → IsOpen t h →
      (o : Option Version) × ((step rule k g (read t key)).0 ≡ Ok (shown_option o)) × (t.serial < g.next_serial)
      × Best k G.log (G.cut_of t.serial) key o
  read_answers rule t key op =
      let s = v.hist.open_known t op in
      let y = s.0 in
      let x = session_at g y.session in (
        read_found k g key y,
        ap (λ (o : Option SeatState). (on_seat_of g t.serial o (read_from k g key)).0) s.1
            ∙ (ap (λ (r : Result (Option Shown) Refusal × GroupState). r.0)
            (cond-true (eqb y.serial t.serial) (read_from k g key y) (Err NotOpen, g) (eq-eqb _ _ s.2))
            ∙ showing_answer k (with_server g x.site (partition_of g key)
            (raised_server k (g.server x.site (partition_of g key)) (k.floor y.cut))) y.session
            (read_found k g key y)),
        subst (λ (z : ℕ). z < g.next_serial) s.2 (v.core.seats t.seat y s.1).issued,
        subst (λ (z : ℕ). Best k G.log (G.cut_of z) key (read_found k g key y)) s.2
            (read_best law v t.seat y s.1 key (read_found k g key y)
            (latest_law (is_covered k (k.floor y.cut)) key (g.server x.site (partition_of g key)).held)),
      )

  -- what a read shows was put
  pub read_honest : (rule : Rule) (t : Ticket) (key : ℕ) (u : Shown) → (step rule k g (read t key)).0 ≡ Ok (Some u)
      → WasPut h (put_shown key u) u.value
  read_honest rule t key u = at_seat (seat_at g t.seat)
    where
      shown : (y : SeatState) (o : Option Version)
          → IsLatest (is_covered k (k.floor y.cut)) key
          (g.server (session_at g y.session).site (partition_of g key)).held o →
          ◌≡◌ {A = Result (Option Shown) Refusal} (Ok (shown_option o)) (Ok (Some u))
          → WasPut h (put_shown key u) u.value
      shown y None best e = let z : ◌≡◌ {A = ℕ} 0 1 = cc in absurd (omega arith)
      shown y (Some w) best e =
          let same : shown_of w ≡ u = cc in
          subst (λ (z : Shown). WasPut h (put_shown key z) z.value) same
          (subst (λ (z : ℕ). WasPut h (record { key = z; stamp = w.stamp; source = w.source }) w.value) best.1.0
          (v.written w (v.core.holds.had w (session_at g y.session).site (partition_of g key)
          (in_list (g.server (session_at g y.session).site (partition_of g key)).held w best.0)).0))

      at_seat : (o : Option SeatState) → (on_seat_of g t.serial o (read_from k g key)).0 ≡ Ok (Some u)
          → WasPut h (put_shown key u) u.value
      at_seat None = λ e. let z : ◌≡◌ {A = ℕ} 0 1 = cc in absurd (omega arith)
      at_seat (Some y) = cond_both {A = Result (Option Shown) Refusal × GroupState} (eqb y.serial t.serial)
          (read_from k g key y) (Err NotOpen, g) (λ r. r.0 ≡ Ok (Some u) → WasPut h (put_shown key u) u.value)
          (λ _ e. shown y (read_found k g key y) (latest_law (is_covered k (k.floor y.cut)) key
          (g.server (session_at g y.session).site (partition_of g key)).held)
          (sym (showing_answer k (with_server g (session_at g y.session).site (partition_of g key)
          (raised_server k (g.server (session_at g y.session).site (partition_of g key)) (k.floor y.cut))) y.session
          (read_found k g key y)) ∙ e))
          (λ _ e. let z : ◌≡◌ {A = ℕ} 0 1 = cc in absurd (omega arith))

  -- of one snapshot's answers, not one is older than a put of its key in the past of any of them
  pub whole : (t : Ticket) (key other : ℕ) (o : Option Shown) (u : Shown) (p : Put) → Contains h (read_by t key o)
      → Contains h (read_by t other (Some u)) →
      HasInPast h (of_put (put_shown other u)) p → p.key ≡ key → ShowsAsLate key (Ok o) p
  whole t key other o u p i j past same_key =
      go (v.reads t key o (in_list h (read_by t key o) i))
      (v.reads t other (Some u) (in_list h (read_by t other (Some u)) j))
    where
      b : Before k L (λ s n. (g.server s n).marks.received) (λ s n. (g.server s n).marks.stable) G.log
          (put_shown other u) p
      b = v.core.pasts.of_put_lem (put_shown other u) p past

      -- the cut covers what stands before what it shows
      below : (f : Option Version) → Some u ≡ shown_option f → Best k G.log (G.cut_of t.serial) other f
          → Covers (G.cut_of t.serial) (full_mark k b.reached.version)
      below None e best = let z : ◌≡◌ {A = ℕ} 0 1 = cc in absurd (omega arith)
      below (Some w) e best =
          let same : u ≡ shown_of w = cc in
          let named : name_of w ≡ put_shown other u =
          ap (λ (z : ℕ). record { key = z; stamp = w.stamp; source = w.source }) best.1
          ∙ ap (put_shown other) (sym same) in
          let is : b.writer ≡ w = v.core.logs.unique b.writer w b.logged best.0 (b.named ∙ sym named) in
          covers_trans best.2 (covers_trans (full_mark_lem law w (v.core.logs.marked w best.0))
          (subst (λ (z : Version). Covers z.mark (full_mark k b.reached.version)) is b.reached.covered))

      key_is : b.reached.version.key ≡ key
      key_is = ap (λ (z : Put). z.key) b.reached.named ∙ same_key

      late : (f : Option Version) → Best k G.log (G.cut_of t.serial) key f
          → Covers (G.cut_of t.serial) (full_mark k b.reached.version) → ShowsAsLate key (Ok (shown_option f)) p
      late None best c = best b.reached.version b.reached.logged key_is c
      late (Some w) best c = subst (λ (z : Put). IsAsLate (name_of w) z) b.reached.named
          (best.3 b.reached.version b.reached.logged key_is c)

      go : ReadRight k G g.next_serial t key o → ReadRight k G g.next_serial t other (Some u) → ShowsAsLate key (Ok o) p
      go r q = subst (λ (z : Option Shown). ShowsAsLate key (Ok z) p) (sym r.is)
          (late r.found r.best (below q.found q.is q.best))

-- an open snapshot answers as right after its opening
pub stays : {k : Kind} (law : IsLawfulKind k) (rule : Rule) (clock : IsLawfulRule rule) (sites : ℕ)
    (r : Run (group_store rule k sites)) (G : Ghost) → Inv k sites (history (group_store rule k sites) r) r.state G →
    (i n : ℕ) (t : Ticket) → (step rule k r.state (open_snapshot i n)).0 ≡ Ok t → (calls : List Call) →
    let S = group_store rule k sites in
    let opened = then S r (open_snapshot i n) in
    let now = then_all S opened calls in
    IsOpen t (history S now) → (key : ℕ) → IsSameAnswer (step rule k now.state (read t key)).0
    (step rule k opened.state (read t key)).0
stays {k} law rule clock sites r G v i n t e calls op key =
    let S = group_store rule k sites in
    let opened = then S r (open_snapshot i n) in
    let now = then_all S opened calls in
    let one = keeps law rule clock v (open_snapshot i n) in
    let end = ran law rule clock sites opened one.ghost one.inv calls in
    let first = read_answers law one.inv rule t key
    (subst (λ a. IsOpen t (what_is_told (open_snapshot i n) a ∷ history S r)) (sym e) (inl refl)) in
    let second = read_answers law end.inv rule t key op in
    let cut = end.grows.same_cut t.serial first.2 in
    let still = subst (λ (m : PerSite). Best k end.ghost.log m key first.0) (sym cut)
    (end.grows.best t.serial first.2 key first.0 first.3) in
    let same = best_same k end.ghost.log (end.ghost.cut_of t.serial) key end.inv.core.logs.unique first.0 second.0 still
    second.3 in
    (shown_option second.0, second.1, first.1 ∙ ap (λ (o : Option Version). Ok (shown_option o)) same)
