-- What sessions do to a group.
use Rattle.std.proofs.Common.{◌≡◌, ℕ, suc, ◌-◌, ◌^◌, ◌<◌, Bool, true, false, cond, ◌&&◌, eqb, ltb, leb, length, get_or}
use Rattle.std.proofs.Common.{set, Some, None, Ok, Err, Option, Result, sym, refl, ap, ◌∙◌, subst}
use Rattle.std.proofs.lemmas.Bool.{and_from, cond-false, cond-true, eq-eqb, lt-leb}
use Rattle.std.proofs.lemmas.List.{get_or-set_same}
use Rattle.stamps.specs.declared.refusal.Refusal.{Refusal}
use Rattle.stamps.specs.declared.refusal.Refusal.TheVariants.{NotInLayout, NoSession, End, NoneFree, NotOpen}
use Rattle.stamps.specs.Rows.{PerSite}
use Rattle.stamps.specs.Kinds.{Kind}
use Rattle.servers.specs.Servers.{ServerState, latest_visible, latest_covered, server_put, server_raise}
use Rattle.stamps.specs.Clocks.{Rule}
use Rattle.servers.specs.declared.value.Value.{Value}
use Rattle.servers.specs.declared.version.Version.{Version}
use Rattle.group.specs.Model.Events.{Shown, Ticket}
use Rattle.group.specs.Model.Groups.{GroupState, SessionState, SeatState, lowest_free, partition_of, seat_at}
use Rattle.group.specs.Model.Groups.{session_at, with_seat, with_server, with_session}
use Rattle.group.specs.Model.Calls.{HasOpen, server_left, on_session, on_seat_of, depend, put_left, show}
use Rattle.group.specs.Model.Calls.{informed_server, learn, open_snapshot_at}
use Rattle.group.specs.Sessions.{free_seat, open_at}
use Rattle.group.proofs.Cuts.{found_free}

-- the server that was replaced
server_here : (g : GroupState) (site partition : ℕ) (s : ServerState)
    → (with_server g site partition s).server site partition ≡ s
server_here g site partition s =
    cond-true (eqb site site && eqb partition partition) s (g.server site partition)
    (and_from (eqb site site) (eqb partition partition) (eq-eqb site site refl) (eq-eqb partition partition refl))

-- a session's server hears what the session knows, and then the session knows the stable mark
pub learns : (k : Kind) (g mid after : GroupState) (i partition : ℕ) (x : SessionState) (mark known : PerSite)
    → mid ≡ with_server g x.site partition (server_raise k (g.server x.site partition) mark) → mark ≡ k.floor x.knows
    → known ≡ (mid.server x.site partition).marks.stable
    → after ≡ with_session mid i (record { site = x.site; depends = x.depends; knows = known })
    → after ≡ learn k g i x partition
learns k g mid after i partition x mark known raises knows stable sets =
    let s = informed_server k g x partition in
    let heard : mid ≡ with_server g x.site partition s = raises
    ∙ ap (λ (m : PerSite). with_server g x.site partition (server_raise k (g.server x.site partition) m)) knows in
    let same : known ≡ s.marks.stable =
    stable ∙ ap (λ (h : GroupState). (h.server x.site partition).marks.stable) heard
    ∙ ap (λ (t : ServerState). t.marks.stable) (server_here g x.site partition s)
    in
    sets ∙ ap (λ h. with_session h i (record { site = x.site; depends = x.depends; knows = known })) heard
    ∙ ap (λ t. with_session (with_server g x.site partition s) i
    (record { site = x.site; depends = x.depends; knows = t })) same

-- the session's server after it has learnt
pub learnt_server : (k : Kind) (g mid : GroupState) (i partition : ℕ) (x : SessionState) → mid ≡ learn k g i x partition
    → mid.server x.site partition ≡ informed_server k g x partition
learnt_server k g mid i partition x e = ap (λ (h : GroupState). h.server x.site partition) e
    ∙ server_here g x.site partition (informed_server k g x partition)

-- what is found at the session's server is shown
pub gets : (k : Kind) (g mid after : GroupState) (i key partition : ℕ) (s : ServerState) (found : Option Version)
    (r : Result (Option Shown) Refusal)
    → ltb i (length g.sessions) ≡ true → partition ≡ partition_of g key
    → mid ≡ learn k g i (session_at g i) partition
    → s ≡ mid.server (session_at g i).site partition → found ≡ latest_visible k s key
    → (r, after) ≡ show k mid i found
    → (r, after) ≡ on_session g i (λ x. show k (learn k g i x (partition_of g key)) i
    (latest_visible k (informed_server k g x (partition_of g key)) key))
gets k g mid after i key partition s found r has place learns there sees shows =
    let x = session_at g i in
    let seen : found ≡ latest_visible k (informed_server k g x partition) key = sees
    ∙ ap (λ t. latest_visible k t key) (there ∙ learnt_server k g mid i partition x learns) in
    shows ∙ ap (show k mid i) seen ∙ ap (λ h. show k h i (latest_visible k (informed_server k g x partition) key))
    learns
    ∙ ap (λ p. show k (learn k g i x p) i (latest_visible k (informed_server k g x p) key)) place
    ∙ sym (cond-true (ltb i (length g.sessions)) _ (Err NoSession, g) has)

-- what the cut of a snapshot covers is shown
pub reads : (k : Kind) (g mid after : GroupState) (y : SeatState) (key partition : ℕ) (site : ℕ) (mark : PerSite)
    (s : ServerState) (found : Option Version) (r : Result (Option Shown) Refusal)
    → site ≡ (session_at g y.session).site → partition ≡ partition_of g key → mark ≡ k.floor y.cut
    → mid ≡ with_server g site partition (server_raise k (g.server site partition) mark)
    → s ≡ mid.server site partition → found ≡ latest_covered k s key mark
    → (r, after) ≡ show k mid y.session found
    → (r, after)
    ≡ (let x = session_at g y.session in
    let t = server_raise k (g.server x.site (partition_of g key)) (k.floor y.cut) in
    show k (with_server g x.site (partition_of g key) t) y.session (latest_covered k t key (k.floor y.cut)))
reads k g mid after y key partition site mark s found r ex ep em raises there covers shows =
    let t = server_raise k (g.server site partition) mark in
    let seen : found ≡ latest_covered k t key mark = covers
    ∙ ap (λ u. latest_covered k u key mark) (there ∙ ap (λ (h : GroupState). h.server site partition) raises
    ∙ server_here g site partition t) in
    shows ∙ ap (show k mid y.session) seen ∙ ap (λ h. show k h y.session (latest_covered k t key mark)) raises
    ∙ ap (λ m. show k (with_server g site partition (server_raise k (g.server site partition) m)) y.session
    (latest_covered k (server_raise k (g.server site partition) m) key m)) em
    ∙ ap (λ p. show k (with_server g site p (server_raise k (g.server site p) (k.floor y.cut))) y.session
    (latest_covered k (server_raise k (g.server site p) (k.floor y.cut)) key (k.floor y.cut))) ep
    ∙ ap (λ i. show k (with_server g i (partition_of g key)
    (server_raise k (g.server i (partition_of g key)) (k.floor y.cut))) y.session
    (latest_covered k (server_raise k (g.server i (partition_of g key)) (k.floor y.cut)) key (k.floor y.cut))) ex

-- a version is written, and then the session depends on it
pub puts : (k : Kind) (g mid after : GroupState) (i key : ℕ) (x : SessionState) (v : Version)
    (t : Result Version Refusal × ServerState)
    → (Ok v, mid) ≡ server_left g x.site (partition_of g key) t → after ≡ depend k mid i v
    → (Ok v.stamp, after) ≡ put_left k g i x key t
puts k g mid after i key x v (Err why, s) wrote depends =
    let first : Result Version Refusal × GroupState → Result Version Refusal = λ y. y.0 in
    let no : ◌≡◌ {A = Result Version Refusal} (Ok v) (Err why) = ap first wrote in
    cc
puts k g mid after i key x v (Ok given, s) wrote depends =
    let left = with_server g x.site (partition_of g key) s in
    let first : Result Version Refusal × GroupState → Result Version Refusal = λ y. y.0 in
    let second : Result Version Refusal × GroupState → GroupState = λ y. y.1 in
    let ok : ◌≡◌ {A = Result Version Refusal} (Ok v) (Ok given) = ap first wrote in
    let same : v ≡ given = cc in
    ap (λ h. (Ok v.stamp, h)) (depends ∙ ap (λ h. depend k h i v) (ap second wrote))
    ∙ ap (λ (w : Version). (Ok w.stamp, depend k left i w)) same

-- what was written is not, and the group is as it was
pub puts_not : (k : Kind) (g mid : GroupState) (i key : ℕ) (why : Refusal) (x : SessionState)
    (t : Result Version Refusal × ServerState)
    → (Err why, mid) ≡ server_left g x.site (partition_of g key) t → (Err why, mid) ≡ put_left k g i x key t
puts_not k g mid i key why x (Err other, s) wrote =
    let first : Result Version Refusal × GroupState → Result Version Refusal = λ y. y.0 in
    let second : Result Version Refusal × GroupState → GroupState = λ y. y.1 in
    let refused : ◌≡◌ {A = Result Version Refusal} (Err why) (Err other) = ap first wrote in
    let same : why ≡ other = cc in
    ap (λ h. (Err why, h)) (ap second wrote) ∙ ap (λ w. (Err w, g)) same
puts_not k g mid i key why x (Ok given, s) wrote =
    let first : Result Version Refusal × GroupState → Result Version Refusal = λ y. y.0 in
    let no : ◌≡◌ {A = Result Version Refusal} (Err why) (Ok given) = ap first wrote in
    cc

-- a write, by other terms for the partition and the marks
pub writes : (rule : Rule) (k : Kind) (g mid : GroupState) (site key p p' : ℕ) (value : Value) (a a' b b' : PerSite)
    (r : Result Version Refusal)
    → p ≡ p' → a ≡ a' → b ≡ b'
    → (r, mid) ≡ server_left g site p (server_put rule k (g.server site p) key value a b)
    → (r, mid) ≡ server_left g site p' (server_put rule k (g.server site p') key value a' b')
writes rule k g mid site key p p' value a a' b b' r ep ea eb e =
    e ∙ ap (λ q. server_left g site q (server_put rule k (g.server site q) key value a b)) ep
    ∙ ap (λ m. server_left g site p' (server_put rule k (g.server site p') key value m b)) ea
    ∙ ap (λ m. server_left g site p' (server_put rule k (g.server site p') key value a' m)) eb

-- a ticket whose seat is open
pub opens : {A : Type 0} (g : GroupState) (serial : ℕ) (o : Option SeatState) (y : SeatState)
    (act : SeatState → Result A Refusal × GroupState)
    → open_at serial o ≡ Ok y → on_seat_of g serial o act ≡ act y
opens g serial None y act e = cc
opens g serial (Some held) y act e = by_test (eqb held.serial serial) e
  where
    by_test : (b : Bool) → cond b (Ok held) (Err NotOpen) ≡ Ok y → cond b (act held) (Err NotOpen, g) ≡ act y
    by_test true h = let same : held ≡ y = cc in ap act same
    by_test false h = cc

abbrev pub ticket : ℕ → ℕ → Ticket
ticket seat serial = record { seat = seat; serial = serial }

-- a snapshot is opened at the lowest free seat
pub seats_it : (k : Kind) (g mid after : GroupState) (i partition seat : ℕ) (cut : PerSite)
    (ticket_seat ticket_serial : ℕ)
    → ltb partition g.partitions ≡ true → ltb i (length g.sessions) ≡ true → free_seat g.seats ≡ Some seat
    → length g.seats ≡ 4 → g.next_serial < 2 ^ 32 - 1
    → mid ≡ learn k g i (session_at g i) partition → cut ≡ (mid.server (session_at g i).site partition).marks.stable
    → ticket_seat ≡ seat → ticket_serial ≡ mid.next_serial
    → after ≡ with_seat mid seat (Some (record { session = i; serial = mid.next_serial; cut = cut }))
    (suc mid.next_serial)
    → (Ok (ticket ticket_seat ticket_serial), after)
    ≡ cond (ltb partition g.partitions) (on_session g i (λ x. open_snapshot_at k g i x partition (lowest_free g.seats)))
    (Err NotInLayout, g)
seats_it k g mid after i partition seat cut ticket_seat ticket_serial has session free four_seats serials learns stable
    seated serial sets =
    let x = session_at g i in
    let s = informed_server k g x partition in
    let known = learn k g i x partition in
    let same : cut ≡ s.marks.stable =
    stable ∙ ap (λ (t : ServerState). t.marks.stable) (learnt_server k g mid i partition x learns) in
    let found = found_free g.seats seat free in
    let done : Result Ticket Refusal × GroupState = (
      Ok (ticket seat g.next_serial),
      with_seat known seat
          (Some (record { session = i; serial = g.next_serial; cut = s.marks.stable })) (suc g.next_serial),
    )
    in
    ap (λ a. (Ok (ticket a ticket_serial), after)) seated ∙ ap (λ a. (Ok (ticket seat a), after)) serial
    ∙ ap (λ h. (Ok (ticket seat mid.next_serial), h)) sets
    ∙ ap (λ (h : GroupState). (
      Ok (ticket seat h.next_serial),
      with_seat h seat (Some (record { session = i; serial = h.next_serial; cut = cut })) (suc h.next_serial),
    )) learns
    ∙ ap (λ m. (
      Ok (ticket seat g.next_serial),
      with_seat known seat (Some (record { session = i; serial = g.next_serial; cut = m })) (suc g.next_serial),
    )) same
    ∙ sym (cond-false (leb (2 ^ 32 - 1) g.next_serial) (Err End, g) done (lt-leb (2 ^ 32 - 1) g.next_serial serials))
    ∙ sym (cond-false (leb 4 seat) (Err NoneFree, g) _ (lt-leb 4 seat (subst (λ n. seat < n) four_seats found.1)))
    ∙ ap (open_snapshot_at k g i x partition) found.0
    ∙ sym (cond-true (ltb i (length g.sessions)) _ (Err NoSession, g) session)
    ∙ sym (cond-true (ltb partition g.partitions) _ (Err NotInLayout, g) has)

-- a snapshot that was seated is open
pub has_open : (mid after : GroupState) (i seat : ℕ) (cut : PerSite) (t : Ticket) → seat < length mid.seats
    → t.seat ≡ seat → t.serial ≡ mid.next_serial
    → after ≡ with_seat mid seat (Some (record { session = i; serial = mid.next_serial; cut = cut }))
    (suc mid.next_serial)
    → HasOpen after t
has_open mid after i seat cut t inside seated serial sets =
    let y : SeatState = record { session = i; serial = mid.next_serial; cut = cut } in
    record {
      snapshot = y;
      there = ap (λ (h : GroupState). seat_at h t.seat) sets
          ∙ ap (λ a. get_or (set mid.seats seat (Some y)) a None) seated
          ∙ get_or-set_same mid.seats seat (Some y) None inside;
      serial = sym serial;
    }
