-- The calls of a command that reads two keys by one snapshot.
use Rattle.std.proofs.Common.{◌≡◌, ℕ, Bool, true, false, cond, eqb, get_or, Some, None, Ok, Err, Option, Result, sym}
use Rattle.std.proofs.Common.{refl, ap, ◌∙◌}
use Rattle.std.proofs.lemmas.Bool.{cond-true, eq-eqb}
use Rattle.stamps.specs.declared.refusal.Refusal.{Refusal}
use Rattle.stamps.specs.declared.refusal.Refusal.TheVariants.{NotOpen}
use Rattle.stamps.specs.Kinds.{Kind}
use Rattle.servers.specs.Servers.{latest_covered, server_raise}
use Rattle.stamps.specs.Clocks.{Rule}
use Rattle.servers.specs.declared.version.Version.{Version}
use Rattle.group.specs.Model.Events.{Done, Shown, Ticket, open_snapshot, read, close}
use Rattle.group.specs.Model.Groups.{GroupState, SeatState, partition_of, seat_at, session_at, with_seat, with_server}
use Rattle.group.specs.Model.Calls.{HasOpen, on_seat_of, show, step}
use Rattle.script.specs.declared.answer.Answer.{Answer}
use Rattle.script.specs.declared.answer.Answer.TheVariants.{Both}
use Rattle.script.specs.CommandCalls.{view_both, view_by}

-- the four calls, one after the other
pub four_calls : (rule : Rule) (k : Kind) (before opened once twice after : GroupState)
    (session partition first second : ℕ) (t : Ticket)
    (a b : Result (Option Shown) Refusal) (c : Result Done Refusal)
    → (Ok t, opened) ≡ step rule k before (open_snapshot session partition)
    → (a, once) ≡ step rule k opened (read t first)
    → (b, twice) ≡ step rule k once (read t second) → (c, after) ≡ step rule k twice (close t)
    → (Both a b, after) ≡ view_both rule k before session partition first second
four_calls rule k before opened once twice after session partition first second t a b c opens reads_first reads_second
    closes =
    let then : Result (Option Shown) Refusal × GroupState → Answer × GroupState = λ one.
    let two = step rule k one.1 (read t second) in
    (Both one.0 two.0, (step rule k two.1 (close t)).1)
    in
    let last : Result (Option Shown) Refusal × GroupState
    → Answer × GroupState = λ two. (Both a two.0, (step rule k two.1 (close t)).1) in
    let end : Result Done Refusal × GroupState → Answer × GroupState = λ o. (Both a b, o.1) in
    ap end closes ∙ ap last reads_second ∙ ap then reads_first ∙ ap (λ o. view_by rule k o first second) opens

-- what is shown leaves the seats
show_seats : (k : Kind) (g : GroupState) (i : ℕ) (o : Option Version) → (show k g i o).1.seats ≡ g.seats
show_seats k g i None = refl
show_seats k g i (Some v) = refl

-- a read leaves the seats
read_seats : (rule : Rule) (k : Kind) (g : GroupState) (t : Ticket) (key : ℕ)
    → (step rule k g (read t key)).1.seats ≡ g.seats
read_seats rule k g t key = by_seat (seat_at g t.seat)
  where
    raised : SeatState → GroupState
    raised y =
        let x = session_at g y.session in
        with_server g x.site (partition_of g key)
        (server_raise k (g.server x.site (partition_of g key)) (k.floor y.cut))

    shown : SeatState → Result (Option Shown) Refusal × GroupState
    shown y =
        let site = (session_at g y.session).site in
        let s = server_raise k (g.server site (partition_of g key)) (k.floor y.cut) in
        show k (raised y) y.session (latest_covered k s key (k.floor y.cut))

    by_test : (y : SeatState) (b : Bool) → (cond b (shown y) (Err NotOpen, g)).1.seats ≡ g.seats
    by_test y true = show_seats k (raised y) y.session _
    by_test y false = refl

    by_seat : (o : Option SeatState) → (on_seat_of g t.serial o shown).1.seats ≡ g.seats
    by_seat None = refl
    by_seat (Some y) = by_test y (eqb y.serial t.serial)

-- what is open stays open over a read
pub stays_open : (rule : Rule) (k : Kind) (g after : GroupState) (t u : Ticket) (key : ℕ)
    (a : Result (Option Shown) Refusal)
    → (a, after) ≡ step rule k g (read u key) → HasOpen g t → HasOpen after t
stays_open rule k g after t u key a reads h =
    let same : after.seats ≡ g.seats = ap (λ (o : Result (Option Shown) Refusal × GroupState). o.1.seats) reads
    ∙ read_seats rule k g u key in
    record {
      snapshot = h.snapshot;
      there = ap (λ ys. get_or ys t.seat None) same ∙ h.there;
      serial = h.serial;
    }

-- a close of what is open is done
pub closes : (rule : Rule) (k : Kind) (g after : GroupState) (t : Ticket) (c : Result Done Refusal)
    → (c, after) ≡ step rule k g (close t) → HasOpen g t → c ≡ Ok tt
closes rule k g after t c is h =
    let act : SeatState → Result Done Refusal × GroupState = λ y. (Ok tt, with_seat g t.seat None g.next_serial) in
    ap (λ (o : Result Done Refusal × GroupState). o.0)
    (is ∙ ap (λ o. on_seat_of g t.serial o act) h.there
    ∙ cond-true (eqb h.snapshot.serial t.serial) (act h.snapshot) (Err NotOpen, g) (eq-eqb _ _ h.serial))
