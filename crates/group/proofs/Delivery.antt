-- An entry that is delivered.
use Rattle.std.proofs.Common.{◌≡◌, ℕ, true, cond, not, ◌&&◌, eqb, Some, Ok, Err, Option, Result, sym, ap, ◌∙◌}
use Rattle.std.proofs.lemmas.Bool.{and_left, and_parts, cond-false, cond-true, eqb-false, ne_eqb, not-true}
use Rattle.stamps.specs.declared.refusal.Refusal.{Refusal}
use Rattle.stamps.specs.declared.refusal.Refusal.TheVariants.{NotInLayout}
use Rattle.servers.specs.declared.entry.Entry.{Entry}
use Rattle.servers.specs.Outboxes.{next_for}
use Rattle.servers.specs.Servers.{ServerState, server_hand_over, server_take}
use Rattle.group.specs.Model.Groups.{GroupState, is_line, with_server}
use Rattle.group.specs.declared.place.Place.{Place}
use Rattle.group.specs.Parts.{call_server_at, server_at, with_server_at}
use Rattle.group.specs.Layouts.{checked_line}
use Rattle.group.proofs.Views.{by_numbers, passed}
use Rattle.group.specs.Model.Calls.{has_server, server_left, deliver_left, deliver_entry}

-- a server of another site is as it was
server_other : (g : GroupState) (site partition other : ℕ) (s : ServerState) → (other ≡ site → ⊥)
    → (with_server g site partition s).server other partition ≡ g.server other partition
server_other g site partition other s ne =
    cond-false (eqb other site && eqb partition partition) s (g.server other partition)
    (and_left (eqb other site) (eqb partition partition) (ne_eqb other site ne))

took : (g mid after : GroupState) (from to partition : ℕ) (t : Result (Unit {0}) Refusal × ServerState)
    → (Ok tt, mid) ≡ server_left g to partition t
    → after ≡ with_server mid from partition (server_hand_over (mid.server from partition) to) → (from ≡ to → ⊥)
    → (Ok tt, after) ≡ deliver_left g from to partition t
took g mid after from to partition (Ok done, s) e f ne =
    let second : Result (Unit {0}) Refusal × GroupState → GroupState = λ x. x.1 in
    ap (λ x. (Ok tt, x))
    (f ∙ ap (λ h. with_server h from partition (server_hand_over (h.server from partition) to)) (ap second e)
    ∙ ap (λ x. with_server (with_server g to partition s) from partition (server_hand_over x to))
    (server_other g to partition from s ne))
took g mid after from to partition (Err why, s) e f ne =
    let first : Result (Unit {0}) Refusal × GroupState → Result (Unit {0}) Refusal = λ x. x.0 in
    let no : Ok tt ≡ Err why = ap first e in
    cc

-- the two servers of a line that a layout has
lined : (sites partitions from to partition : ℕ) (sender taker : Place)
    → (Ok (sender, taker)) ≡ checked_line sites partitions from to partition
    → (is_line sites partitions from to partition ≡ true) × (sender ≡ (from, partition)) × (taker ≡ (to, partition))
lined sites partitions from to partition sender taker e =
    let p = passed (is_line sites partitions from to partition) (sender, taker) ((from, partition), (to, partition))
    e in
    let first : (ℕ × ℕ) × (ℕ × ℕ) → ℕ × ℕ = λ x. x.0 in
    let second : (ℕ × ℕ) × (ℕ × ℕ) → ℕ × ℕ = λ x. x.1 in
    (p.0, ap first p.1, ap second p.1)

-- the sender's next entry for the taker, and what the taker has made of it, by numbers
waiting : (g : GroupState) (from to partition : ℕ) (sender taker : Place) (next : Option Entry)
    → sender ≡ (from, partition) → taker ≡ (to, partition)
    → next ≡ next_for (server_at g sender).waiting taker.0 → next ≡ next_for (g.server from partition).waiting to
waiting g from to partition sender taker next es et e =
    e ∙ by_numbers (λ i n. next_for (g.server i n).waiting taker.0) from partition sender es
    ∙ by_numbers (λ i n. next_for (g.server from partition).waiting i) to partition taker et

taken : (g : GroupState) (from to partition : ℕ) (sender taker : Place) (entry : Entry) → sender ≡ (from, partition)
    → taker ≡ (to, partition)
    → call_server_at g taker (λ s. server_take s sender.0 entry)
    ≡ server_left g to partition (server_take (g.server to partition) from entry)
taken g from to partition sender taker entry es et =
    by_numbers (λ i n. call_server_at g taker (λ s. server_take s i entry)) from partition sender es
    ∙ by_numbers (λ i n. server_left g i n (server_take (g.server i n) from entry)) to partition taker et

-- an entry waits, the taker has taken it, and the sender has handed it over
pub deliver_done : (g mid after : GroupState) (from to partition : ℕ) (sender taker : Place)
    (r : Result (Unit {0}) Refusal) (next : Option Entry) (entry : Entry)
    → (Ok (sender, taker)) ≡ checked_line g.sites g.partitions from to partition
    → next ≡ next_for (server_at g sender).waiting taker.0 → next ≡ Some entry
    → (r, mid) ≡ call_server_at g taker (λ s. server_take s sender.0 entry) → r ≡ Ok tt
    → after ≡ with_server_at mid sender (server_hand_over (server_at mid sender) taker.0)
    → (Ok tt, after)
    ≡ cond (has_server g from partition && (has_server g to partition && not (eqb from to)))
    (deliver_entry g from to partition (next_for (g.server from partition).waiting to))
    (Err NotInLayout, g)
deliver_done g mid after from to partition sender taker r next entry line waits some take ok hand =
    let is = lined g.sites g.partitions from to partition sender taker line in
    let two = and_parts (has_server g from partition) _ is.0 in
    let three = and_parts (has_server g to partition) (not (eqb from to)) two.1 in
    let ne : from ≡ to → ⊥ = eqb-false from to (not-true (eqb from to) three.1) in
    let took_it : (Ok tt, mid) ≡ server_left g to partition (server_take (g.server to partition) from entry) =
    ap (λ t. (t, mid)) (sym ok) ∙ take ∙ taken g from to partition sender taker entry is.1 is.2
    in
    let handed : after ≡ with_server mid from partition (server_hand_over (mid.server from partition) to) =
    hand ∙ by_numbers (λ i n. with_server mid i n (server_hand_over (mid.server i n) taker.0)) from partition sender
    is.1
    ∙ by_numbers (λ i n. with_server mid from partition (server_hand_over (mid.server from partition) i)) to partition
    taker is.2
    in
    took g mid after from to partition (server_take (g.server to partition) from entry) took_it handed ne
    ∙ ap (deliver_entry g from to partition) (sym some ∙ waiting g from to partition sender taker next is.1 is.2 waits)
    ∙ sym (cond-true _ _ (Err NotInLayout, g) is.0)

-- the receiver has refused the entry
took_not : (g mid : GroupState) (from to partition : ℕ) (why : Refusal) (t : Result (Unit {0}) Refusal × ServerState)
    → (Err why, mid) ≡ server_left g to partition t → (Err why, mid) ≡ deliver_left g from to partition t
took_not g mid from to partition why (Ok done, s) e =
    let first : Result (Unit {0}) Refusal × GroupState → Result (Unit {0}) Refusal = λ x. x.0 in
    let no : Err why ≡ Ok done = ap first e in
    cc
took_not g mid from to partition why (Err other, s) e = e

-- an entry waits, and the taker has refused it
pub deliver_not : (g mid : GroupState) (from to partition : ℕ) (sender taker : Place) (why : Refusal)
    (next : Option Entry) (entry : Entry)
    → (Ok (sender, taker)) ≡ checked_line g.sites g.partitions from to partition
    → next ≡ next_for (server_at g sender).waiting taker.0 → next ≡ Some entry
    → (Err why, mid) ≡ call_server_at g taker (λ s. server_take s sender.0 entry)
    → (Err why, mid)
    ≡ cond (has_server g from partition && (has_server g to partition && not (eqb from to)))
    (deliver_entry g from to partition (next_for (g.server from partition).waiting to))
    (Err NotInLayout, g)
deliver_not g mid from to partition sender taker why next entry line waits some take =
    let is = lined g.sites g.partitions from to partition sender taker line in
    took_not g mid from to partition why (server_take (g.server to partition) from entry)
    (take ∙ taken g from to partition sender taker entry is.1 is.2)
    ∙ ap (deliver_entry g from to partition) (sym some ∙ waiting g from to partition sender taker next is.1 is.2 waits)
    ∙ sym (cond-true _ _ (Err NotInLayout, g) is.0)
