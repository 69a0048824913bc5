-- What a command does to a group, by the calls that it makes.
use Rattle.std.specs.Prelude.{ℕ, Ok, Err, Result}
use Rattle.stamps.specs.declared.refusal.Refusal.{Refusal}
use Rattle.stamps.specs.declared.refusal.Refusal.TheVariants.{LayoutMisplaced}
use Rattle.stamps.specs.Kinds.{Kind}
use Rattle.stamps.specs.Clocks.{Rule}
use Rattle.group.specs.Model.Events as call
use Rattle.group.specs.Model.Events.{Call, Outcome, Ticket}
use Rattle.group.specs.Model.Groups.{GroupState}
use Rattle.group.specs.Model.Calls.{step}
use Rattle.script.specs.declared.command.Command.{Command}
use Rattle.script.specs.declared.command.Command.TheVariants.{Layout, OpenSession, Tell, Put, Get, Heartbeat}
use Rattle.script.specs.declared.command.Command.TheVariants.{Deliver, Report, Stabilise, Tidy, Lead, View}
use Rattle.script.specs.declared.answer.Answer.{Answer}
use Rattle.script.specs.declared.answer.Answer.TheVariants.{Done, Count, Number, Stamped, Shown, Both, Refused}

-- the answer that is made of what a call gives, or its refusal
abbrev pub answer_of : {A : Type 0} → (A → Answer) → Result A Refusal → Answer
answer_of make (Ok x) = make x
answer_of make (Err why) = Refused why

-- a command of one call
abbrev pub perform_call : Rule → Kind → GroupState → (c : Call) → (Outcome c → Answer)
    → Result Answer Refusal × GroupState
perform_call rule k g c make =
    let outcome = step rule k g c in
    (Ok (answer_of make outcome.0), outcome.1)

-- a snapshot is opened, two keys are read, and it is closed; an opening that is refused is all
abbrev pub view_by : Rule → Kind → Result Ticket Refusal × GroupState → ℕ → ℕ → Answer × GroupState
view_by rule k (Err why, g) first second = (Refused why, g)
view_by rule k (Ok ticket, g) first second =
    let one = step rule k g (call.read ticket first) in
    let two = step rule k one.1 (call.read ticket second) in
    (Both one.0 two.0, (step rule k two.1 (call.close ticket)).1)

abbrev pub view_both : Rule → Kind → GroupState → ℕ → ℕ → ℕ → ℕ → Answer × GroupState
view_both rule k g session partition first second =
    view_by rule k (step rule k g (call.open_snapshot session partition)) first second

-- what a command answers to a group, and the group after it; a second layout is refused, and this ends the listing
abbrev pub perform : Rule → Kind → GroupState → Command → Result Answer Refusal × GroupState
perform rule k g (Layout sites partitions clock marks) = (Err LayoutMisplaced, g)
perform rule k g (OpenSession site) = perform_call rule k g (call.open_session site) Count
perform rule k g (Tell site partition time) = perform_call rule k g (call.tell site partition time) (λ _. Done)
perform rule k g (Put session key kind amount) = perform_call rule k g (call.put session key kind amount) Stamped
perform rule k g (Get session key) = perform_call rule k g (call.get session key) Shown
perform rule k g (Heartbeat site partition) = perform_call rule k g (call.heartbeat site partition) Stamped
perform rule k g (Deliver from to partition) = perform_call rule k g (call.deliver from to partition) (λ _. Done)
perform rule k g (Report site partition) = perform_call rule k g (call.report site partition) (λ _. Done)
perform rule k g (Stabilise site partition) = perform_call rule k g (call.stabilise site partition) (λ _. Done)
perform rule k g (Tidy site partition) = perform_call rule k g (call.tidy site partition) Count
perform rule k g (Lead site partition) = perform_call rule k g (call.lead site partition) Number
perform rule k g (View session partition first second) =
    let both = view_both rule k g session partition first second in
    (Ok both.0, both.1)
