-- A worked case: a percentage overtakes its basis on the way to another site, and is not shown before it.
use Rattle.std.specs.Prelude.{◌≡◌, ℕ, List, [], ◌∷◌, map, reverse, Some, None, Ok, Err, refl}
use Rattle.stamps.specs.declared.refusal.Refusal.TheVariants.{NothingWaits}
use Rattle.stamps.specs.Clocks.{hybrid_rule}
use Rattle.stamps.specs.Stamps.{stamp_of}
use Rattle.stamps.specs.BuiltKinds.{each_kind}
use Rattle.servers.specs.Percents.{percent_of}
use Rattle.servers.specs.declared.value.Value.{Value}
use Rattle.servers.specs.declared.value.Value.TheVariants.{Percent, Basis}
use Rattle.servers.specs.declared.value.Basis.TheVariants.{Sheet}
use Rattle.group.specs.Model.Events.{Event, Call, Shown, open_session, tell, put, get, heartbeat, deliver}
use Rattle.group.specs.Model.Events.{report, stabilise}
use Rattle.group.specs.Model.Reached.{run_of}

-- what is shown of a version that was put at site 0
abbrev pub shown : Value → ℕ → Shown
shown value stamp = record { value = value; stamp = stamp; source = 0 }

-- The calls with their answers, in order. Key 2 is a basis and key 3 a percentage; a basis of kind 3 and amount 1 is
-- the whole sheet, and 1,200 hundredths are 12 percent.
abbrev pub worked_events : List Event
worked_events =
    record { call = open_session 0; answer = Ok 0 }
    ∷ record { call = open_session 1; answer = Ok 1 }
    ∷ record { call = tell 0 0 100; answer = Ok tt }
    ∷ record { call = put 0 2 3 1; answer = Ok (stamp_of 100 0) }
    ∷ record { call = put 0 3 2 1200; answer = Ok (stamp_of 100 1) }
    ∷ record { call = deliver 0 1 1; answer = Ok tt }
    ∷ record { call = get 1 3; answer = Ok None }
    ∷ record { call = deliver 0 1 0; answer = Ok tt }
    ∷ record { call = report 1 0; answer = Ok tt }
    ∷ record { call = report 1 1; answer = Ok tt }
    ∷ record { call = stabilise 1 1; answer = Ok tt }
    ∷ record { call = get 1 3; answer = Ok None }
    ∷ record { call = heartbeat 0 0; answer = Ok (stamp_of 100 1) }
    ∷ record { call = deliver 0 1 0; answer = Ok tt }
    ∷ record { call = report 1 0; answer = Ok tt }
    ∷ record { call = stabilise 1 1; answer = Ok tt }
    ∷ record { call = get 1 3; answer = Ok (Some (shown (Percent (percent_of 1200 refl)) (stamp_of 100 1))) }
    ∷ record { call = get 1 2; answer = Ok (Some (shown (Basis Sheet) (stamp_of 100 0))) }
    ∷ record { call = deliver 0 1 0; answer = Err NothingWaits }
    ∷ []

abbrev pub call_of : Event → Call
call_of e = e.call

-- A group of two sites and two partitions, with the hybrid clock and a stamp for each site, answers these calls so.
abbrev pub AnswersWorkedCase : Type 0
AnswersWorkedCase =
    reverse (run_of hybrid_rule each_kind 2 2 (map call_of worked_events)).events ≡ worked_events
