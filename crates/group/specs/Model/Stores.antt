-- What the promises need to know of a store: what it answers to a next call, and a few questions about its state.
use Rattle.std.specs.Prelude.{ℕ, Bool, List, [], ◌∷◌}
use Rattle.servers.specs.declared.version.Version.{Version}
use Rattle.group.specs.Model.Events.{Call, Answer, Event, History, history_of}

pub record Store : Type 1 where
  pub State : Type 0
  pub sites : ℕ
  -- the answer to a next call, and the state after it
  pub ask : State → (call : Call) → Answer call × State
  -- every outbox is empty
  pub IsQuiet : State → Type 0
  -- the versions that a site's servers hold
  pub holds : State → ℕ → List Version
  -- whether a session may see a version that its site holds
  pub may_see : State → ℕ → Version → Bool
  -- the capacities and ranges hold
  pub IsBounded : State → Type 0

-- What was called and answered, the newest first, and the state then.
pub record Run (S : Store) : Type 0 where
  pub events : List Event
  pub state : S.State

module _ (S : Store) where
  abbrev pub answer : Run S → (call : Call) → Answer call
  answer r call = (S.ask r.state call).0

  abbrev pub then : Run S → Call → Run S
  then r call =
      record { events = record { call = call; answer = answer r call } ∷ r.events; state = (S.ask r.state call).1 }

  -- the calls of a list, one after the other
  abbrev pub then_all : Run S → List Call → Run S
  then_all r [] = r
  then_all r (call ∷ calls) = then_all (then r call) calls

  abbrev pub history : Run S → History
  history r = history_of r.events
