-- What is printed of each answer.
use Rattle.std.specs.Prelude.{ℕ, List, ◌++◌, Some, None, Ok, Err, Option, Result, codes, decimal}
use Rattle.std.specs.Fmt.{signed_decimal}
use Rattle.stamps.specs.declared.refusal.Refusal.{Refusal}
use Rattle.stamps.specs.Refusals.{number_of}
use Rattle.stamps.specs.Stamps.{time_of, count_of}
use Rattle.servers.specs.declared.value.Value.{Value}
use Rattle.servers.specs.declared.value.Value.TheVariants.{Gone, Price, Percent, Basis as BasisOf}
use Rattle.servers.specs.declared.value.Basis.{Basis}
use Rattle.servers.specs.declared.value.Basis.TheVariants.{Part, Sheet}
use Rattle.group.specs.Model.Events.{Shown}
use Rattle.script.specs.declared.answer.Answer.{Answer}
use Rattle.script.specs.declared.answer.Answer.TheVariants as answer

-- a stamp as time.count
abbrev pub stamp_text : ℕ → List ℕ
stamp_text s = decimal (time_of s) ++ codes "." ++ decimal (count_of s)

abbrev pub refusal_text : Refusal → List ℕ
refusal_text why = codes "no " ++ decimal (number_of why)

abbrev pub basis_text : Basis → List ℕ
basis_text Part = codes "basis part"
basis_text Sheet = codes "basis sheet"

abbrev pub value_text : Value → List ℕ
value_text Gone = codes "gone"
value_text (Price cents) = codes "price " ++ decimal cents
value_text (Percent percent) = codes "percent " ++ decimal percent.hundredths
value_text (BasisOf basis) = basis_text basis

-- a version as its value, its stamp and its source
abbrev pub version_text : Shown → List ℕ
version_text v = value_text v.value ++ codes " " ++ stamp_text v.stamp ++ codes " " ++ decimal v.source

abbrev pub shown_text : Option Shown → List ℕ
shown_text None = codes "none"
shown_text (Some v) = version_text v

-- the answer of one read
abbrev pub read_text : Result (Option Shown) Refusal → List ℕ
read_text (Ok v) = shown_text v
read_text (Err why) = refusal_text why

abbrev pub answer_text : Answer → List ℕ
answer_text answer.Done = codes "ok"
answer_text (answer.Count n) = decimal n
answer_text (answer.Number n) = signed_decimal n
answer_text (answer.Stamped s) = stamp_text s
answer_text (answer.Shown v) = shown_text v
answer_text (answer.Both a b) = read_text a ++ codes " / " ++ read_text b
answer_text (answer.Refused why) = refusal_text why
