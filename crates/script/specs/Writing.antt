-- Commands to bytes.
use Rattle.std.specs.Prelude.{ℕ, ◌^◌, ◌<◌, List, [], ◌∷◌, ◌++◌, codes}
use Rattle.std.specs.Int.{bytes_high_first}
use Rattle.script.specs.declared.command.Command.{Command}
use Rattle.script.specs.declared.command.Command.TheVariants.{Layout, OpenSession, Tell, Put, Get, Heartbeat}
use Rattle.script.specs.declared.command.Command.TheVariants.{Deliver, Report, Stabilise, Tidy, Lead, View}

abbrev pub IsByte : ℕ → Type 0
IsByte number = number < 2 ^ 8

-- each operand fits its width
abbrev pub OperandsFit : Command → Type 0
OperandsFit (Layout sites partitions clock marks) = IsByte sites × IsByte partitions × IsByte clock × IsByte marks
OperandsFit (OpenSession site) = IsByte site
OperandsFit (Tell site partition time) = IsByte site × IsByte partition × (time < 2 ^ 48)
OperandsFit (Put session key kind amount) = IsByte session × (key < 2 ^ 16) × IsByte kind × (amount < 2 ^ 32)
OperandsFit (Get session key) = IsByte session × (key < 2 ^ 16)
OperandsFit (Heartbeat site partition) = IsByte site × IsByte partition
OperandsFit (Deliver from to partition) = IsByte from × IsByte to × IsByte partition
OperandsFit (Report site partition) = IsByte site × IsByte partition
OperandsFit (Stabilise site partition) = IsByte site × IsByte partition
OperandsFit (Tidy site partition) = IsByte site × IsByte partition
OperandsFit (Lead site partition) = IsByte site × IsByte partition
OperandsFit (View session partition first second) =
    IsByte session × IsByte partition × (first < 2 ^ 16) × (second < 2 ^ 16)

-- the letter, then the operands, the high byte of a number first
abbrev pub bytes_of : Command → List ℕ
bytes_of (Layout sites partitions clock marks) = codes "L" ++ sites ∷ partitions ∷ clock ∷ marks ∷ []
bytes_of (OpenSession site) = codes "S" ++ site ∷ []
bytes_of (Tell site partition time) = codes "T" ++ site ∷ partition ∷ bytes_high_first 6 time
bytes_of (Put session key kind amount) =
    codes "P" ++ session ∷ (bytes_high_first 2 key ++ kind ∷ bytes_high_first 4 amount)
bytes_of (Get session key) = codes "G" ++ session ∷ bytes_high_first 2 key
bytes_of (Heartbeat site partition) = codes "H" ++ site ∷ partition ∷ []
bytes_of (Deliver from to partition) = codes "D" ++ from ∷ to ∷ partition ∷ []
bytes_of (Report site partition) = codes "R" ++ site ∷ partition ∷ []
bytes_of (Stabilise site partition) = codes "U" ++ site ∷ partition ∷ []
bytes_of (Tidy site partition) = codes "C" ++ site ∷ partition ∷ []
bytes_of (Lead site partition) = codes "Q" ++ site ∷ partition ∷ []
bytes_of (View session partition first second) =
    codes "V" ++ session ∷ partition ∷ (bytes_high_first 2 first ++ bytes_high_first 2 second)
