-- Commands of one form.
use Rattle.std.proofs.Common.{◌≡◌, ℕ, ◌≤◌, List, length, drop, Ok, Err, leb}
use Rattle.std.proofs.lemmas.Bool.{cond_both, leb-true}
use Rattle.stamps.specs.declared.refusal.Refusal.TheVariants.{ShortCommand}
use Rattle.script.specs.declared.command.Command.{Command}
use Rattle.script.specs.Commands.{Form, read_form}

-- what was read was enough bytes, and is made of them
pub read_form_ok : (f : Form) (bytes : List ℕ) (p : Command × List ℕ) → read_form f bytes ≡ Ok p
    → (f.width ≤ length bytes) × (p ≡ (f.make bytes, drop f.width bytes))
read_form_ok f bytes p =
    cond_both (leb f.width (length bytes)) (Ok (f.make bytes, drop f.width bytes)) (Err ShortCommand)
    (λ r. r ≡ Ok p → (f.width ≤ length bytes) × (p ≡ (f.make bytes, drop f.width bytes)))
    (λ enough e. (leb-true _ _ enough, cc))
    (λ _ e. absurd cc)
