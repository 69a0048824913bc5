-- A command that was read leaves fewer bytes.
use Rattle.std.proofs.Common.{◌≡◌, ℕ, ◌<◌, ◌≤◌, List, [], ◌∷◌, length, Some, None, Ok, Option, sym, arith, length-drop}
use Rattle.script.specs.declared.command.Command.{Command}
use Rattle.script.specs.Commands.{Form, form_of, read_form, read_command, read_operands}
use Rattle.script.proofs.Forms.{read_form_ok}

read_form_shorter : (f : Form) (bytes : List ℕ) (p : Command × List ℕ) → Ok p ≡ read_form f bytes
    → length p.1 ≤ length bytes
read_form_shorter f bytes p e = rw (read_form_ok f bytes p (sym e)).1 (omega (arith, length-drop f.width bytes))

read_operands_shorter : (f : Option Form) (bytes : List ℕ) (p : Command × List ℕ) → Ok p ≡ read_operands f bytes
    → length p.1 ≤ length bytes
read_operands_shorter None bytes p e = absurd cc
read_operands_shorter (Some f) bytes p e = read_form_shorter f bytes p e

pub read_shorter : (bytes : List ℕ) (p : Command × List ℕ) → Ok p ≡ read_command bytes → length p.1 < length bytes
read_shorter [] p e = absurd cc
read_shorter (letter ∷ bytes) p e = let h = read_operands_shorter (form_of letter) bytes p e in omega arith
