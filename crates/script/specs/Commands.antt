-- Commands: a letter, then operands of fixed width, high byte first.
use Rattle.std.specs.Prelude.{ℕ, ◌+◌, ◌*◌, ◌^◌, if◌then◌else◌, List, [], ◌∷◌, length, drop}
use Rattle.std.specs.Prelude.{Some, None, Ok, Err, Option, Result, ◌==◌, codes, nat_le, slice_index}
use Rattle.std.specs.Borrow.{Bor}
use Rattle.stamps.specs.declared.refusal.Refusal.{Refusal}
use Rattle.stamps.specs.declared.refusal.Refusal.TheVariants.{ShortCommand, UnknownLetter}
use Rattle.script.specs.declared.command.Command.{Command}
use Rattle.script.specs.declared.command.Command.TheVariants.{Layout, OpenSession, Tell, Put, Get, Heartbeat}
use Rattle.script.specs.declared.command.Command.TheVariants.{Deliver, Report, Stabilise, Tidy, Lead, View}

-- the code of a text of one letter
abbrev pub code : List ℕ → ℕ
code text = slice_index text 0

-- numbers of one, two, four and six bytes from a place on
abbrev pub u8_at : List ℕ → ℕ → ℕ
u8_at bytes i = slice_index bytes i

abbrev pub u16_at : List ℕ → ℕ → ℕ
u16_at bytes i = u8_at bytes i * 2 ^ 8 + u8_at bytes (i + 1)

abbrev pub u32_at : List ℕ → ℕ → ℕ
u32_at bytes i = u16_at bytes i * 2 ^ 16 + u16_at bytes (i + 2)

abbrev pub u48_at : List ℕ → ℕ → ℕ
u48_at bytes i = u16_at bytes i * 2 ^ 32 + u32_at bytes (i + 2)

-- how many bytes of operands a command has, and the command that they make
pub record Form : Type 0 where
  pub width : ℕ
  pub make : List ℕ → Command

abbrev pub layout_form : Form
layout_form = record { width = 4; make = λ b. Layout (u8_at b 0) (u8_at b 1) (u8_at b 2) (u8_at b 3) }

abbrev pub open_session_form : Form
open_session_form = record { width = 1; make = λ b. OpenSession (u8_at b 0) }

abbrev pub tell_form : Form
tell_form = record { width = 8; make = λ b. Tell (u8_at b 0) (u8_at b 1) (u48_at b 2) }

abbrev pub put_form : Form
put_form = record { width = 8; make = λ b. Put (u8_at b 0) (u16_at b 1) (u8_at b 3) (u32_at b 4) }

abbrev pub get_form : Form
get_form = record { width = 3; make = λ b. Get (u8_at b 0) (u16_at b 1) }

abbrev pub deliver_form : Form
deliver_form = record { width = 3; make = λ b. Deliver (u8_at b 0) (u8_at b 1) (u8_at b 2) }

abbrev pub view_form : Form
view_form = record { width = 6; make = λ b. View (u8_at b 0) (u8_at b 1) (u16_at b 2) (u16_at b 4) }

-- a command of one server: its site and its partition
abbrev pub server_form : (ℕ → ℕ → Command) → Form
server_form command = record { width = 2; make = λ b. command (u8_at b 0) (u8_at b 1) }

-- the form that a letter stands for
abbrev pub form_of : ℕ → Option Form
form_of letter =
    if letter == code (codes "L") then Some layout_form
    else if letter == code (codes "S") then Some open_session_form
    else if letter == code (codes "T") then Some tell_form
    else if letter == code (codes "P") then Some put_form
    else if letter == code (codes "G") then Some get_form
    else if letter == code (codes "H") then Some (server_form Heartbeat)
    else if letter == code (codes "D") then Some deliver_form
    else if letter == code (codes "R") then Some (server_form Report)
    else if letter == code (codes "U") then Some (server_form Stabilise)
    else if letter == code (codes "C") then Some (server_form Tidy)
    else if letter == code (codes "Q") then Some (server_form Lead)
    else if letter == code (codes "V") then Some view_form
    else None

-- from the bytes after a letter: the command of its form, and the bytes after its operands
abbrev pub read_form : Form → List ℕ → Result (Command × List ℕ) Refusal
read_form f bytes = if nat_le f.width (length bytes) then Ok (f.make bytes, drop f.width bytes) else Err ShortCommand

abbrev pub read_operands : Option Form → List ℕ → Result (Command × List ℕ) Refusal
read_operands None bytes = Err UnknownLetter
read_operands (Some f) bytes = read_form f bytes

-- the first command of a script, and the bytes after it
abbrev pub read_command : List ℕ → Result (Command × List ℕ) Refusal
read_command [] = Err ShortCommand
read_command (letter ∷ bytes) = read_operands (form_of letter) bytes

-- what was read, with the bytes that the reference to the rest holds
abbrev pub command_and_rest : Result (Command × Bor (List ℕ)) Refusal → Result (Command × List ℕ) Refusal
command_and_rest (Ok p) = Ok (p.0, p.1.now)
command_and_rest (Err why) = Err why
