-- Commands to bytes, and back.
use Rattle.std.proofs.Common.{◌≡◌, ℕ, zero, suc, ◌+◌, ◌≤◌, cond, eqb, leb, List, [], ◌∷◌, ◌++◌, length, drop, Some}
use Rattle.std.proofs.Common.{None, Ok, Option, Result, rules, refl, sym, ap, ◌∙◌, arith, add-one, add-zero, zero-add}
use Rattle.std.proofs.Common.{drop-cons, length-append}
use Rattle.std.proofs.lemmas.Bool.{cond-true, cond_both, le-leb, eqb-true}
use Rattle.std.proofs.Math.Seq.{drop-append_seam}
use Rattle.std.specs.Prelude.{All}
use Rattle.std.specs.Int.{bytes_high_first}
use Rattle.stamps.specs.declared.refusal.Refusal.{Refusal}
use Rattle.script.specs.declared.command.Command.{Command}
use Rattle.script.specs.declared.command.Command.TheVariants.{Layout, OpenSession, Tell, Put, Get, Heartbeat, Deliver}
use Rattle.script.specs.declared.command.Command.TheVariants.{Report, Stabilise, Tidy, Lead, View}
use Rattle.script.specs.Commands.{Form, u8_at, deliver_form, form_of, read_form, get_form, layout_form}
use Rattle.script.specs.Commands.{open_session_form, put_form, read_command, read_operands, server_form, tell_form}
use Rattle.script.specs.Commands.{view_form}
use Rattle.script.specs.Writing.{IsByte, OperandsFit, bytes_of}
use Rattle.script.specs.ReaderLaws.{AnswersFirstCommand}
use Rattle.script.proofs.Forms.{read_form_ok}
use Rattle.script.proofs.Numbers.{AreBytes, BytesAt, all_bytes, four_read, four_written, items, items_bytes, six_read}
use Rattle.script.proofs.Numbers.{six_written, two_read, two_written}

-- ---- what was written is read

-- the operands stand before the rest
read_form_front : (f : Form) (front rest : List ℕ) → f.width ≡ length front
    → read_form f (front ++ rest) ≡ Ok (f.make (front ++ rest), rest)
read_form_front f front rest e =
    cond-true (leb f.width (length (front ++ rest))) _ _ (le-leb _ _ (omega (arith, length-append front rest)))
    ∙ ap (λ r. Ok (f.make (front ++ rest), r)) (rw e (drop-append_seam front rest))

pub bytes_of-read : (c : Command) (rest : List ℕ) → OperandsFit c → read_command (bytes_of c ++ rest) ≡ Ok (c, rest)
bytes_of-read (Layout sites partitions clock marks) rest h =
    read_form_front layout_form (sites ∷ partitions ∷ clock ∷ marks ∷ []) rest refl
bytes_of-read (OpenSession site) rest h = read_form_front open_session_form (site ∷ []) rest refl
bytes_of-read (Tell site partition time) rest h =
    read_form_front tell_form (site ∷ partition ∷ bytes_high_first 6 time) rest refl
    ∙ ap (λ t. Ok (Tell site partition t, rest)) (six_read time h.2)
bytes_of-read (Put session key kind amount) rest h =
    read_form_front put_form (session ∷ (bytes_high_first 2 key ++ kind ∷ bytes_high_first 4 amount)) rest refl
    ∙ (let k = two_read key h.1 in let a = four_read amount h.3 in cc)
bytes_of-read (Get session key) rest h =
    read_form_front get_form (session ∷ bytes_high_first 2 key) rest refl
    ∙ ap (λ k. Ok (Get session k, rest)) (two_read key h.1)
bytes_of-read (Heartbeat site partition) rest h =
    read_form_front (server_form Heartbeat) (site ∷ partition ∷ []) rest refl
bytes_of-read (Deliver from to partition) rest h = read_form_front deliver_form (from ∷ to ∷ partition ∷ []) rest refl
bytes_of-read (Report site partition) rest h = read_form_front (server_form Report) (site ∷ partition ∷ []) rest refl
bytes_of-read (Stabilise site partition) rest h =
    read_form_front (server_form Stabilise) (site ∷ partition ∷ []) rest refl
bytes_of-read (Tidy site partition) rest h = read_form_front (server_form Tidy) (site ∷ partition ∷ []) rest refl
bytes_of-read (Lead site partition) rest h = read_form_front (server_form Lead) (site ∷ partition ∷ []) rest refl
bytes_of-read (View session partition first second) rest h =
    read_form_front view_form (session ∷ partition ∷ (bytes_high_first 2 first ++ bytes_high_first 2 second)) rest refl
    ∙ (let f = two_read first h.2 in let s = two_read second h.3 in cc)

-- ---- what is read was written

-- the first n numbers of a list, and the rest
items_rest : (bytes : List ℕ) (i n : ℕ) → i + n ≤ length bytes → drop i bytes ≡ items bytes i n ++ drop (i + n) bytes
items_rest bytes i zero h = rw add-zero refl
items_rest bytes i (suc n) h =
    let next : i + suc n ≡ i + 1 + n = omega arith in
    drop-cons bytes i 0 (omega arith) ∙ rw (← add-one i, next)
    (ap (λ t. u8_at bytes i ∷ t) (items_rest bytes (i + 1) n (omega arith)))

-- the command of a form is written as the letter and the operands
abbrev WritesBack : ℕ → Form → Type 0
WritesBack letter f = (bytes : List ℕ) → BytesAt bytes
    → OperandsFit (f.make bytes) × (bytes_of (f.make bytes) ≡ letter ∷ items bytes 0 f.width)

layout_written : WritesBack 76 layout_form
layout_written bytes h = ((h 0, h 1, h 2, h 3), refl)

open_session_written : WritesBack 83 open_session_form
open_session_written bytes h = (h 0, refl)

tell_written : WritesBack 84 tell_form
tell_written bytes h =
    let time = six_written _ _ _ _ _ _ (items_bytes bytes 2 6 h) in
    ((h 0, h 1, time.0), cc time.1)

put_written : WritesBack 80 put_form
put_written bytes h =
    let key = two_written _ _ (items_bytes bytes 1 2 h) in
    let amount = four_written _ _ _ _ (items_bytes bytes 4 4 h) in
    ((h 0, key.0, h 3, amount.0), cc (key.1, amount.1))

get_written : WritesBack 71 get_form
get_written bytes h =
    let key = two_written _ _ (items_bytes bytes 1 2 h) in
    ((h 0, key.0), cc key.1)

deliver_written : WritesBack 68 deliver_form
deliver_written bytes h = ((h 0, h 1, h 2), refl)

view_written : WritesBack 86 view_form
view_written bytes h =
    let first = two_written _ _ (items_bytes bytes 2 2 h) in
    let second = two_written _ _ (items_bytes bytes 4 2 h) in
    ((h 0, h 1, first.0, second.0), cc (first.1, second.1))

abbrev FormWrites : ℕ → Option Form → Type 0
FormWrites letter None = Unit {0}
FormWrites letter (Some f) = WritesBack letter f

-- a form stands before the forms of the other letters
by_letter : (letter code : ℕ) (f : Form) (others : Option Form) → WritesBack code f → FormWrites letter others
    → FormWrites letter (cond (eqb letter code) (Some f) others)
by_letter letter code f others w o =
    cond_both (eqb letter code) (Some f) others (FormWrites letter) (λ e. rw (eqb-true letter code e) w) (λ _. o)

form_writes : (letter : ℕ) → FormWrites letter (form_of letter)
form_writes letter =
    by_letter letter 76 layout_form _ layout_written
    (by_letter letter 83 open_session_form _ open_session_written
    (by_letter letter 84 tell_form _ tell_written
    (by_letter letter 80 put_form _ put_written
    (by_letter letter 71 get_form _ get_written
    (by_letter letter 72 (server_form Heartbeat) _ (λ bytes h. ((h 0, h 1), refl))
    (by_letter letter 68 deliver_form _ deliver_written
    (by_letter letter 82 (server_form Report) _ (λ bytes h. ((h 0, h 1), refl))
    (by_letter letter 85 (server_form Stabilise) _ (λ bytes h. ((h 0, h 1), refl))
    (by_letter letter 67 (server_form Tidy) _ (λ bytes h. ((h 0, h 1), refl))
    (by_letter letter 81 (server_form Lead) _ (λ bytes h. ((h 0, h 1), refl))
    (by_letter letter 86 view_form None view_written tt)))))))))))

-- the operands of what was read fit, and the bytes are its bytes and then the rest
abbrev WasWritten : List ℕ → Command × List ℕ → Type 0
WasWritten bytes p = OperandsFit p.0 × (bytes ≡ bytes_of p.0 ++ p.1)

read_form_written : (letter : ℕ) (f : Form) (bytes : List ℕ) (p : Command × List ℕ) → WritesBack letter f
    → BytesAt bytes
    → read_form f bytes ≡ Ok p → WasWritten (letter ∷ bytes) p
read_form_written letter f bytes p writes h e =
    let ok = read_form_ok f bytes p e in
    let w = writes bytes h in
    let whole = rw zero-add at (items_rest bytes 0 f.width (omega arith)) in
    rw ok.1 (w.0, rw w.1 (ap (λ t. letter ∷ t) whole))

read_operands_written : (letter : ℕ) (f : Option Form) (bytes : List ℕ) (p : Command × List ℕ) → FormWrites letter f
    → BytesAt bytes
    → read_operands f bytes ≡ Ok p → WasWritten (letter ∷ bytes) p
read_operands_written letter None bytes p writes h e = absurd cc
read_operands_written letter (Some f) bytes p writes h e = read_form_written letter f bytes p writes h e

pub read_command-bytes : (bytes : List ℕ) (p : Command × List ℕ) → BytesAt bytes → read_command bytes ≡ Ok p
    → OperandsFit p.0 × (bytes ≡ bytes_of p.0 ++ p.1)
read_command-bytes [] p h e = absurd cc
read_command-bytes (letter ∷ bytes) p h e =
    read_operands_written letter (form_of letter) bytes p (form_writes letter) (λ i. h (suc i)) e

-- ---- what is written is bytes

are_bytes : (c : Command) → OperandsFit c → AreBytes (bytes_of c)
are_bytes (Layout _ _ _ _) h = search rules
are_bytes command h = search rules

pub bytes_of-bytes : (c : Command) → OperandsFit c → All IsByte (bytes_of c)
bytes_of-bytes c h = all_bytes (bytes_of c) (are_bytes c h)

-- ---- the law

pub reader_law : (script : List ℕ) (answer : Result (Command × List ℕ) Refusal) → BytesAt script
    → answer ≡ read_command script → AnswersFirstCommand script answer
reader_law script answer h e = record {
  accepts = λ c rest is. read_command-bytes script (c, rest) h (sym e ∙ is);
  reads = λ c rest fits is. e ∙ ap read_command is ∙ bytes_of-read c rest fits;
  bytes = bytes_of-bytes;
}
