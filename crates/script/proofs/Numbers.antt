-- Numbers of two, four and six bytes, and their bytes.
use Rattle.std.proofs.Common.{◌≡◌, ℕ, zero, suc, ◌+◌, ◌*◌, ◌^◌, ◌<◌, List, [], ◌∷◌, drop, refl, ap, arith}
use Rattle.std.specs.Prelude.{All, slice_index}
use Rattle.std.proofs.lemmas.List.Elements.{All-cons, All-nil}
use Rattle.std.proofs.lemmas.Nat.{be_bytes_2, be_bytes_4, be_bytes_8}
use Rattle.std.specs.Int.{byte_at, bytes_high_first}
use Rattle.script.specs.Commands.{u8_at}
use Rattle.script.specs.Writing.{IsByte}

-- each number of a list is a byte, one by one
abbrev pub AreBytes : List ℕ → Type 0
AreBytes [] = Unit {0}
AreBytes (b ∷ bs) = IsByte b × AreBytes bs

-- each number of a list is a byte, by its place; past its end there is 0
abbrev pub BytesAt : List ℕ → Type 0
BytesAt bytes = (i : ℕ) → IsByte (slice_index bytes i)

pub each_byte : (bs : List ℕ) → AreBytes bs → BytesAt bs
each_byte [] h i = omega arith
each_byte (b ∷ bs) h zero = h.0
each_byte (b ∷ bs) h (suc i) = each_byte bs h.1 i

pub all_bytes : (bs : List ℕ) → AreBytes bs → All IsByte bs
all_bytes [] h = All-nil IsByte
all_bytes (b ∷ bs) h = All-cons IsByte b bs h.0 (all_bytes bs h.1)

-- n numbers of a list, from a place on
abbrev pub items : List ℕ → ℕ → ℕ → List ℕ
items bytes i zero = []
items bytes i (suc n) = u8_at bytes i ∷ items bytes (i + 1) n

pub items_bytes : (bytes : List ℕ) (i n : ℕ) → BytesAt bytes → AreBytes (items bytes i n)
items_bytes bytes i zero h = tt
items_bytes bytes i (suc n) h = (h i, items_bytes bytes (i + 1) n h)

-- a number is read from its bytes
pub two_read : (n : ℕ) → n < 2 ^ 16 → byte_at 1 n * 256 + byte_at 0 n ≡ n
two_read n h = omega arith

pub four_read : (n : ℕ) → n < 2 ^ 32 → (byte_at 3 n * 256 + byte_at 2 n) * 65536 + (byte_at 1 n * 256 + byte_at 0 n) ≡ n
four_read n h = omega arith

pub six_read : (n : ℕ) → n < 2 ^ 48
    → (byte_at 5 n * 256 + byte_at 4 n) * 4294967296 + ((byte_at 3 n * 256 + byte_at 2 n) *
    65536 + (byte_at 1 n * 256 + byte_at 0 n)) ≡ n
six_read n h = omega arith

-- a number that is read from bytes is in its range, and they are its bytes
pub two_written : (a b : ℕ) → AreBytes (a ∷ b ∷ [])
    → (a * 256 + b < 2 ^ 16) × (bytes_high_first 2 (a * 256 + b) ≡ a ∷ b ∷ [])
two_written a b h = (omega arith, be_bytes_2 (a ∷ b ∷ []) (a * 256 + b) refl (each_byte (a ∷ b ∷ []) h) (omega arith))

pub four_written : (a b c d : ℕ) → AreBytes (a ∷ b ∷ c ∷ d ∷ [])
    → ((a * 256 + b) * 65536 + (c * 256 + d) < 2 ^ 32)
    × (bytes_high_first 4 ((a * 256 + b) * 65536 + (c * 256 + d)) ≡ a ∷ b ∷ c ∷ d ∷ [])
four_written a b c d h =
    let all = a ∷ b ∷ c ∷ d ∷ [] in
    (omega arith, be_bytes_4 all ((a * 256 + b) * 65536 + (c * 256 + d)) refl (each_byte all h) (omega arith))

pub six_written : (a b c d e f : ℕ) → AreBytes (a ∷ b ∷ c ∷ d ∷ e ∷ f ∷ [])
    → ((a * 256 + b) * 4294967296 + ((c * 256 + d) * 65536 + (e * 256 + f)) < 2 ^ 48)
    × (bytes_high_first 6 ((a * 256 + b) * 4294967296 + ((c * 256 + d) * 65536 + (e * 256 + f)))
    ≡ a ∷ b ∷ c ∷ d ∷ e ∷ f ∷ [])
six_written a b c d e f h =
    let all = 0 ∷ 0 ∷ a ∷ b ∷ c ∷ d ∷ e ∷ f ∷ [] in
    let n = (a * 256 + b) * 4294967296 + ((c * 256 + d) * 65536 + (e * 256 + f)) in
    (omega arith, ap (drop 2) (be_bytes_8 all n refl (each_byte all (omega arith, (omega arith, h))) (omega arith)))
