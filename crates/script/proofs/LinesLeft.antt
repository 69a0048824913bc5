-- The lines of a listing, one after the other, into a buffer.
use Rattle.std.proofs.Common.{◌≡◌, ℕ, zero, suc, ◌+◌, ◌-◌, ◌<◌, ◌≤◌, List, [], ◌∷◌, ◌++◌, length, take, drop, Some}
use Rattle.std.proofs.Common.{None, Ok, Option, Result, sym, refl, ap, ◌∙◌, arith}
use borrow.Rule.Slice.PartMut.{put_mid}
use lib.Seq.{drop-drop}
use Rattle.std.proofs.lemmas.List.{append_assoc, append-nil, drop_all, drop_at, length-append, length-drop}
use Rattle.std.proofs.lemmas.List.{length-take-le, take_at, take_rest}
use Rattle.stamps.specs.declared.refusal.Refusal.{Refusal}
use Rattle.script.specs.Scripts.{ScriptState, new_script, lines_of, lines_after, lines_from, next, next_at}
use Rattle.script.specs.Scripts.{counted_line, line_into, next_answer}
use Rattle.script.specs.ScriptGroups.{ScriptGroup, obey}
use Rattle.script.proofs.Counts.{rest_shorter, step_follows, has_group}
use Rattle.script.proofs.NextAnswers.{new_script_within}

-- all lines that follow
abbrev pub lines_left : ScriptState ScriptGroup → List (List ℕ)
lines_left s = lines_from (length s.rest) s

next_none : (s : ScriptState ScriptGroup) → length s.rest ≡ 0 → next obey s ≡ None
next_none s h = go s.rest h
  where
    go : (bytes : List ℕ) → length bytes ≡ 0 → next_at obey s bytes ≡ None
    go [] e = refl
    go (b ∷ bytes) e = absurd (omega arith)

-- after the next line fewer bytes are left
pub next_shorter : (s after : ScriptState ScriptGroup) (line : List ℕ) → next obey s ≡ Some (line, after)
    → length after.rest < length s.rest
next_shorter s after line e = go s.rest refl e
  where
    go : (bytes : List ℕ) → s.rest ≡ bytes → next_at obey s bytes ≡ Some (line, after)
        → length after.rest < length s.rest
    go [] is e' = absurd cc
    go (b ∷ bytes) is e' =
        let f = step_follows s in
        let same : counted_line b (next_answer obey s) ≡ (line, after) = cc in
        let rest : (next_answer obey s).1.rest ≡ after.rest =
        ap (λ (o : List ℕ × ScriptState ScriptGroup). o.1.rest) same in
        let less = rest_shorter (has_group s.group) s.rest (rw is (omega arith)) in
        omega (arith, ap length rest, ap length f.rest)

-- any number that is not below the number of bytes gives the same lines
pub lines_enough : (n m : ℕ) (s : ScriptState ScriptGroup) → length s.rest ≤ n → length s.rest ≤ m
    → lines_from n s ≡ lines_from m s
lines_enough zero zero s hn hm = refl
lines_enough zero (suc m) s hn hm = sym (ap (lines_after (lines_from m)) (next_none s (omega arith)))
lines_enough (suc n) zero s hn hm = ap (lines_after (lines_from n)) (next_none s (omega arith))
lines_enough (suc n) (suc m) s hn hm =
    go (next obey s) refl (λ line t e. let less = next_shorter s t line e in
    lines_enough n m t (omega arith) (omega arith))
  where
    go : (o : Option (List ℕ × ScriptState ScriptGroup)) → next obey s ≡ o
        → ((line : List ℕ) (t : ScriptState ScriptGroup) → next obey s ≡ Some (line, t)
        → lines_from n t ≡ lines_from m t)
        → lines_after (lines_from n) o ≡ lines_after (lines_from m) o
    go None e more = refl
    go (Some (line, t)) e more = ap (λ rest. line ∷ rest) (more line t e)

-- the lines that follow, when the next one is known
pub lines_turn : (s after : ScriptState ScriptGroup) (line : List ℕ) → next obey s ≡ Some (line, after)
    → lines_left s ≡ line ∷ lines_left after
lines_turn s after line e = go (length s.rest) refl
  where
    go : (n : ℕ) → length s.rest ≡ n → lines_from n s ≡ line ∷ lines_left after
    go zero h = let less = next_shorter s after line e in absurd (omega arith)
    go (suc n) h =
        let less = next_shorter s after line e in
        ap (lines_after (lines_from n)) e ∙ ap (λ more. line ∷ more)
        (lines_enough n (length after.rest) after (omega arith) (omega arith))

-- where no bytes are left, no lines follow
pub lines_none : (s : ScriptState ScriptGroup) → length s.rest ≡ 0 → lines_left s ≡ []
lines_none s e = go (length s.rest) e
  where
    go : (n : ℕ) → n ≡ 0 → lines_from n s ≡ []
    go zero h = refl
    go (suc n) h = absurd (omega arith)

-- the lines of a script are those that follow at its beginning
pub lines_new : (bytes : List ℕ) → lines_left (new_script bytes) ≡ lines_of bytes
lines_new bytes = lines_enough (length (new_script bytes).rest) (length bytes) (new_script bytes) (omega arith)
    (new_script_within bytes)

-- a line was written: the line that came, and where it stands
pub record LineCame (s after : ScriptState ScriptGroup) (len : ℕ) (part left : List ℕ) : Type 0 where
  pub line : List ℕ
  pub comes : next obey s ≡ Some (line, after)
  pub long : len ≡ length line
  pub stands : left ≡ line ++ drop len part

pub line_came : (s after : ScriptState ScriptGroup) (len : ℕ) (part left : List ℕ)
    → (Ok (Some len), after, left) ≡ line_into s part (next obey s) → LineCame s after len part left
line_came s after len part left e = go (next obey s) refl e
  where
    go : (o : Option (List ℕ × ScriptState ScriptGroup)) → next obey s ≡ o
        → (Ok (Some len), after, left) ≡ line_into s part o → LineCame s after len part left
    go None is e' =
        let answer = ap (λ (w : Result (Option ℕ) Refusal × ScriptState ScriptGroup × List ℕ). w.0) e' in
        absurd cc
    go (Some (line, t)) is e' =
        let answer = ap (λ (w : Result (Option ℕ) Refusal × ScriptState ScriptGroup × List ℕ). w.0) e' in
        let long : len ≡ length line = cc in
        let same : after ≡ t = ap (λ (w : Result (Option ℕ) Refusal × ScriptState ScriptGroup × List ℕ). w.1) e' in
        let text : left ≡ line ++ drop (length line) part =
        ap (λ (w : Result (Option ℕ) Refusal × ScriptState ScriptGroup × List ℕ). w.2) e' in
        record {
          line = line;
          comes = is ∙ ap (λ x. Some (line, x)) (sym same);
          long = long;
          stands = text ∙ ap (λ n. line ++ drop n part) (sym long);
        }

-- a line written at its place in a buffer: what stands before, the line, and what lies behind it
pub put_at : (buffer line left : List ℕ) (end len k : ℕ) → end ≤ length buffer → length buffer - end ≡ k
    → len ≡ length line → left ≡ line ++ drop len (take k (drop end buffer))
    → put_mid end k buffer left ≡ (take end buffer ++ line) ++ drop (end + len) buffer
put_at buffer line left end len k within room long stands =
    let all : take k (drop end buffer) ≡ drop end buffer = ap (λ n. take n (drop end buffer)) (sym room)
    ∙ take_rest buffer end in
    let none : drop k (drop end buffer) ≡ [] =
    drop_all k (drop end buffer) (let e = length-drop end buffer in omega arith) in
    let rest : left ≡ line ++ drop (end + len) buffer = stands ∙ ap (λ xs. line ++ drop len xs) all
    ∙ ap (λ xs. line ++ xs) (drop-drop len end buffer) in
    ap (λ xs. take end buffer ++ (left ++ xs)) none ∙ ap (λ xs. take end buffer ++ xs) (append-nil left ∙ rest)
    ∙ sym (append_assoc (take end buffer) line (drop (end + len) buffer))

pub put_take : (buffer line left : List ℕ) (end len k : ℕ) → end ≤ length buffer → length buffer - end ≡ k
    → len ≡ length line → left ≡ line ++ drop len (take k (drop end buffer))
    → take (end + len) (put_mid end k buffer left) ≡ take end buffer ++ line
put_take buffer line left end len k within room long stands =
    let e = length-append (take end buffer) line in
    let t = length-take-le end buffer within in
    ap (take (end + len)) (put_at buffer line left end len k within room long stands)
    ∙ take_at (take end buffer ++ line) (drop (end + len) buffer) (end + len) (omega arith)

pub put_drop : (buffer line left : List ℕ) (end len k : ℕ) → end ≤ length buffer → length buffer - end ≡ k
    → len ≡ length line → left ≡ line ++ drop len (take k (drop end buffer))
    → drop (end + len) (put_mid end k buffer left) ≡ drop (end + len) buffer
put_drop buffer line left end len k within room long stands =
    let e = length-append (take end buffer) line in
    let t = length-take-le end buffer within in
    ap (drop (end + len)) (put_at buffer line left end len k within room long stands)
    ∙ drop_at (take end buffer ++ line) (drop (end + len) buffer) (end + len) (omega arith)

-- where bytes are left, a line follows
pub lines_some : (s : ScriptState ScriptGroup) → 0 < length s.rest → 1 ≤ length (lines_left s)
lines_some s some = go (length s.rest) refl
  where
    by_rest : (n : ℕ) (bytes : List ℕ) → 0 < length bytes
        → 1 ≤ length (lines_after (lines_from n) (next_at obey s bytes))
    by_rest n [] h = absurd (omega arith)
    by_rest n (b ∷ bytes) h = omega arith

    go : (n : ℕ) → length s.rest ≡ n → 1 ≤ length (lines_from n s)
    go zero h = absurd (omega arith)
    go (suc n) h = by_rest n s.rest some
