-- The entries that each site has still to take, by how many of the last they are.
use Rattle.std.proofs.Common.{◌≡◌, ℕ, zero, suc, ◌+◌, ◌-◌, ◌<◌, ◌≤◌, Bool, true, false, cond, ◌&&◌, ◌||◌, eqb, ltb, leb}
use Rattle.std.proofs.Common.{List, [], ◌∷◌, ◌++◌, length, get_or, drop, Some, None, sym, refl, ap, ◌∙◌, arith}
use mathlib.Core.Path.{fun_ext}
use Rattle.std.proofs.lemmas.List.{drop_all, drop-append-le, drop-drop, drop_more, length-append, length-drop}
use Rattle.std.proofs.lemmas.Bool.{cases_Bool, cond_both, cond-false, cond-true, eqb-false, eqb-true, le-ltb, lt-ltb}
use Rattle.std.proofs.lemmas.Bool.{ne_eqb, true≢false}
use Rattle.std.proofs.lemmas.Bool.Decides.{nat_tests}
use Rattle.stamps.specs.Rows.{PerSite, at, greatest, with_entry}
use Rattle.servers.specs.declared.entry.Entry.{Entry}
use Rattle.servers.specs.Others.{IsOthersOnly, is_other, one_more}
use Rattle.servers.proofs.RowEntries.{at_other, at_same, by_site}
use Rattle.servers.specs.Outboxes.{first, issue_entry, last_for, next_for, is_outbox_full, take_entry}

-- how many are waiting
last_length : {A : Type 0} (es : List A) (l : ℕ) → l ≤ length es → length (drop (length es - l) es) ≡ l
last_length es l h = let e = length-drop (length es - l) es in omega arith

-- one entry more, for a site that takes it
last_push : {A : Type 0} (es : List A) (e : A) (l : ℕ) → l ≤ length es
    → drop (length (es ++ e ∷ []) - (l + 1)) (es ++ e ∷ []) ≡ drop (length es - l) es ++ e ∷ []
last_push es e l h =
    let len = length-append es (e ∷ []) in
    let n : length (es ++ e ∷ []) - (l + 1) ≡ length es - l = omega arith in
    ap (λ m. drop m (es ++ e ∷ [])) n ∙ drop-append-le (length es - l) es (e ∷ []) (omega arith)

-- for a site that has none to take
last_none : {A : Type 0} (es : List A) (l : ℕ) → l ≡ 0 → drop (length es - l) es ≡ []
last_none es l z = drop_all (length es - l) es (omega arith)

-- one fewer, if there is one
last_less : {A : Type 0} (es : List A) (l l' : ℕ) → l' ≡ l - 1 → l ≤ length es
    → drop (length es - l') es ≡ drop 1 (drop (length es - l) es)
last_less es zero l' e h = last_none es l' (omega arith) ∙ sym (ap (drop 1) (last_none es zero refl))
last_less es (suc l) l' e h =
    let n : length es - l' ≡ (length es - suc l) + 1 = omega arith in
    ap (λ m. drop m es) n ∙ sym (drop-drop 1 (length es - suc l) es)

-- the first entries are gone, and nobody had them to take
last_kept : {A : Type 0} (es : List A) (l g : ℕ) → l ≤ g → g ≤ length es
    → drop (length (drop (length es - g) es) - l) (drop (length es - g) es) ≡ drop (length es - l) es
last_kept es l g h few =
    let len = length-drop (length es - g) es in
    let n : length (drop (length es - g) es) - l ≡ g - l = omega arith in
    let m : (length es - g) + (g - l) ≡ length es - l = omega arith in
    ap (λ k. drop k (drop (length es - g) es)) n ∙ drop-drop (g - l) (length es - g) es ∙ ap (λ k. drop k es) m

-- the next entry
pub last_first : {A : Type 0} (es : List A) (l : ℕ) (d : A) → 0 < l → l ≤ length es
    → first (drop (length es - l) es) ≡ Some (get_or es (length es - l) d)
last_first es l d some h = ap first (drop_more es (length es - l) d (omega arith))

-- no site has more to take than there are entries
pub left_within : (left : PerSite) (n i : ℕ) → greatest left ≡ n → at left i ≤ n
left_within left n i e = grind (arith, nat_tests)

-- the outbox is full exactly if it holds 16 entries
pub full_is : (own sites : ℕ) (es : List Entry) (left : PerSite) → IsOthersOnly own sites left
    → greatest left ≡ length es → leb 16 (length es) ≡ is_outbox_full own sites (last_for es left)
full_is own sites es left others needed =
    let a = last_length es left.site0 (omega arith) in
    let b = last_length es left.site1 (omega arith) in
    let c = last_length es left.site2 (omega arith) in
    let d = last_length es left.site3 (omega arith) in
    rw (a, b, c, d) (full_of (is_other own sites 0) (is_other own sites 1) (is_other own sites 2) (is_other own sites 3)
    left (length es) others needed)
  where
    full_of : (p q r s : Bool) (left : PerSite) (n : ℕ)
        → (p ≡ false → left.site0 ≡ 0) × (q ≡ false → left.site1 ≡ 0) × (r ≡ false → left.site2 ≡ 0)
        × (s ≡ false → left.site3 ≡ 0) → greatest left ≡ n
        → leb 16 n ≡ ((p && leb 16 left.site0) || ((q && leb 16
        left.site1) || ((r && leb 16 left.site2) || (s && leb 16 left.site3))))
    full_of p q r s left n z e = grind (arith, nat_tests, cases_Bool p, cases_Bool q, cases_Bool r, cases_Bool s)

-- one entry more, for a site that takes it or not
push_for : (o : Bool) (es : List Entry) (e : Entry) (l l' : ℕ) → l ≤ length es → (o ≡ false → l ≡ 0)
    → l' ≡ l + cond o 1 0
    → drop (length (es ++ e ∷ []) - l') (es ++ e ∷ [])
    ≡ cond o (drop (length es - l) es ++ e ∷ []) (drop (length es - l) es)
push_for true es e l l' h none is = ap (λ m. drop (length (es ++ e ∷ []) - m) (es ++ e ∷ [])) is ∙ last_push es e l h
push_for false es e l l' h none is = let z = none refl in last_none (es ++ e ∷ []) l' (omega arith)
    ∙ sym (last_none es l z)

past_other : (own sites n : ℕ) → sites ≤ 4 → is_other own sites (suc (suc (suc (suc n)))) ≡ false
past_other own sites n h = grind (arith, nat_tests)

past_last : (es : List Entry) (left : PerSite) (n : ℕ) → last_for es left (suc (suc (suc (suc n)))) ≡ []
past_last es left n = cond-false (ltb (suc (suc (suc (suc n)))) 4)
    (drop (length es - at left (suc (suc (suc (suc n))))) es) [] (le-ltb (suc (suc (suc (suc n)))) 4 (omega arith))

-- after an issue, each site that takes it has one more
pub issue_queues : (own sites : ℕ) (es : List Entry) (e : Entry) (left : PerSite) → sites ≤ 4
    → IsOthersOnly own sites left → greatest left ≡ length es
    → last_for (es ++ e ∷ []) (one_more own sites left) ≡ issue_entry own sites (last_for es left) e
issue_queues own sites es e left few others needed =
    fun_ext (by_site (λ i. last_for (es ++ e ∷ []) (one_more own sites left) i
    ≡ issue_entry own sites (last_for es left) e i)
    (push_for (is_other own sites 0) es e left.site0 _ (omega arith) others.0 refl)
    (push_for (is_other own sites 1) es e left.site1 _ (omega arith) others.1 refl)
    (push_for (is_other own sites 2) es e left.site2 _ (omega arith) others.2 refl)
    (push_for (is_other own sites 3) es e left.site3 _ (omega arith) others.3 refl)
    (λ n. past_last (es ++ e ∷ []) (one_more own sites left) n
    ∙ sym (cond-false _ (last_for es left (suc (suc (suc (suc n)))) ++ e ∷ [])
    (last_for es left (suc (suc (suc (suc n))))) (past_other own sites n few) ∙ past_last es left n)))

-- the counts after an issue: sites that take nothing still have none, and the longest queue is one longer
grown : (o : Bool) (l l' : ℕ) → (o ≡ false → l ≡ 0) → l' ≡ l + cond o 1 0 → o ≡ false → l' ≡ 0
grown true l l' none is z = absurd (true≢false z)
grown false l l' none is z = let k = none refl in omega arith

some_other : (own sites : ℕ) → 2 ≤ sites → (is_other own sites 0 || is_other own sites 1) ≡ true
some_other own sites h = grind (arith, nat_tests)

longest : (p q r s : Bool) (left : PerSite) (n : ℕ) → (p || q) ≡ true
    → (p ≡ false → left.site0 ≡ 0) × (q ≡ false → left.site1 ≡ 0) × (r ≡ false → left.site2 ≡ 0)
    × (s ≡ false → left.site3 ≡ 0)
    → greatest left ≡ n
    → greatest (record {
      site0 = left.site0 + cond p 1 0;
      site1 = left.site1 + cond q 1 0;
      site2 = left.site2 + cond r 1 0;
      site3 = left.site3 + cond s 1 0;
    }) ≡ n + 1
longest p q r s left n o z e = grind (arith, cases_Bool p, cases_Bool q, cases_Bool r, cases_Bool s)

pub issue_counts : (own sites : ℕ) (left : PerSite) (n : ℕ) → 2 ≤ sites → IsOthersOnly own sites left
    → greatest left ≡ n
    → IsOthersOnly own sites (one_more own sites left) × (greatest (one_more own sites left) ≡ n + 1)
issue_counts own sites left n some others needed = (
  (
    grown (is_other own sites 0) left.site0 _ others.0 refl,
    grown (is_other own sites 1) left.site1 _ others.1 refl,
    grown (is_other own sites 2) left.site2 _ others.2 refl,
    grown (is_other own sites 3) left.site3 _ others.3 refl,
  ),
  longest (is_other own sites 0) (is_other own sites 1) (is_other own sites 2) (is_other own sites 3) left n
      (some_other own sites some) others needed,
)

-- after a take: one fewer for the taker
taken_for : (taker i : ℕ) (es : List Entry) (l l' : ℕ) → l ≤ length es → (i ≡ taker → l' ≡ l - 1)
    → ((i ≡ taker → ⊥) → l' ≡ l)
    → drop (length es - l') es ≡ cond (eqb i taker) (drop 1 (drop (length es - l) es)) (drop (length es - l) es)
taken_for taker i es l l' h same other =
    cond_both (eqb i taker) (drop 1 (drop (length es - l) es)) (drop (length es - l) es)
    (λ t. drop (length es - l') es ≡ t)
    (λ e. last_less es l l' (same (eqb-true i taker e)) h)
    (λ e. ap (λ m. drop (length es - m) es) (other (eqb-false i taker e)))

-- the queues, with left as a record: the taker has one fewer, the others as many as before
take_is : (taker : ℕ) (es : List Entry) (left left' : PerSite) → taker < 4 → greatest left ≡ length es
    → ((i : ℕ) → i ≡ taker → at left' i ≡ at left i - 1) → ((i : ℕ) → i < 4 → (i ≡ taker → ⊥) → at left' i ≡ at left i)
    → last_for es left' ≡ take_entry (last_for es left) taker
take_is taker es left left' few needed same other =
    fun_ext (by_site (λ i. last_for es left' i ≡ take_entry (last_for es left) taker i)
    (taken_for taker 0 es left.site0 left'.site0 (omega arith) (same 0) (other 0 (omega arith)))
    (taken_for taker 1 es left.site1 left'.site1 (omega arith) (same 1) (other 1 (omega arith)))
    (taken_for taker 2 es left.site2 left'.site2 (omega arith) (same 2) (other 2 (omega arith)))
    (taken_for taker 3 es left.site3 left'.site3 (omega arith) (same 3) (other 3 (omega arith)))
    (λ n. past_last es left' n ∙ sym (cond-false (eqb (suc (suc (suc (suc n)))) taker) _
    (last_for es left (suc (suc (suc (suc n))))) (ne_eqb (suc (suc (suc (suc n)))) taker (λ e. omega arith))
    ∙ past_last es left n)))

-- only as many entries are kept as some site has still to take, and every queue stays
pub kept_queues : (es : List Entry) (left : PerSite) → greatest left ≤ length es
    → last_for (drop (length es - greatest left) es) left ≡ last_for es left
kept_queues es left h =
    let g = greatest left in
    fun_ext (by_site (λ i. last_for (drop (length es - g) es) left i ≡ last_for es left i)
    (last_kept es left.site0 g (omega arith) h) (last_kept es left.site1 g (omega arith) h)
    (last_kept es left.site2 g (omega arith) h) (last_kept es left.site3 g (omega arith) h)
    (λ n. past_last (drop (length es - g) es) left n ∙ sym (past_last es left n)))

-- the queue of a site
last_at : (es : List Entry) (left : PerSite) (i : ℕ) → i < 4 → last_for es left i ≡ drop (length es - at left i) es
last_at es left i h = cond-true (ltb i 4) (drop (length es - at left i) es) [] (lt-ltb i 4 h)

pub next_none : (es : List Entry) (left : PerSite) (i : ℕ) → i < 4 → at left i ≡ 0
    → None ≡ next_for (last_for es left) i
next_none es left i h z = sym (ap first (last_at es left i h ∙ last_none es (at left i) z))

pub next_some : (es : List Entry) (left : PerSite) (i : ℕ) (d : Entry) → i < 4 → 0 < at left i → at left i ≤ length es
    → Some (get_or es (length es - at left i) d) ≡ next_for (last_for es left) i
next_some es left i d h some within = sym (ap first (last_at es left i h) ∙ last_first es (at left i) d some within)

-- after a take
abbrev pub fewer : PerSite → ℕ → PerSite
fewer left taker = with_entry left taker (at left taker - 1)

pub take_queues : (taker : ℕ) (es : List Entry) (left : PerSite) → taker < 4 → greatest left ≡ length es
    → last_for es (fewer left taker) ≡ take_entry (last_for es left) taker
take_queues taker es left few needed = take_is taker es left (fewer left taker) few needed
    (λ i e. rw e (at_same left taker (at left taker - 1) few))
    (λ i l ne. at_other left i taker (at left taker - 1) l ne)

-- each count is at most what it was, and one of them is one less
pub fewer_counts : (own sites taker : ℕ) (left : PerSite) (n : ℕ) → taker < 4 → IsOthersOnly own sites left
    → greatest left ≡ n
    → IsOthersOnly own sites (fewer left taker) × (greatest (fewer left taker) ≤ n)
    × (n ≤ greatest (fewer left taker) + 1)
fewer_counts own sites taker left n few others needed =
    by_site (λ t. t < 4 → IsOthersOnly own sites (fewer left t) × (greatest (fewer left t) ≤ n)
    × (n ≤ greatest (fewer left t) + 1))
    (λ _. ((λ z. let k = others.0 z in omega arith, others.1, others.2, others.3), omega arith, omega arith))
    (λ _. ((others.0, λ z. let k = others.1 z in omega arith, others.2, others.3), omega arith, omega arith))
    (λ _. ((others.0, others.1, λ z. let k = others.2 z in omega arith, others.3), omega arith, omega arith))
    (λ _. ((others.0, others.1, others.2, λ z. let k = others.3 z in omega arith), omega arith, omega arith))
    (λ m l. absurd (omega arith)) taker few
