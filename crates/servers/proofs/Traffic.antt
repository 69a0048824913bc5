-- An outbox is a queue for each other site.
use Rattle.std.proofs.Common.{◌≡◌, ℕ, suc, ◌<◌, ◌≤◌, Bool, true, false, cond, ◌&&◌, ◌||◌, eqb, leb, List, [], ◌∷◌, ◌++◌}
use Rattle.std.proofs.Common.{length, drop, sym, refl, ap, ◌∙◌, arith}
use Rattle.std.proofs.lemmas.List.{append_assoc, append-nil, length-append, length-drop}
use Rattle.std.proofs.lemmas.Bool.{and_parts, cond_both, cond-false, cond-true, leb-false, ltb-true, or_parts}
use Rattle.servers.specs.declared.entry.Entry.{Entry}
use Rattle.std.specs.Option.{option_to_list}
use Rattle.servers.specs.Laws.{IsQueue, StaysQueue, Traffic, issue, traffic_after, take, traffic}
use Rattle.servers.specs.Others.{is_other}
use Rattle.servers.proofs.RowEntries.{by_site}
use Rattle.servers.specs.Outboxes.{Queues, first, is_queue_full, issue_entry, is_outbox_full}

-- a queue taken apart
first_rest : (q : List Entry) → option_to_list (first q) ++ drop 1 q ≡ q
first_rest [] = refl
first_rest (e ∷ es) = refl

taken_whole : (t q : List Entry) → (t ++ option_to_list (first q)) ++ drop 1 q ≡ t ++ q
taken_whole t q = append_assoc t (option_to_list (first q)) (drop 1 q) ∙ ap (λ s. t ++ s) (first_rest q)

-- what waits is nothing exactly when all that was issued is taken
no_length : {A : Type 0} (q : List A) → length q ≡ 0 → q ≡ []
no_length [] e = refl
no_length (x ∷ xs) e = absurd (omega arith)

taken_all : (t q s : List Entry) → t ++ q ≡ s → (q ≡ [] → t ≡ s) × (t ≡ s → q ≡ [])
taken_all t q s e = (
  λ none. sym (append-nil t) ∙ ap (λ r. t ++ r) (sym none)
      ∙ e,
  λ all. let l = ap length e in let m = ap length all in let n = length-append t q in
      no_length q (omega arith),
)

is_queue : (own sites : ℕ) (t : Traffic) → ((site : ℕ) → is_other own sites site ≡ true
    → t.taken site ++ t.queues site ≡ t.sent)
    → ((site : ℕ) → is_other own sites site ≡ true → length (t.queues site) ≤ 16)
    → ((site : ℕ) → is_other own sites site ≡ false → t.queues site ≡ []) → IsQueue own sites t
is_queue own sites t whole short none =
    record {
      whole = whole;
      done = λ site other. taken_all (t.taken site) (t.queues site) t.sent (whole site other);
      short = short;
      none = none;
    }

-- an outbox that is not full has room for every other site
has_room : (own sites : ℕ) (w : Queues) (site : ℕ) → is_queue_full own sites w site ≡ false
    → is_other own sites site ≡ true → length (w site) < 16
has_room own sites w site free other =
    leb-false 16 (length (w site)) (ap (λ b. b && leb 16 (length (w site))) (sym other) ∙ free)

room : (own sites : ℕ) (w : Queues) (site : ℕ) → sites ≤ 4 → is_outbox_full own sites w ≡ false
    → is_other own sites site ≡ true → length (w site) < 16
room own sites w site few free =
    let a = or_parts (is_queue_full own sites w 0)
    (is_queue_full own sites w 1 || (is_queue_full own sites w 2 || is_queue_full own sites w 3)) free in
    let b = or_parts (is_queue_full own sites w 1) (is_queue_full own sites w 2 || is_queue_full own sites w 3) a.1 in
    let c = or_parts (is_queue_full own sites w 2) (is_queue_full own sites w 3) b.1 in
    by_site (λ i. is_other own sites i ≡ true → length (w i) < 16)
    (has_room own sites w 0 a.0) (has_room own sites w 1 b.0) (has_room own sites w 2 c.0) (has_room own sites w 3 c.1)
    (λ n other. let l = ltb-true (suc (suc (suc (suc n)))) sites (and_parts _ _ other).0 in absurd (omega arith)) site

issue_keeps : (own sites : ℕ) (t : Traffic) (e : Entry) → sites ≤ 4 → is_outbox_full own sites t.queues ≡ false
    → IsQueue own sites t
    → IsQueue own sites (record { queues = issue_entry own sites t.queues e; sent = t.sent ++ e ∷ []; taken = t.taken })
issue_keeps own sites t e few free h =
    is_queue own sites (record { queues = issue_entry own sites t.queues e; sent = t.sent ++ e ∷ []; taken = t.taken })
    (λ site other. ap (λ q. t.taken site ++ q) (more site other)
    ∙ sym (append_assoc (t.taken site) (t.queues site) (e ∷ [])) ∙ ap (λ s. s ++ e ∷ []) (h.whole site other))
    (λ site other. let l = ap length (more site other)
    ∙ length-append (t.queues site) (e ∷ []) in let r = room own sites t.queues site few free other in omega arith)
    (λ site other. cond-false (is_other own sites site) (t.queues site ++ e ∷ []) (t.queues site) other
    ∙ h.none site other)
  where
    more : (site : ℕ) → is_other own sites site ≡ true → issue_entry own sites t.queues e site ≡ t.queues site ++ e ∷ []
    more site other = cond-true (is_other own sites site) (t.queues site ++ e ∷ []) (t.queues site) other

-- what a take leaves for a site, by whether it is the taker
take_whole : (b : Bool) (t q s : List Entry) → t ++ q ≡ s
    → cond b (t ++ option_to_list (first q)) t ++ cond b (drop 1 q) q ≡ s
take_whole true t q s e = taken_whole t q ∙ e
take_whole false t q s e = e

take_short : (b : Bool) (q : List Entry) → length q ≤ 16 → length (cond b (drop 1 q) q) ≤ 16
take_short true q h = let l = length-drop 1 q in omega arith
take_short false q h = h

take_empty : (b : Bool) (q : List Entry) → q ≡ [] → cond b (drop 1 q) q ≡ []
take_empty true q e = ap (drop 1) e
take_empty false q e = e

pub queue_law : (own sites : ℕ) → sites ≤ 4 → StaysQueue own sites
queue_law own sites few [] =
    is_queue own sites (traffic own sites []) (λ site other. refl) (λ site other. omega arith) (λ site other. refl)
queue_law own sites few (issue e ∷ ms) =
    let t = traffic own sites ms in
    let h = queue_law own sites few ms in
    cond_both (is_outbox_full own sites t.queues) t
    (record { queues = issue_entry own sites t.queues e; sent = t.sent ++ e ∷ []; taken = t.taken })
    (IsQueue own sites)
    (λ _. h) (λ free. issue_keeps own sites t e few free h)
queue_law own sites few (take taker ∷ ms) =
    let t = traffic own sites ms in
    let h = queue_law own sites few ms in
    is_queue own sites (traffic_after own sites t (take taker))
    (λ site other. take_whole (eqb site taker) (t.taken site) (t.queues site) t.sent (h.whole site other))
    (λ site other. take_short (eqb site taker) (t.queues site) (h.short site other))
    (λ site other. take_empty (eqb site taker) (t.queues site) (h.none site other))
