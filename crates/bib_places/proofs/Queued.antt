-- Numbers in queues, by their codes.
use Rattle.std.proofs.Common.{◌≡◌, ℕ, zero, suc, ◌+◌, ◌<◌, ◌≤◌, ◌==◌, ◌&&◌, Bool, true, false, cond, List, [], ◌∷◌, ◌++◌, Option, None, Some, length, set, drop, replicate, slice_get, get_or, map, count_by, option_and_then, refl, sym, ◌∙◌, ap, ap₂, subst, arith, ⊎_elim}
use Rattle.std.specs.Str.{bytes_eq}
use Rattle.std.specs.List.{range_with_len}
use Rattle.std.specs.HashMap.{HashMap}
use Rattle.std.specs.Option.{option_map_or}
use Rattle.std.proofs.lemmas.Bool.{cases_Bool, eqb-true, eq-eqb, true≢false, false≢true}
use Rattle.std.proofs.lemmas.Option.{same_Some}
use Rattle.std.proofs.lemmas.List.{drop_all, drop_more, append_assoc, append-nil}
use Rattle.std.proofs.lemmas.Slice.Eq.{bytes_eq-Decides}
use Rattle.bib_spec.specs.Text.{Text}
use denote.Ref.{Bor}
use Rattle.merge_spec.specs.Units.{Unit, Label, label_of}
use Rattle.bib_places.specs.declared.queues.Link.{Link}
use Rattle.bib_places.specs.LabelCodes.{code_of}
use Rattle.bib_places.specs.NumbersLeft.{has_label, Loses, IsLabelled, IsTaken}
use Rattle.bib_places.specs.Queues.{has_code, IsCoded, IsTakenBy, first_of, AreLinked, marked_from, AreQueued}
use Rattle.bib_places.proofs.Counting.{count-cons, same-codes}

-- ---- counts

none-more : (n : ℕ) → 0 + n ≡ n
none-more n = omega arith

-- tests that agree count as many
same-count : {X : Type 0} (a b : X → Bool) (xs : List X) → ((x : X) → a x ≡ b x) → count_by a xs ≡ count_by b xs
same-count a b [] same = refl
same-count a b (x ∷ xs) same = count-cons a x xs ∙ ap₂ (λ t k. cond t 1 0 + k) (same x) (same-count a b xs same) ∙ sym (count-cons b x xs)

-- a test that nothing passes counts nothing
none-counted : {X : Type 0} (test : X → Bool) (xs : List X) → ((x : X) → test x ≡ false) → count_by test xs ≡ 0
none-counted test [] none = refl
none-counted test (x ∷ xs) none = count-cons test x xs ∙ ap₂ (λ t k. cond t 1 0 + k) (none x) (none-counted test xs none)

-- ---- marks

-- a number before the marks is not among the marked ones
before-marks : (n at : ℕ) (marks : List Bool) → n < at → count_by (λ m. m == n) (marked_from at marks) ≡ 0
before-marks n at [] lt = refl
before-marks n at (false ∷ marks) lt = before-marks n (at + 1) marks (more n at lt)
  where
    more : (a b : ℕ) → a < b → a < b + 1
    more a b = omega arith
before-marks n at (true ∷ marks) lt = count-cons (λ m. m == n) at (marked_from (at + 1) marks) ∙ ap₂ (λ t k. cond t 1 0 + k) (other n at lt) (before-marks n (at + 1) marks (more n at lt))
  where
    more : (a b : ℕ) → a < b → a < b + 1
    more a b = omega arith

    other : (a b : ℕ) → a < b → (b == a) ≡ false
    other a b less = ⊎_elim (λ e. absurd (no a b less (eqb-true b a e))) (λ e. e) (cases_Bool (b == a))
      where
        no : (x y : ℕ) → x < y → y ≡ x → ⊥
        no x y h e = omega (arith, h, e)

-- a number without a mark is not among the marked ones
unmarked : (at k : ℕ) (marks : List Bool) → get_or marks k false ≡ false → count_by (λ m. m == at + k) (marked_from at marks) ≡ 0
unmarked at k [] none = refl
unmarked at zero (true ∷ marks) none = absurd (true≢false none)
unmarked at zero (false ∷ marks) none = before-marks (at + 0) (at + 1) marks (less at)
  where
    less : (a : ℕ) → a + 0 < a + 1
    less a = omega arith
unmarked at (suc k) (false ∷ marks) none = ap (λ n. count_by (λ m. m == n) (marked_from (at + 1) marks)) (next at k) ∙ unmarked (at + 1) k marks none
  where
    next : (a b : ℕ) → a + suc b ≡ (a + 1) + b
    next a b = omega arith
unmarked at (suc k) (true ∷ marks) none =
    count-cons (λ m. m == at + suc k) at (marked_from (at + 1) marks)
    ∙ ap₂ (λ t c. cond t 1 0 + c) (other at k) (ap (λ n. count_by (λ m. m == n) (marked_from (at + 1) marks)) (next at k) ∙ unmarked (at + 1) k marks none)
  where
    next : (a b : ℕ) → a + suc b ≡ (a + 1) + b
    next a b = omega arith

    other : (a b : ℕ) → (a == a + suc b) ≡ false
    other a b = ⊎_elim (λ e. absurd (no a b (eqb-true a (a + suc b) e))) (λ e. e) (cases_Bool (a == a + suc b))
      where
        no : (x y : ℕ) → x ≡ x + suc y → ⊥
        no x y e = omega (arith, e)

-- a number that loses its mark goes
unmarked-goes : (at k : ℕ) (marks : List Bool) → get_or marks k false ≡ true → Loses (at + k) (marked_from at marks) (marked_from at (set marks k false))
unmarked-goes at k [] marked test = absurd (false≢true marked)
unmarked-goes at zero (false ∷ marks) marked test = absurd (false≢true marked)
unmarked-goes at zero (true ∷ marks) marked test = count-cons test at (marked_from (at + 1) marks) ∙ ap (λ n. cond (test n) 1 0 + count_by test (marked_from (at + 1) marks)) (same at)
  where
    same : (a : ℕ) → a ≡ a + 0
    same a = omega arith
unmarked-goes at (suc k) (false ∷ marks) marked test = unmarked-goes (at + 1) k marks marked test ∙ ap (λ n. cond (test n) 1 0 + count_by test (marked_from (at + 1) (set marks k false))) (next at k)
  where
    next : (a b : ℕ) → (a + 1) + b ≡ a + suc b
    next a b = omega arith
unmarked-goes at (suc k) (true ∷ marks) marked test =
    count-cons test at (marked_from (at + 1) marks)
    ∙ ap (λ c. cond (test at) 1 0 + c) (unmarked-goes (at + 1) k marks marked test ∙ ap (λ n. cond (test n) 1 0 + count_by test (marked_from (at + 1) (set marks k false))) (next at k))
    ∙ swap (cond (test at) 1 0) (cond (test (at + suc k)) 1 0) (count_by test (marked_from (at + 1) (set marks k false)))
    ∙ ap (λ c. cond (test (at + suc k)) 1 0 + c) (sym (count-cons test at (marked_from (at + 1) (set marks k false))))
  where
    next : (a b : ℕ) → (a + 1) + b ≡ a + suc b
    next a b = omega arith

    swap : (a b c : ℕ) → a + (b + c) ≡ b + (a + c)
    swap a b c = omega arith

-- all numbers are marked
pub all-marked : (at count : ℕ) → marked_from at (replicate count true) ≡ range_with_len at count
all-marked at zero = refl
all-marked at (suc count) = ap (λ l. at ∷ l) (all-marked (at + 1) count)

-- ---- links

-- the links stay where they are if one is added
links-stay : (links : List Link) (start : Option ℕ) (numbers : List ℕ) (link : Link) → AreLinked links start numbers → AreLinked (links ++ link ∷ []) start numbers
links-stay links start [] link are = are
links-stay links start (n ∷ numbers) link (at, first, is, here, number, rest) = (at, first, is, stays links at here, number, links-stay links first.next numbers link rest)
  where
    stays : (ls : List Link) (k : ℕ) → slice_get ls k ≡ Some first → slice_get (ls ++ link ∷ []) k ≡ Some first
    stays [] k e = absurd (cc (e))
    stays (l ∷ ls) zero e = e
    stays (l ∷ ls) (suc k) e = stays ls k e

last-link : (links : List Link) (link : Link) → slice_get (links ++ link ∷ []) (length links) ≡ Some link
last-link [] link = refl
last-link (l ∷ links) link = last-link links link

-- ---- queues

-- a number has no other code than its own
other-code : (codes : List Text) (code other : Text) (n : ℕ) → has_code codes code n ≡ true → bytes_eq code other ≡ false → has_code codes other n ≡ false
other-code codes code other n has apart = at (slice_get codes n) has
  where
    at : (o : Option Text) → option_map_or (bytes_eq code) o false ≡ true → option_map_or (bytes_eq other) o false ≡ false
    at None e = refl
    at (Some text) e = ap (bytes_eq other) (sym ((bytes_eq-Decides code text).0 e)) ∙ ⊎_elim (λ same. absurd (true≢false (sym ((bytes_eq-Decides code other).1 (sym ((bytes_eq-Decides other code).0 same))) ∙ apart))) (λ no. no) (cases_Bool (bytes_eq other code))

-- the code with a number is the one that it has
pub has-own : (codes : List Text) (n : ℕ) (code : Text) → slice_get codes n ≡ Some code → has_code codes code n ≡ true
has-own codes n code here = ap (λ o. option_map_or (bytes_eq code) o false) here ∙ (bytes_eq-Decides code code).1 refl

-- what is found of a code that was put into a map, and of others
pub begun : (same : Bool) (first : Option ℕ) (other : Option (Option ℕ)) → option_and_then (λ f. f) (cond same (Some first) other) ≡ cond same first (option_and_then (λ f. f) other)
begun true first other = refl
begun false first other = refl

-- no number is in a queue
pub none-queued : {S : Type 0} (codes : List Text) (firsts : HashMap (Bor Text) (Option ℕ) S) (links : List Link) → ((code : Text) → first_of firsts code ≡ None) → AreQueued codes firsts links []
none-queued codes firsts links none = record { queue = λ code. ([], none code, λ test. refl) }

-- one more number, before the others of its code
pub queued-more : {S : Type 0} (codes : List Text) (firsts new : HashMap (Bor Text) (Option ℕ) S) (links : List Link) (link : Link) (numbers : List ℕ) (code : Text)
    → has_code codes code link.number ≡ true → link.next ≡ first_of firsts code → ((other : Text) → first_of new other ≡ cond (bytes_eq code other) (Some (length links)) (first_of firsts other))
    → AreQueued codes firsts links numbers → AreQueued codes new (links ++ link ∷ []) (link.number ∷ numbers)
queued-more codes firsts new links link numbers code has next starts are = record { queue = λ other. ⊎_elim (this other) (apart other) (cases_Bool (bytes_eq code other)) }
  where
    Queue : Text → Type 0
    Queue other = (queue : List ℕ) × AreLinked (links ++ link ∷ []) (first_of new other) queue × ((test : ℕ → Bool) → count_by test queue ≡ count_by (λ n. has_code codes other n && test n) (link.number ∷ numbers))

    this : (other : Text) → bytes_eq code other ≡ true → Queue other
    this other same =
        let is = (bytes_eq-Decides code other).0 same in
        let old = are.queue code in (
          link.number ∷ old.0,
          (
            length links,
            link,
            starts other ∙ ap (λ b. cond b (Some (length links)) (first_of firsts other)) same,
            last-link links link,
            refl,
            subst (λ o. AreLinked (links ++ link ∷ []) o old.0) (sym next) (links-stay links (first_of firsts code) old.0 link old.1),
          ),
          λ test. count-cons test link.number old.0
              ∙ ap₂ (λ b k. cond (b && test link.number) 1 0 + k) (sym has) (old.2 test)
              ∙ sym (count-cons (λ n. has_code codes code n && test n) link.number numbers)
              ∙ ap (λ t. count_by (λ n. has_code codes t n && test n) (link.number ∷ numbers)) is,
        )

    apart : (other : Text) → bytes_eq code other ≡ false → Queue other
    apart other not_same =
        let old = are.queue other in (
          old.0,
          subst (λ o. AreLinked (links ++ link ∷ []) o old.0) (sym (starts other ∙ ap (λ b. cond b (Some (length links)) (first_of firsts other)) not_same)) (links-stay links (first_of firsts other) old.0 link old.1),
          λ test. old.2 test
              ∙ sym (count-cons (λ n. has_code codes other n && test n) link.number numbers
              ∙ ap (λ b. cond (b && test link.number) 1 0 + count_by (λ n. has_code codes other n && test n) numbers) (other-code codes code other link.number has not_same)
              ∙ none-more (count_by (λ n. has_code codes other n && test n) numbers)),
        )

-- where no number of the code is in a queue, none is left
pub taken-none : {S : Type 0} (codes : List Text) (firsts : HashMap (Bor Text) (Option ℕ) S) (links : List Link) (numbers : List ℕ) (code : Text)
    → first_of firsts code ≡ None → AreQueued codes firsts links numbers → IsTakenBy codes code None numbers numbers
taken-none codes firsts links numbers code none are = record { goes = refl; coded = at (are.queue code).0 (are.queue code).1 (are.queue code).2 }
  where
    and_true : (b : Bool) → b ≡ (b && true)
    and_true true = refl
    and_true false = refl

    at : (queue : List ℕ) → AreLinked links (first_of firsts code) queue → ((test : ℕ → Bool) → count_by test queue ≡ count_by (λ n. has_code codes code n && test n) numbers) → count_by (has_code codes code) numbers ≡ 0
    at [] linked counts = same-count (has_code codes code) (λ n. has_code codes code n && true) numbers (λ n. and_true (has_code codes code n)) ∙ sym (counts (λ n. true))
    at (n ∷ queue) (k, link, is, found, number, rest) counts = absurd (cc (sym none ∙ is))

-- the links go on where a queue begins
pub link-there : {S : Type 0} (codes : List Text) (firsts : HashMap (Bor Text) (Option ℕ) S) (links : List Link) (numbers : List ℕ) (code : Text) (start : ℕ)
    → first_of firsts code ≡ Some start → AreQueued codes firsts links numbers → slice_get links start ≡ None → ⊥
link-there codes firsts links numbers code start here are none = at (are.queue code).0 (are.queue code).1
  where
    at : (queue : List ℕ) → AreLinked links (first_of firsts code) queue → ⊥
    at [] linked = cc (sym here ∙ linked)
    at (n ∷ queue) (k, link, is, found, number, rest) = cc (sym none ∙ ap (slice_get links) (same_Some start k (sym here ∙ is)) ∙ found)

-- the first number of a queue is taken
pub taken-some : {S : Type 0} (codes : List Text) (firsts new : HashMap (Bor Text) (Option ℕ) S) (links : List Link) (marks : List Bool) (code : Text) (start : ℕ) (link : Link)
    → first_of firsts code ≡ Some start → slice_get links start ≡ Some link → first_of new code ≡ link.next → ((other : Text) → bytes_eq code other ≡ false → first_of new other ≡ first_of firsts other)
    → AreQueued codes firsts links (marked_from 0 marks)
    → AreQueued codes new links (marked_from 0 (set marks link.number false)) × IsTakenBy codes code (Some link.number) (marked_from 0 marks) (marked_from 0 (set marks link.number false))
taken-some {S} codes firsts new links marks code start link here found this others are = at (are.queue code).0 (are.queue code).1 (are.queue code).2
  where
    n : ℕ
    n = link.number

    numbers : List ℕ
    numbers = marked_from 0 marks

    left : List ℕ
    left = marked_from 0 (set marks link.number false)

    -- the number is in the queue, so that it has the code and is left
    counted : (rest : List ℕ) → ((test : ℕ → Bool) → count_by test (n ∷ rest) ≡ count_by (λ m. has_code codes code m && test m) numbers) → count_by (λ m. has_code codes code m && (m == n)) numbers ≡ 0 → ⊥
    counted rest counts none = no (count_by (λ m. m == n) rest) (ap (λ b. cond b 1 0 + count_by (λ m. m == n) rest) (sym (eq-eqb n n refl)) ∙ sym (count-cons (λ m. m == n) n rest) ∙ counts (λ m. m == n) ∙ none)
      where
        no : (a : ℕ) → 1 + a ≡ 0 → ⊥
        no a e = omega (arith, e)

    coded : (rest : List ℕ) → ((test : ℕ → Bool) → count_by test (n ∷ rest) ≡ count_by (λ m. has_code codes code m && test m) numbers) → has_code codes code n ≡ true
    coded rest counts = ⊎_elim (λ e. e) (λ e. absurd (counted rest counts (none-counted (λ m. has_code codes code m && (m == n)) numbers (fails e)))) (cases_Bool (has_code codes code n))
      where
        fails : has_code codes code n ≡ false → (m : ℕ) → (has_code codes code m && (m == n)) ≡ false
        fails not_coded m = ⊎_elim (λ e. ap (λ k. has_code codes code k && (m == n)) (eqb-true m n e) ∙ ap (λ b. b && (m == n)) not_coded) (λ e. ap (λ b. has_code codes code m && b) e ∙ and_false (has_code codes code m)) (cases_Bool (m == n))
          where
            and_false : (b : Bool) → (b && false) ≡ false
            and_false true = refl
            and_false false = refl

    marked : (rest : List ℕ) → ((test : ℕ → Bool) → count_by test (n ∷ rest) ≡ count_by (λ m. has_code codes code m && test m) numbers) → get_or marks n false ≡ true
    marked rest counts = ⊎_elim (λ e. e) (λ e. absurd (counted rest counts (fewer (has_code codes code) (λ m. m == n) numbers (ap (λ k. count_by (λ m. m == k) numbers) (from_zero n) ∙ unmarked 0 n marks e)))) (cases_Bool (get_or marks n false))
      where
        from_zero : (a : ℕ) → a ≡ 0 + a
        from_zero a = omega arith

        parts : (a b : ℕ) → a + b ≡ 0 → (a ≡ 0) × (b ≡ 0)
        parts a b e = (omega (arith, e), omega (arith, e))

        smaller : (a b : Bool) → cond {A = ℕ} b 1 0 ≡ 0 → cond {A = ℕ} (a && b) 1 0 ≡ 0
        smaller true b e = e
        smaller false b e = refl

        fewer : (a b : ℕ → Bool) (xs : List ℕ) → count_by b xs ≡ 0 → count_by (λ m. a m && b m) xs ≡ 0
        fewer a b [] e = refl
        fewer a b (x ∷ xs) e =
            let both = parts (cond (b x) 1 0) (count_by b xs) (sym (count-cons b x xs) ∙ e) in
            count-cons (λ m. a m && b m) x xs ∙ ap₂ (λ j k. j + k) (smaller (a x) (b x) both.0) (fewer a b xs both.1)

    at : (queue : List ℕ) → AreLinked links (first_of firsts code) queue → ((test : ℕ → Bool) → count_by test queue ≡ count_by (λ m. has_code codes code m && test m) numbers)
        → AreQueued codes new links left × IsTakenBy codes code (Some n) numbers left
    at [] linked counts = absurd (cc (sym here ∙ linked))
    at (m ∷ rest) (k, first, is, there, number, linked) counts =
        let same : first ≡ link = same_Some first link (sym there ∙ ap (slice_get links) (same_Some k start (sym is ∙ here)) ∙ found) in
        let is_n : m ≡ n = sym number ∙ ap (λ (l : Link). l.number) same in
        let counts_n = subst (λ j. (test : ℕ → Bool) → count_by test (j ∷ rest) ≡ count_by (λ i. has_code codes code i && test i) numbers) is_n counts in
        let has = coded rest counts_n in
        let goes : Loses n numbers left = subst (λ j. Loses j numbers left) (to_zero n) (unmarked-goes 0 n marks (marked rest counts_n)) in (
          record { queue = λ other. ⊎_elim (one rest (subst (λ (l : Link). AreLinked links l.next rest) same linked) counts_n has goes other) (apart has goes other) (cases_Bool (bytes_eq code other)) },
          record { goes = goes; coded = has },
        )
      where
        to_zero : (a : ℕ) → 0 + a ≡ a
        to_zero a = omega arith

        Queue : Text → Type 0
        Queue other = (queue : List ℕ) × AreLinked links (first_of new other) queue × ((test : ℕ → Bool) → count_by test queue ≡ count_by (λ i. has_code codes other i && test i) left)

        one : (rest : List ℕ) → AreLinked links link.next rest → ((test : ℕ → Bool) → count_by test (n ∷ rest) ≡ count_by (λ i. has_code codes code i && test i) numbers) → has_code codes code n ≡ true → Loses n numbers left
            → (other : Text) → bytes_eq code other ≡ true → Queue other
        one rest linked counts has goes other same = subst Queue ((bytes_eq-Decides code other).0 same) (
          rest,
          subst (λ o. AreLinked links o rest) (sym this) linked,
          λ test. less (cond (test n) 1 0) (count_by test rest) (count_by (λ i. has_code codes code i && test i) left)
              (sym (count-cons test n rest) ∙ counts test ∙ goes (λ i. has_code codes code i && test i) ∙ ap (λ b. cond (b && test n) 1 0 + count_by (λ i. has_code codes code i && test i) left) has),
        )
          where
            less : (a b c : ℕ) → a + b ≡ a + c → b ≡ c
            less a b c e = omega (arith, e)

        apart : has_code codes code n ≡ true → Loses n numbers left → (other : Text) → bytes_eq code other ≡ false → Queue other
        apart has goes other not_same =
            let old = are.queue other in (
              old.0,
              subst (λ o. AreLinked links o old.0) (sym (others other not_same)) old.1,
              λ test. old.2 test ∙ goes (λ i. has_code codes other i && test i)
                  ∙ ap (λ b. cond (b && test n) 1 0 + count_by (λ i. has_code codes other i && test i) left) (other-code codes code other n has not_same)
                  ∙ none-more (count_by (λ i. has_code codes other i && test i) left),
            )

-- ---- the numbers that are left

-- the numbers of the marks so far, and one more
pub marks-more : (marks : List Bool) (n : ℕ) (old new : List ℕ) (mark : Bool) → n < length marks → mark ≡ get_or marks n mark → new ≡ old ++ cond mark (n ∷ []) []
    → old ++ marked_from n (drop n marks) ≡ marked_from 0 marks → new ++ marked_from (n + 1) (drop (n + 1) marks) ≡ marked_from 0 marks
marks-more marks n old new mark lt read is so_far =
    ap (λ l. l ++ marked_from (n + 1) (drop (n + 1) marks)) is
    ∙ append_assoc old (cond mark (n ∷ []) []) (marked_from (n + 1) (drop (n + 1) marks))
    ∙ ap (λ l. old ++ l) (sym (first mark (drop (n + 1) marks)) ∙ ap (λ b. marked_from n (b ∷ drop (n + 1) marks)) read ∙ ap (marked_from n) (sym (drop_more marks n mark lt)))
    ∙ so_far
  where
    first : (b : Bool) (rest : List Bool) → marked_from n (b ∷ rest) ≡ cond b (n ∷ []) [] ++ marked_from (n + 1) rest
    first true rest = refl
    first false rest = refl

pub marks-all : (marks : List Bool) (n : ℕ) (numbers : List ℕ) → length marks ≤ n → numbers ++ marked_from n (drop n marks) ≡ marked_from 0 marks → numbers ≡ marked_from 0 marks
marks-all marks n numbers past so_far = sym (append-nil numbers) ∙ ap (λ l. numbers ++ marked_from n l) (sym (drop_all n marks past)) ∙ so_far

-- ---- units

-- a unit has a label if it has the code of the label
has-code : (units : List Unit) (label : Label) (n : ℕ) → has_code (map code_of (map label_of units)) (code_of label) n ≡ has_label units label n
has-code [] label n = refl
has-code (u ∷ units) label zero = same-codes label (label_of u)
has-code (u ∷ units) label (suc n) = has-code units label n

-- the number of a unit with this code is that of one with this label
pub taken-unit : (units : List Unit) (label : Label) (code : Text) (taken : Option ℕ) (old new : List ℕ) → code ≡ code_of label
    → IsTakenBy (map code_of (map label_of units)) code taken old new → IsTaken units label taken old new
taken-unit units label code taken old new is by = record { goes = by.goes; labelled = at taken (subst (λ c. IsCoded (map code_of (map label_of units)) c taken old) is by.coded) }
  where
    at : (number : Option ℕ) → IsCoded (map code_of (map label_of units)) (code_of label) number old → IsLabelled units label number old
    at None none = same-count (has_label units label) (has_code (map code_of (map label_of units)) (code_of label)) old (λ n. sym (has-code units label n)) ∙ none
    at (Some n) has = sym (has-code units label n) ∙ has

-- there are as many codes as units
pub code-count : (units : List Unit) (codes : List Text) → codes ≡ map code_of (map label_of units) → length codes ≡ length units
code-count units codes are = ap length are ∙ each units
  where
    each : (us : List Unit) → length (map code_of (map label_of us)) ≡ length us
    each [] = refl
    each (u ∷ us) = ap suc (each us)
