-- The file with a place of the shelf, by the spans of the files.
use Rattle.std.proofs.Common.{◌≡◌, ℕ, zero, suc, ◌+◌, ◌-◌, ◌<◌, ◌≤◌, ◌⊎◌, inl, inr, nat_lt, min, List, [], ◌∷◌, Some, slice_get, get_or, length, refl, sym, ◌∙◌, ap, ap₂, subst, arith, zero-add, not-suc-le-zero}
use Rattle.std.proofs.lemmas.Bool.{cond-true, cond-false, lt-ltb, le-ltb}
use Rattle.std.proofs.lemmas.Option.{none-some, same_Some, slice_get_past, slice_get-get_or}
use Rattle.std.proofs.Math.Nat.{min-eq_right, suc-ne-zero}
use Rattle.bib_spec.specs.Text.{Text}
use Rattle.shelf_spec.specs.Shelf.{seam}
use Rattle.shelf_spec.specs.Numbers.{located}
use Rattle.shelf_spec.proofs.ShelfPlaces.{are_located}
use Rattle.bib_shelf.specs.Joined.{spans_from, located_in}

-- no file begins before the first
starts_after : (at : ℕ) (files : List Text) (k : ℕ) (s : ℕ × ℕ) → slice_get (spans_from at files) k ≡ Some s → at ≤ s.0
starts_after at [] k s e = absurd (none-some s e)
starts_after at (file ∷ files) zero s e = subst (λ (p : ℕ × ℕ). at ≤ p.0) (same_Some (at, at + length file) s e) (omega arith)
starts_after at (file ∷ files) (suc k) s e = later (length file) (length seam) (starts_after ((at + length file) + length seam) files k s e)
  where
    later : (a b : ℕ) → (at + a) + b ≤ s.0 → at ≤ s.0
    later a b h = omega arith

-- of a place that is not before file k: where file k lies, what comes after it, and where the place is
pub record IsReached (file : Text) (files : List Text) (at place k : ℕ) (s : ℕ × ℕ) : Type 0 where
  pub first : Text
  pub more : List Text
  pub span : s ≡ (s.0, s.0 + length first)
  pub next : slice_get (spans_from at (file ∷ files)) (suc k) ≡ slice_get (spans_from ((s.0 + length first) + length seam) more) 0
  pub count : length (spans_from at (file ∷ files)) ≡ k + suc (length (spans_from ((s.0 + length first) + length seam) more))
  pub found : located file files place ≡ (k + (located first more ((at + place) - s.0)).0, (located first more ((at + place) - s.0)).1)

-- from the files behind the first
further : (file next : Text) (more : List Text) (at place k : ℕ) (s : ℕ × ℕ) → length file + length seam ≤ place →
    ((at + length file) + length seam) + (place - (length file + length seam)) ≡ at + place →
    IsReached next more ((at + length file) + length seam) (place - (length file + length seam)) k s → IsReached file (next ∷ more) at place (suc k) s
further file next more at place k s far moved rest =
    let before = length file + length seam in
    record {
      first = rest.first;
      more = rest.more;
      span = rest.span;
      next = rest.next;
      count = ap suc rest.count ∙ one_more k (suc (length (spans_from ((s.0 + length rest.first) + length seam) rest.more)));
      found = cond-false (nat_lt place before) (0, min place (length file)) (suc (located next more (place - before)).0, (located next more (place - before)).1) (le-ltb place before far)
          ∙ ap (λ q. let it : ℕ × ℕ = (suc q.0, q.1) in it) rest.found
          ∙ ap (λ n. let it : ℕ × ℕ = (suc (k + (located rest.first rest.more (n - s.0)).0), (located rest.first rest.more (n - s.0)).1) in it) moved
          ∙ ap (λ n. let it : ℕ × ℕ = (n, (located rest.first rest.more ((at + place) - s.0)).1) in it) (one_more k (located rest.first rest.more ((at + place) - s.0)).0);
    }
  where
    one_more : (a b : ℕ) → suc (a + b) ≡ suc a + b
    one_more a b = omega arith

pub reached : (file : Text) (files : List Text) (at place k : ℕ) (s : ℕ × ℕ) → slice_get (spans_from at (file ∷ files)) k ≡ Some s → s.0 ≤ at + place →
    IsReached file files at place k s
reached file files at place zero s e h =
    subst (λ (p : ℕ × ℕ). IsReached file files at place zero p) (same_Some (at, at + length file) s e) (record {
      first = file;
      more = files;
      span = refl;
      next = refl;
      count = sym (zero-add (suc (length (spans_from ((at + length file) + length seam) files))));
      found = ap (λ q. let it : ℕ × ℕ = (q.0, q.1) in it) (ap (located file files) (same at place))
          ∙ ap (λ n. let it : ℕ × ℕ = (n, (located file files ((at + place) - at)).1) in it) (sym (zero-add (located file files ((at + place) - at)).0));
    })
  where
    same : (a b : ℕ) → b ≡ (a + b) - a
    same a b = omega arith
reached file [] at place (suc k) s e h = absurd (none-some s e)
reached file (next ∷ more) at place (suc k) s e h =
    let after = (at + length file) + length seam in
    let far = far_of at (length file) (length seam) place s.0 (starts_after after (next ∷ more) k s e) h in
    let moved = moved_of at (length file) (length seam) place far in
    further file next more at place k s far moved
    (reached next more after (place - (length file + length seam)) k s e (subst (λ n. s.0 ≤ n) (sym moved) h))
  where
    far_of : (a b c p s : ℕ) → (a + b) + c ≤ s → s ≤ a + p → b + c ≤ p
    far_of a b c p s h g = omega arith

    moved_of : (a b c p : ℕ) → b + c ≤ p → ((a + b) + c) + (p - (b + c)) ≡ a + p
    moved_of a b c p h = omega arith

-- the search: the place is not before file `file`, and before file `end`, if there is one
pub record IsBetween (spans : List (ℕ × ℕ)) (place file end : ℕ) : Type 0 where
  pub some : file < end
  pub within : end ≤ length spans
  pub begun : (s : ℕ × ℕ) → slice_get spans file ≡ Some s → (file ≡ 0) ⊎ (s.0 ≤ place)
  pub ended : (s : ℕ × ℕ) → slice_get spans end ≡ Some s → place < s.0

-- at the start of the search
pub between_start : (spans : List (ℕ × ℕ)) (place : ℕ) → 0 < length spans → IsBetween spans place 0 (length spans)
between_start spans place some = record { some = some; within = omega arith; begun = λ s e. inl refl; ended = λ s e. absurd (none-some s (sym (slice_get_past spans (length spans) (omega arith)) ∙ e)) }

-- file k is not after the place: the first file begins at 0
pub begun_at : (files : List Text) (spans : List (ℕ × ℕ)) (place k : ℕ) (s : ℕ × ℕ) → spans ≡ spans_from 0 files → slice_get spans k ≡ Some s → (k ≡ 0) ⊎ (s.0 ≤ place) → s.0 ≤ place
begun_at files spans place k s are e (inr h) = h
begun_at [] spans place k s are e (inl zero_k) = absurd (none-some s (ap (λ l. slice_get l k) (sym are) ∙ e))
begun_at (file ∷ files) spans place k s are e (inl zero_k) =
    let first = same_Some (0, 0 + length file) s (ap₂ slice_get (sym are) (sym zero_k) ∙ e) in
    subst (λ n. n ≤ place) (ap (λ p. p.0) first) (omega arith)

-- ---- the ends of the search

add-zero : (n : ℕ) → n + 0 ≡ n
add-zero n = omega arith

-- the place is in the file, its end included, or no file comes after it
pub found_in_file : (files : List Text) (spans : List (ℕ × ℕ)) (place k : ℕ) (s : ℕ × ℕ) → spans ≡ spans_from 0 files → slice_get spans k ≡ Some s → s.0 ≤ place →
    (place ≤ s.1) ⊎ (suc k ≡ length spans) → located_in files place ≡ (k, place - s.0)
found_in_file [] spans place k s are e begun why = absurd (none-some s (ap (λ l. slice_get l k) (sym are) ∙ e))
found_in_file (file ∷ files) spans place k s are e begun why =
    let it = reached file files 0 place k s (ap (λ l. slice_get l k) (sym are) ∙ e) (subst (λ n. s.0 ≤ n) (sym (zero-add place)) begun) in
    it.found ∙ ap (λ n. let q : ℕ × ℕ = (k + (located it.first it.more (n - s.0)).0, (located it.first it.more (n - s.0)).1) in q) (zero-add place)
    ∙ ap (λ r. let q : ℕ × ℕ = (k + r.0, r.1) in q) (inside it why) ∙ ap (λ n. let q : ℕ × ℕ = (n, place - s.0) in q) (add-zero k)
  where
    inside : (it : IsReached file files 0 place k s) → (place ≤ s.1) ⊎ (suc k ≡ length spans) → located it.first it.more (place - s.0) ≡ (0, place - s.0)
    inside it (inl within) =
        ap (located it.first it.more) (sym (zero-add (place - s.0)))
        ∙ are_located it.first it.more 0 (place - s.0) it.first refl (within_of (ap (λ p. p.1) it.span))
      where
        within_of : s.1 ≡ s.0 + length it.first → place - s.0 ≤ length it.first
        within_of h = omega arith
    inside it (inr last) = ap (λ m. located it.first m (place - s.0)) (none_more it.more (none_left (last ∙ ap length are ∙ it.count)))
      where
        none_left : {n : ℕ} → suc k ≡ k + suc n → n ≡ 0
        none_left h = omega arith

        none_more : (more : List Text) → length (spans_from ((s.0 + length it.first) + length seam) more) ≡ 0 → more ≡ []
        none_more [] h = refl
        none_more (next ∷ more) h = absurd (suc-ne-zero (length (spans_from ((((s.0 + length it.first) + length seam) + length next) + length seam) more)) h)

-- the place is after the end of the file, and before the next file
pub found_in_seam : (files : List Text) (spans : List (ℕ × ℕ)) (place k : ℕ) (s : ℕ × ℕ) → spans ≡ spans_from 0 files → slice_get spans k ≡ Some s → s.0 ≤ place →
    s.1 < place → suc k < length spans → ((t : ℕ × ℕ) → slice_get spans (suc k) ≡ Some t → place < t.0) → located_in files place ≡ (k, s.1 - s.0)
found_in_seam [] spans place k s are e begun past more next = absurd (none-some s (ap (λ l. slice_get l k) (sym are) ∙ e))
found_in_seam (file ∷ files) spans place k s are e begun past more next =
    let it = reached file files 0 place k s (ap (λ l. slice_get l k) (sym are) ∙ e) (subst (λ n. s.0 ≤ n) (sym (zero-add place)) begun) in
    it.found ∙ ap (λ n. let q : ℕ × ℕ = (k + (located it.first it.more (n - s.0)).0, (located it.first it.more (n - s.0)).1) in q) (zero-add place)
    ∙ ap (λ r. let q : ℕ × ℕ = (k + r.0, r.1) in q)
    (in_seam it.first it.more (ap (λ p. p.1) it.span) (some_left (subst (λ n. suc k < n) (ap length are ∙ it.count) more)) (λ t got. next t (ap (λ l. slice_get l (suc k)) are ∙ it.next ∙ got)))
    ∙ ap (λ n. let q : ℕ × ℕ = (n, s.1 - s.0) in q) (add-zero k)
  where
    some_left : {n : ℕ} → suc k < k + suc n → 0 < n
    some_left h = omega arith

    in_seam : (first : Text) (others : List Text) → s.1 ≡ s.0 + length first → 0 < length (spans_from ((s.0 + length first) + length seam) others) →
        ((t : ℕ × ℕ) → slice_get (spans_from ((s.0 + length first) + length seam) others) 0 ≡ Some t → place < t.0) →
        located first others (place - s.0) ≡ (0, s.1 - s.0)
    in_seam first [] end some before = absurd (not-suc-le-zero some)
    in_seam first (other ∷ others) end some before =
        let before_next = before ((s.0 + length first) + length seam, ((s.0 + length first) + length seam) + length other) refl in
        cond-true (nat_lt (place - s.0) (length first + length seam)) (0, min (place - s.0) (length first)) (suc (located other others ((place - s.0) - (length first + length seam))).0, (located other others ((place - s.0) - (length first + length seam))).1)
        (lt-ltb (place - s.0) (length first + length seam) (near (length seam) before_next))
        ∙ ap (λ n. let q : ℕ × ℕ = (0, n) in q) (min-eq_right (far end) ∙ len end)
      where
        near : (b : ℕ) → place < (s.0 + length first) + b → place - s.0 < length first + b
        near b h = omega arith

        far : s.1 ≡ s.0 + length first → length first ≤ place - s.0
        far h = omega arith

        len : s.1 ≡ s.0 + length first → length first ≡ s.1 - s.0
        len h = omega arith

-- ---- what the search found

-- the span of file k
span_at : (spans : List (ℕ × ℕ)) (place k end : ℕ) → IsBetween spans place k end → slice_get spans k ≡ Some (get_or spans k (0, 0))
span_at spans place k end it = slice_get-get_or spans k (0, 0) (within (length spans) it.some it.within)
  where
    within : (n : ℕ) → k < end → end ≤ n → k < n
    within n h g = omega arith

-- file k is the last, or the place is in it
pub found_within : (files : List Text) (spans : List (ℕ × ℕ)) (place k end : ℕ) → IsBetween spans place k end → end - k ≤ 1 →
    (place ≤ (get_or spans k (0, 0)).1) ⊎ (end ≡ length spans) → spans ≡ spans_from 0 files → (k, place - (get_or spans k (0, 0)).0) ≡ located_in files place
found_within files spans place k end it near why are =
    let s = get_or spans k (0, 0) in
    let is = span_at spans place k end it in
    sym (found_in_file files spans place k s are is (begun_at files spans place k s are is (it.begun s is)) (last why))
  where
    last : (place ≤ (get_or spans k (0, 0)).1) ⊎ (end ≡ length spans) → (place ≤ (get_or spans k (0, 0)).1) ⊎ (suc k ≡ length spans)
    last (inl h) = inl h
    last (inr h) = let some = it.some in inr (next some near ∙ h)
      where
        next : k < end → end - k ≤ 1 → suc k ≡ end
        next a b = omega arith

-- the place is after file k, and before the next
pub found_between : (files : List Text) (spans : List (ℕ × ℕ)) (place k end : ℕ) → IsBetween spans place k end → end - k ≤ 1 → (end ≡ length spans → ⊥) →
    (get_or spans k (0, 0)).1 < place → spans ≡ spans_from 0 files → (k, (get_or spans k (0, 0)).1 - (get_or spans k (0, 0)).0) ≡ located_in files place
found_between files spans place k end it near more past are =
    let s = get_or spans k (0, 0) in
    let is = span_at spans place k end it in
    let next : end ≡ suc k = next_of it.some near in
    sym (found_in_seam files spans place k s are is (begun_at files spans place k s are is (it.begun s is)) past (subst (λ n. n < length spans) next (less end (length spans) it.within more))
    (λ t got. it.ended t (ap (slice_get spans) next ∙ got)))
  where
    next_of : k < end → end - k ≤ 1 → end ≡ suc k
    next_of a b = omega arith

    less : (a b : ℕ) → a ≤ b → (a ≡ b → ⊥) → a < b
    less a b h other = omega (arith, other)
