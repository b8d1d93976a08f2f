-- Where text characters begin and end, and which text characters follow a place.
use Rattle.bib_names.proofs.Words.{◌≡◌, ℕ, zero, suc, ◌+◌, ◌-◌, ◌≤◌, ◌<◌, Bool, true, false, cond, eqb, [], ◌∷◌, ◌++◌, length, take, drop, get_or, refl, sym, ap, ◌∙◌, arith, add-zero, below_more, subst, ◌&&◌, count_by, prefix_len, slice_range, list_any, range_with_len, and-false, or-true}
use Rattle.bib_names.proofs.Words.{get_or-drop, take-append-drop, sum_by-append, count_by-le-length, eqb-true, eq-eqb, lt-ltb, le-ltb, not-true, Text, opened_before, closed_before, is_level, places_from, is_opening, begins_special, next_level, is_plain, begins_char, AreBraces, IsSpecial, chars_from}
use Rattle.std.proofs.Common.{inl, inr, add-one}
use Rattle.std.specs.Prelude.{◌||◌, not, nat_lt}
use Rattle.std.proofs.lemmas.List.{drop-take, take-take, length-take-le}
use Rattle.std.proofs.lemmas.Bool.{ne_eqb}
use Rattle.bib_names.specs.Marks.{is_brace, goes_on}
use Rattle.bib_names.specs.Special.{is_within_special, going_on, is_joined, char_end}
use Rattle.bib_names.specs.Scanning.{IsChar, IsBareBrace, IsFresh, chars_at}
use Rattle.bib_names.proofs.BraceLemmas.{opened_more, closed_more}
use Rattle.bib_names.proofs.PlaceLemmas.{places_here, places_past, places_skip_to}

-- ---- places before this one

any_range-no : (p : ℕ → Bool) (at n : ℕ) → ((k : ℕ) → at ≤ k → k < at + n → p k ≡ false) → list_any p (range_with_len at n) ≡ false
any_range-no p at zero none = refl
any_range-no p at (suc n) none = rw (none at (omega arith) (omega arith)) (any_range-no p (at + 1) n (λ k low high. none k (omega arith) (omega arith)))

any_range-yes : (p : ℕ → Bool) (at n k : ℕ) → k < n → p (at + k) ≡ true → list_any p (range_with_len at n) ≡ true
any_range-yes p at zero k lt passes = absurd (omega arith)
any_range-yes p at (suc n) zero lt passes = let is : at + 0 ≡ at = omega arith in rw (ap p (sym is) ∙ passes) refl
any_range-yes p at (suc n) (suc k) lt passes =
    let is : at + suc k ≡ at + 1 + k = omega arith in
    rw (any_range-yes p (at + 1) n k (omega arith) (ap p (sym is) ∙ passes)) (or-true (p at))

-- each special character before the place has ended
abbrev Outside : Text → ℕ → Type 0
Outside text place = (front : ℕ) → front < place → begins_special text front ≡ true → next_level text front ≤ place

ended : (text : Text) (place front : ℕ) → (begins_special text front ≡ true → next_level text front ≤ place) → (begins_special text front && nat_lt place (next_level text front)) ≡ false
ended text place front ends = go (begins_special text front) refl
  where
    go : (b : Bool) → begins_special text front ≡ b → (b && nat_lt place (next_level text front)) ≡ false
    go false e = refl
    go true e = le-ltb place (next_level text front) (ends e)

within-no : (text : Text) (place : ℕ) → Outside text place → is_within_special text place ≡ false
within-no text place outside =
    any_range-no (λ f. begins_special text f && nat_lt place (next_level text f)) 0 place (λ f low high. ended text place f (outside f (omega arith)))

within-yes : (text : Text) (place front : ℕ) → front < place → begins_special text front ≡ true → place < next_level text front → is_within_special text place ≡ true
within-yes text place front lt begins after =
    any_range-yes (λ f. begins_special text f && nat_lt place (next_level text f)) 0 place front lt
    (let is : 0 + front ≡ front = omega arith in ap (λ f. begins_special text f && nat_lt place (next_level text f)) is ∙ ap (λ b. b && nat_lt place (next_level text front)) begins ∙ lt-ltb place (next_level text front) after)

-- no special character begins at the place either
outside_on : (text : Text) (place : ℕ) → Outside text place → begins_special text place ≡ false → Outside text (place + 1)
outside_on text place outside none front lt =
    below_more (λ q. begins_special text q ≡ true → next_level text q ≤ place + 1) place (λ q h b. omega (arith, outside q h b)) (λ b. absurd (cc)) front lt

-- ---- bytes that go on

-- the byte after the place goes on with what is there
joined_next : (text : Text) (place : ℕ) → is_joined text (place + 1) ≡ (goes_on (get_or text (place + 1) 0) && (is_plain (get_or text place 0) || is_joined text place))
joined_next text place = ap (is_joined text) (add-one place) ∙ ap (λ n. goes_on (get_or text n 0) && (is_plain (get_or text place 0) || is_joined text place)) (sym (add-one place))

pub joined-no : (text : Text) (place : ℕ) → goes_on (get_or text place 0) ≡ false → is_joined text place ≡ false
joined-no text zero alone = refl
joined-no text (suc place) alone = ap (λ b. b && (is_plain (get_or text place 0) || is_joined text place)) alone

-- after a byte that is not plain and goes on with none
joined_after : (text : Text) (place : ℕ) → is_plain (get_or text place 0) ≡ false → is_joined text place ≡ false → is_joined text (place + 1) ≡ false
joined_after text place plain alone =
    joined_next text place ∙ ap (λ b. goes_on (get_or text (place + 1) 0) && (b || is_joined text place)) plain
    ∙ ap (λ b. goes_on (get_or text (place + 1) 0) && b) alone ∙ and-false (goes_on (get_or text (place + 1) 0))

joined-yes : (text : Text) (place : ℕ) → goes_on (get_or text (place + 1) 0) ≡ true → (is_plain (get_or text place 0) || is_joined text place) ≡ true → is_joined text (place + 1) ≡ true
joined-yes text place on there = joined_next text place ∙ ap (λ b. b && (is_plain (get_or text place 0) || is_joined text place)) on ∙ there

-- ---- classes of bytes

-- a byte that is not plain and goes on with none is a brace
brace_from : (b : ℕ) → is_plain b ≡ false → goes_on b ≡ false → is_brace b ≡ true
brace_from b plain alone = go (is_brace b) refl
  where
    go : (x : Bool) → is_brace b ≡ x → x ≡ true
    go true e = refl
    go false e = let h : is_plain b ≡ true = ap (λ x. not (x || goes_on b)) e ∙ ap not alone in absurd (cc)

pub plain_no_brace : (b : ℕ) → is_plain b ≡ true → is_brace b ≡ false
plain_no_brace b plain = go (is_brace b) refl
  where
    go : (x : Bool) → is_brace b ≡ x → x ≡ false
    go false e = refl
    go true e = let h : is_plain b ≡ false = ap (λ x. not (x || goes_on b)) e in absurd (cc)

pub plain_alone : (b : ℕ) → is_plain b ≡ true → goes_on b ≡ false
plain_alone b plain = go (goes_on b) refl
  where
    go : (x : Bool) → goes_on b ≡ x → x ≡ false
    go false e = refl
    go true e = let h : is_plain b ≡ false = ap (λ x. not (is_brace b || x)) e ∙ ap not (or-true (is_brace b)) in absurd (cc)

on_no_brace : (b : ℕ) → goes_on b ≡ true → is_brace b ≡ false
on_no_brace b on =
    let not_open : eqb b 123 ≡ false = ne_eqb b 123 (λ e. let computed : goes_on 123 ≡ true = ap goes_on (sym e) ∙ on in absurd (cc)) in
    let not_close : eqb b 125 ≡ false = ne_eqb b 125 (λ e. let computed : goes_on 125 ≡ true = ap goes_on (sym e) ∙ on in absurd (cc)) in
    rw not_open not_close

on_not_special : (text : Text) (place : ℕ) → goes_on (get_or text place 0) ≡ true → begins_special text place ≡ false
on_not_special text place on =
    let not_open : eqb (get_or text place 0) 123 ≡ false = ne_eqb (get_or text place 0) 123 (λ e. let computed : goes_on 123 ≡ true = ap goes_on (sym e) ∙ on in absurd (cc)) in
    rw not_open (ap (λ b. b && is_level text (next_level text place)) (and-false (is_level text place)))

-- ---- where a text character begins

begins-special : (text : Text) (place : ℕ) → begins_special text place ≡ true → begins_char text place ≡ true
begins-special text place special = ap (λ b. b || (not (is_within_special text place) && not (is_brace (get_or text place 0)) && not (is_joined text place))) special

pub begins-byte : (text : Text) (place : ℕ) → IsFresh text place → begins_special text place ≡ false → is_brace (get_or text place 0) ≡ false → begins_char text place ≡ true
begins-byte text place fresh special brace = rw (special, within-no text place fresh.outside, brace, fresh.alone) refl

begins-brace : (text : Text) (place : ℕ) → begins_special text place ≡ false → is_brace (get_or text place 0) ≡ true → begins_char text place ≡ false
begins-brace text place special brace = rw (special, brace) (ap (λ b. b && not (is_joined text place)) (and-false (not (is_within_special text place))))

begins-joined : (text : Text) (place : ℕ) → begins_special text place ≡ false → is_joined text place ≡ true → begins_char text place ≡ false
begins-joined text place special on = rw (special, on) (and-false (not (is_within_special text place) && not (is_brace (get_or text place 0))))

begins-within : (text : Text) (place : ℕ) → begins_special text place ≡ false → is_within_special text place ≡ true → begins_char text place ≡ false
begins-within text place special within = rw (special, within) refl

-- an ordinary brace is passed
pub brace_past : (text : Text) (place : ℕ) → IsFresh text place → IsBareBrace text place → (begins_char text place ≡ false) × IsFresh text (place + 1)
brace_past text place fresh brace = (
  begins-brace text place brace.special (brace_from (get_or text place 0) brace.plain brace.alone),
  record {
    outside = outside_on text place fresh.outside brace.special;
    alone = joined_after text place brace.plain fresh.alone;
  },
)

-- ---- what is passed with a text character

-- a text character begins at the place, no other begins in it, and it does not go on after its end
pub record IsPassed (text : Text) (place end : ℕ) : Type 0 where
  pub begins : begins_char text place ≡ true
  pub inside : (p : ℕ) → place + 1 ≤ p → p < end → begins_char text p ≡ false
  pub fresh : IsFresh text end
  pub ends : char_end text place ≡ end

-- a run of bytes that pass, and the byte after it
run_passes : (p : ℕ → Bool) (xs : Text) (k : ℕ) → k < prefix_len p xs → p (get_or xs k 0) ≡ true
run_passes p [] k lt = absurd (omega arith)
run_passes p (x ∷ xs) k lt = go k (p x) refl lt (λ j h. run_passes p xs j h)
  where
    go : (k : ℕ) (b : Bool) → p x ≡ b → k < cond b (1 + prefix_len p xs) 0 → ((j : ℕ) → j < prefix_len p xs → p (get_or xs j 0) ≡ true) → p (get_or (x ∷ xs) k 0) ≡ true
    go k false e h later = absurd (omega arith)
    go zero true e h later = e
    go (suc k) true e h later = later k (omega arith)

run_stops : (p : ℕ → Bool) (xs : Text) → p 0 ≡ false → p (get_or xs (prefix_len p xs) 0) ≡ false
run_stops p [] none = none
run_stops p (x ∷ xs) none = go (p x) refl (run_stops p xs none)
  where
    go : (b : Bool) → p x ≡ b → p (get_or xs (prefix_len p xs) 0) ≡ false → p (get_or (x ∷ xs) (cond b (1 + prefix_len p xs) 0) 0) ≡ false
    go false e later = e
    go true e later = let n : 1 + prefix_len p xs ≡ suc (prefix_len p xs) = omega arith in ap (λ m. p (get_or (x ∷ xs) m 0)) n ∙ later

-- the `count` bytes after a plain byte continue it
record IsTail (text : Text) (place count : ℕ) : Type 0 where
  plain : is_plain (get_or text place 0) ≡ true
  on : (k : ℕ) → k < count → goes_on (get_or text (place + 1 + k) 0) ≡ true

tail_joined : (text : Text) (place count : ℕ) → IsTail text place count → (k : ℕ) → k < count → is_joined text (place + 1 + k) ≡ true
tail_joined text place count tail zero lt =
    let e : place + 1 + 0 ≡ place + 1 = omega arith in
    ap (is_joined text) e ∙ joined-yes text place (ap (λ n. goes_on (get_or text n 0)) (sym e) ∙ tail.on 0 lt) (ap (λ b. b || is_joined text place) tail.plain)
tail_joined text place count tail (suc k) lt =
    let e : place + 1 + suc k ≡ place + 1 + k + 1 = omega arith in
    let there = tail_joined text place count tail k (omega arith) in
    ap (is_joined text) e ∙ joined-yes text (place + 1 + k) (ap (λ n. goes_on (get_or text n 0)) (sym e) ∙ tail.on (suc k) lt) (ap (λ b. is_plain (get_or text (place + 1 + k) 0) || b) there ∙ or-true (is_plain (get_or text (place + 1 + k) 0)))

tail_outside : (text : Text) (place count : ℕ) → Outside text (place + 1) → IsTail text place count → (k : ℕ) → k ≤ count → Outside text (place + 1 + k)
tail_outside text place count outside tail zero le = let e : place + 1 ≡ place + 1 + 0 = omega arith in subst (λ n. Outside text n) e outside
tail_outside text place count outside tail (suc k) le =
    let e : place + 1 + k + 1 ≡ place + 1 + suc k = omega arith in
    subst (λ n. Outside text n) e
    (outside_on text (place + 1 + k) (tail_outside text place count outside tail k (omega arith)) (on_not_special text (place + 1 + k) (tail.on k (omega arith))))

plain_passed : (text : Text) (place end : ℕ) → IsFresh text place → begins_special text place ≡ false → is_plain (get_or text place 0) ≡ true → end ≡ place + 1 + going_on text (place + 1) → IsPassed text place end
plain_passed text place end fresh none plain is =
    let count = going_on text (place + 1) in
    let tail : IsTail text place count = record {
      plain = plain;
      on = λ k lt. ap goes_on (sym (get_or-drop (place + 1) text k 0)) ∙ run_passes goes_on (drop (place + 1) text) k lt;
    } in
    let stops : goes_on (get_or text end 0) ≡ false =
    ap (λ n. goes_on (get_or text n 0)) is ∙ ap goes_on (sym (get_or-drop (place + 1) text count 0)) ∙ run_stops goes_on (drop (place + 1) text) refl in
    record {
      begins = begins-byte text place fresh none (plain_no_brace (get_or text place 0) plain);
      inside = λ p low high. let k = p - (place + 1) in let e : place + 1 + k ≡ p = omega arith in
          ap (begins_char text) (sym e) ∙ begins-joined text (place + 1 + k) (on_not_special text (place + 1 + k) (tail.on k (omega arith))) (tail_joined text place count tail k (omega arith));
      fresh = record {
        outside = subst (λ n. Outside text n) (sym is) (tail_outside text place count (outside_on text place fresh.outside none) tail count (omega arith));
        alone = joined-no text end stops;
      };
      ends = rw (none, plain) (sym is);
    }

stray_passed : (text : Text) (place end : ℕ) → IsFresh text place → begins_special text place ≡ false → is_plain (get_or text place 0) ≡ false → goes_on (get_or text place 0) ≡ true → end ≡ place + 1 → IsPassed text place end
stray_passed text place end fresh none plain on is = record {
  begins = begins-byte text place fresh none (on_no_brace (get_or text place 0) on);
  inside = λ p low high. absurd (omega arith);
  fresh = subst (λ n. IsFresh text n) (sym is) (record {
    outside = outside_on text place fresh.outside none;
    alone = joined_after text place plain fresh.alone;
  });
  ends = rw (none, plain) (sym is);
}

-- ---- special characters

-- a run of places that pass
deep_run : (p : ℕ → Bool) (at n k : ℕ) → at + k < at + prefix_len p (range_with_len at n) → p (at + k) ≡ true
deep_run p at zero k lt = absurd (omega arith)
deep_run p at (suc n) k lt = go k (p at) refl lt (λ j h. deep_run p (at + 1) n j h)
  where
    go : (k : ℕ) (b : Bool) → p at ≡ b → at + k < at + cond b (1 + prefix_len p (range_with_len (at + 1) n)) 0 → ((j : ℕ) → at + 1 + j < at + 1 + prefix_len p (range_with_len (at + 1) n) → p (at + 1 + j) ≡ true) → p (at + k) ≡ true
    go k false e h later = absurd (omega arith)
    go zero true e h later = ap p (add-zero at) ∙ e
    go (suc k) true e h later = let n : at + suc k ≡ at + 1 + k = omega arith in ap p n ∙ later k (omega arith)

-- no place between a special character's ends has depth 0
special_deep : (text : Text) (place end : ℕ) → IsSpecial text place end → (p : ℕ) → place + 1 ≤ p → p < end → is_level text p ≡ false
special_deep text place end special p low high =
    let k = p - (place + 1) in
    let e : place + 1 + k ≡ p = omega arith in
    let deep = deep_run (λ q. not (is_level text q)) (place + 1) (length text - (place + 1)) k (omega (arith, special.ends.is)) in
    not-true (is_level text p) (ap (λ q. not (is_level text q)) (sym e) ∙ deep)

deep_not_special : (text : Text) (place : ℕ) → is_level text place ≡ false → begins_special text place ≡ false
deep_not_special text place deep = ap (λ b. b && is_opening text place && is_level text (next_level text place)) deep

-- its last byte is a brace
brace_before : (text : Text) (last : ℕ) → last < length text → is_level text last ≡ false → is_level text (last + 1) ≡ true → (is_plain (get_or text last 0) ≡ false) × (goes_on (get_or text last 0) ≡ false)
brace_before text last lt deep level = go (eqb (get_or text last 0) 123) (eqb (get_or text last 0) 125) refl refl
  where
    go : (x y : Bool) → eqb (get_or text last 0) 123 ≡ x → eqb (get_or text last 0) 125 ≡ y → (is_plain (get_or text last 0) ≡ false) × (goes_on (get_or text last 0) ≡ false)
    go true y e f = let is = eqb-true (get_or text last 0) 123 e in (ap is_plain is, ap goes_on is)
    go false true e f = let is = eqb-true (get_or text last 0) 125 f in (ap is_plain is, ap goes_on is)
    go false false e f =
        let o = opened_more text last lt ∙ ap (λ b. opened_before text last + cond b 1 0) e in
        let c = closed_more text last lt ∙ ap (λ b. closed_before text last + cond b 1 0) f in
        let there = eqb-true (opened_before text (last + 1)) (closed_before text (last + 1)) level in
        let here = eq-eqb (opened_before text last) (closed_before text last) (omega (arith, o, c, there)) in
        absurd (cc)

special_passed : (text : Text) (place end : ℕ) → IsFresh text place → IsSpecial text place end → IsPassed text place end
special_passed text place end fresh special = record {
  begins = begins-special text place special.begins;
  inside = λ p low high. begins-within text p (deep_not_special text p (special_deep text place end special p low high)) (within-yes text p place (omega arith) special.begins (omega (arith, special.ends.is)));
  fresh = record { outside = outside; alone = ap (is_joined text) last_is ∙ joined_after text (end - 1) brace.0 (joined-no text (end - 1) brace.1) };
  ends = ap (λ b. cond b (next_level text place) (cond (is_plain (get_or text place 0)) (place + 1 + going_on text (place + 1)) (place + 1))) special.begins ∙ sym special.ends.is;
}
  where
    last_is : end ≡ end - 1 + 1
    last_is = omega (arith, special.long)

    brace : (is_plain (get_or text (end - 1) 0) ≡ false) × (goes_on (get_or text (end - 1) 0) ≡ false)
    brace = brace_before text (end - 1) (omega (arith, special.long, special.ends.within)) (special_deep text place end special (end - 1) (omega (arith, special.long)) (omega (arith, special.long))) (ap (is_level text) (sym last_is) ∙ special.ends.level)

    outside_from : (k front : ℕ) → front < place + 1 + k → place + 1 + k ≤ end → begins_special text front ≡ true → next_level text front ≤ end
    outside_from zero front lt le = let lt1 : front < place + 1 = omega arith in
        below_more (λ q. begins_special text q ≡ true → next_level text q ≤ end) place (λ q h b. omega (arith, fresh.outside q h b, special.long)) (λ b. omega (arith, special.ends.is)) front lt1
    outside_from (suc k) front lt le = let lt1 : front < place + 1 + k + 1 = omega arith in
        below_more (λ q. begins_special text q ≡ true → next_level text q ≤ end) (place + 1 + k) (λ q h b. outside_from k q h (omega arith) b)
        (λ b. let deep = deep_not_special text (place + 1 + k) (special_deep text place end special (place + 1 + k) (omega arith) (omega arith)) in absurd (cc)) front lt1

    outside : Outside text end
    outside front lt = outside_from (end - (place + 1)) front (omega (arith, special.long)) (omega (arith, special.long))

pub char_passed : (text : Text) (place end : ℕ) → IsFresh text place → IsChar text place end → IsPassed text place end
char_passed text place end fresh char = elim char.kind [
  | inl special ↦ special_passed text place end fresh special
  | inr other ↦ elim other [
    | inl plain ↦ plain_passed text place end fresh plain.0 plain.1 plain.2
    | inr stray ↦ stray_passed text place end fresh stray.0 stray.1 stray.2 stray.3
  ]
]

-- ---- the text characters from a place on

pub chars_next : (text : Text) (place end : ℕ) → place < length text → IsFresh text place → IsChar text place end → chars_from text place ≡ slice_range text place end ∷ chars_from text end
chars_next text place end lt fresh char =
    let passed = char_passed text place end fresh char in
    let here = places_here (begins_char text) place (length text) lt passed.begins in
    let past = places_skip_to (begins_char text) (place + 1) end (length text) (omega (arith, char.after)) char.within passed.inside in
    ap (chars_at text) here ∙ ap (λ e. slice_range text place e ∷ chars_at text (places_from (begins_char text) (place + 1) (length text - (place + 1)))) passed.ends
    ∙ ap (λ ps. slice_range text place end ∷ chars_at text ps) past

pub chars_past : (text : Text) (place : ℕ) → place < length text → IsFresh text place → IsBareBrace text place → chars_from text place ≡ chars_from text (place + 1)
chars_past text place lt fresh brace = ap (chars_at text) (places_past (begins_char text) place (length text) lt (brace_past text place fresh brace).0)

-- ---- the braces of the bytes passed

-- a front in two parts
take_parts : (text : Text) (place end : ℕ) → place ≤ end → take place text ++ slice_range text place end ≡ take end text
take_parts text place end le =
    let m = end - place in
    let e : place + m ≡ end = omega arith in
    let whole = take-append-drop place (take (place + m) text) in
    let front : take place (take (place + m) text) ≡ take place text = take-take place (place + m) text (omega arith) in
    let back : drop place (take (place + m) text) ≡ take m (drop place text) = drop-take place m text in
    let both_parts : take place text ++ take m (drop place text) ≡ take (place + m) text = cc in
    both_parts ∙ ap (λ n. take n text) e

count_parts : (test : ℕ → Bool) (text : Text) (place end : ℕ) → place ≤ end → count_by test (take end text) ≡ count_by test (take place text) + count_by test (slice_range text place end)
count_parts test text place end le = ap (count_by test) (sym (take_parts text place end le)) ∙ sum_by-append (λ b. cond (test b) 1 0) (take place text) (slice_range text place end)

pub braces_over : (text : Text) (place end a z a' z' : ℕ) → place ≤ end → end ≤ length text → AreBraces text place a z → a' ≡ a + count_by (λ b. eqb b 123) (slice_range text place end) → z' ≡ z + count_by (λ b. eqb b 125) (slice_range text place end) → AreBraces text end a' z'
braces_over text place end a z a' z' low high are opened closed =
    let o = count_parts (λ b. eqb b 123) text place end low in
    let c = count_parts (λ b. eqb b 125) text place end low in
    let len : length (take end text) ≡ end = length-take-le end text high in
    record {
      opening = omega (arith, are.opening, opened, o);
      closing = omega (arith, are.closing, closed, c);
      few_opening = omega (arith, are.opening, opened, o, count_by-le-length (λ b. eqb b 123) (take end text), len);
      few_closing = omega (arith, are.closing, closed, c, count_by-le-length (λ b. eqb b 125) (take end text), len);
    }
