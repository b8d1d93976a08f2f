-- Groups and special characters.
use Rattle.bib_names.proofs.Words.{◌≡◌, ◌≢◌, ℕ, suc, ◌+◌, ◌-◌, ◌≤◌, ◌<◌, Bool, true, false, cond, eqb, length, get_or, refl, sym, ap, ◌∙◌, arith, below_more, ◌&&◌, range_with_len, find, IfSome, ltb, eqb-true, ltb-true, ltb-false, and_parts, and-false, Text, opened_before, closed_before, is_level}
use Rattle.bib_names.proofs.Words.{is_opening, begins_special, next_level, IsSpecial}
use Rattle.std.specs.Prelude.{not}
use Rattle.std.specs.Prelude.{Option, Some, None, IfNone}
use Rattle.std.proofs.lemmas.Option.{IfSome_then}
use Rattle.bib_names.specs.Scanning.{IsGroupEnd}
use Rattle.bib_names.proofs.BraceLemmas.{one_if, opened_more, closed_more}
use Rattle.bib_names.proofs.PlaceLemmas.{run_to, run_to_end}

-- the places after the brace, up to this one, are not level
abbrev pub NoneLevel : Text → ℕ → ℕ → Type 0
NoneLevel text place last = (p : ℕ) → place < p → p ≤ last → is_level text p ≡ false

-- the group ends at end
next_level_at : (text : Text) (place end : ℕ) → place < end → end < length text → ((p : ℕ) → place < p → p < end → is_level text p ≡ false) → is_level text end ≡ true → next_level text place ≡ end
next_level_at text place end low high none level =
    run_to (λ p. not (is_level text p)) (place + 1) end (length text) (omega arith) high (λ p l h. ap not (none p (omega arith) h)) (ap not level)

next_level_end : (text : Text) (place : ℕ) → place < length text → ((p : ℕ) → place < p → p < length text → is_level text p ≡ false) → next_level text place ≡ length text
next_level_end text place low none =
    run_to_end (λ p. not (is_level text p)) (place + 1) (length text) (omega arith) (λ p l h. ap not (none p (omega arith) h))

pub group_found : (text : Text) (place last : ℕ) → place ≤ last → last < length text → NoneLevel text place last → is_level text (last + 1) ≡ true → IsGroupEnd text place (last + 1)
group_found text place last low high none level = record {
  is = elim (ltb (last + 1) (length text)) as (λ b. ltb (last + 1) (length text) ≡ b → last + 1 ≡ next_level text place) [
    | true ↦ λ e. sym (next_level_at text place (last + 1) (omega arith) (ltb-true (last + 1) (length text) e) (λ p l h. none p l (omega arith)) level)
    | false ↦ λ e. let end : last + 1 ≡ length text = omega (arith, ltb-false (last + 1) (length text) e) in
        end ∙ sym (next_level_end text place (omega arith) (λ p l h. none p l (omega arith)))
  ] refl;
  after = omega arith;
  within = omega arith;
  level = level;
}

-- after an opening brace the depth is 1, and so it is after a backslash there
opening_deep : (text : Text) (place end : ℕ) → place < end → end ≤ length text → is_level text place ≡ true → is_opening text place ≡ true → is_level text end ≡ true → place + 2 < end
opening_deep text place end low high level opening closed =
    let bytes = and_parts (eqb (get_or text place 0) 123) (eqb (get_or text (place + 1) 0) 92) opening in
    let here = eqb-true (opened_before text place) (closed_before text place) level in
    let there = eqb-true (opened_before text end) (closed_before text end) closed in
    let brace = eqb-true (get_or text place 0) 123 bytes.0 in
    let slash = eqb-true (get_or text (place + 1) 0) 92 bytes.1 in
    let o1 = opened_more text place (omega arith) ∙ ap (λ b. opened_before text place + one_if 123 b) brace in
    let c1 = closed_more text place (omega arith) ∙ ap (λ b. closed_before text place + one_if 125 b) brace in
    let not_next : end ≢ place + 1 = λ e. let eo = ap (λ n. opened_before text n) e in let ec = ap (λ n. closed_before text n) e in omega (arith, o1, c1, here, there, eo, ec) in
    let not_third : end ≢ place + 1 + 1 = λ e.
    let o2 = opened_more text (place + 1) (omega arith) ∙ ap (λ b. opened_before text (place + 1) + one_if 123 b) slash in
    let c2 = closed_more text (place + 1) (omega arith) ∙ ap (λ b. closed_before text (place + 1) + one_if 125 b) slash in
    let eo = ap (λ n. opened_before text n) e in let ec = ap (λ n. closed_before text n) e in omega (arith, o1, c1, o2, c2, here, there, eo, ec) in
    omega (arith, low, not_next, not_third)

pub special_found : (text : Text) (place end : ℕ) → is_level text place ≡ true → is_opening text place ≡ true → IsGroupEnd text place end → IsSpecial text place end
special_found text place end level opening ends = record {
  begins = rw (level, opening) (ap (is_level text) (sym ends.is) ∙ ends.level);
  ends = ends;
  long = opening_deep text place end ends.after ends.within level opening ends.level;
}

pub special_open : (text : Text) (place : ℕ) → is_level text (next_level text place) ≡ false → begins_special text place ≡ false
special_open text place fails = ap (λ b. is_level text place && is_opening text place && b) fails ∙ and-false (is_level text place && is_opening text place)

pub special_none : (text : Text) (place : ℕ) → (is_level text place && is_opening text place) ≡ false → begins_special text place ≡ false
special_none text place fails = ap (λ b. b && is_level text (next_level text place)) fails

-- where a special character may begin, it does and ends with its group, or does not if that has no end
pub special_at : (text : Text) (place : ℕ) (end : Option ℕ) → (is_level text place && is_opening text place) ≡ true → IfSome end (IsGroupEnd text place) → IfSome end (IsSpecial text place)
special_at text place end opens ends =
    let two = and_parts (is_level text place) (is_opening text place) opens in IfSome_then end ends (λ e is. special_found text place e two.0 two.1 is)

pub special_endless : (text : Text) (place : ℕ) (end : Option ℕ) → IfNone end (is_level text (next_level text place) ≡ false) → IfNone end (begins_special text place ≡ false)
special_endless text place None fails = special_open text place fails
special_endless text place (Some end) fails = tt

-- the first of the places from one on up to n that passes a test
pub find_here : (test : ℕ → Bool) (at n : ℕ) → at < n → test at ≡ true → find test (range_with_len at (n - at)) ≡ Some at
find_here test at n lt passes =
    let one : n - at ≡ suc (n - (at + 1)) = omega arith in
    ap (λ m. find test (range_with_len at m)) one ∙ ap (λ b. cond b (Some at) (find test (range_with_len (at + 1) (n - (at + 1))))) passes

pub find_past : (test : ℕ → Bool) (at n : ℕ) → at < n → test at ≡ false → find test (range_with_len at (n - at)) ≡ find test (range_with_len (at + 1) (n - (at + 1)))
find_past test at n lt fails =
    let one : n - at ≡ suc (n - (at + 1)) = omega arith in
    ap (λ m. find test (range_with_len at m)) one ∙ ap (λ b. cond b (Some at) (find test (range_with_len (at + 1) (n - (at + 1))))) fails

pub none_more : (text : Text) (place last : ℕ) → NoneLevel text place last → is_level text (last + 1) ≡ false → NoneLevel text place (last + 1)
none_more text place last none fails p low high =
    below_more (λ q. place < q → is_level text q ≡ false) (last + 1) (λ q h l. none q l (omega arith)) (λ _. fails) p (omega arith) low
