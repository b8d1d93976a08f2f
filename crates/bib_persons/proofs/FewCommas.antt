-- A list with at most two commas has no name with more.
use Rattle.std.proofs.Common.{◌≡◌, ◌∙◌, ℕ, zero, suc, ◌+◌, ◌<◌, ◌≤◌, Bool, true, false, ◌&&◌, ◌==◌, nat_lt, cond, List, [], ◌∷◌, length, drop, get_or, count_by, filter, map, refl, ap, arith, ⊎_elim}
use Rattle.std.specs.Prelude.{slice_index}
use Rattle.std.specs.List.{AllByRecursion, range_with_len, list_all, slice_range}
use Rattle.std.proofs.Math.Seq.{drop-cons}
use Rattle.std.proofs.lemmas.Bool.{cases_Bool, ltb-true, lt-ltb, le-ltb, and_parts}
use Rattle.bib_spec.specs.Bytes.{comma}
use Rattle.bib_spec.specs.Text.{Text, is_space, IsBalanced}
use Rattle.bib_spec.specs.Texts.{field_text}
use Rattle.bib_text.specs.Trimming.{trimmed}
use Rattle.bib_names.proofs.BalanceLaws.{balances-yes, balances-no}
use Rattle.bib_names.specs.Places.{is_level, Stretch, between}
use Rattle.bib_names.specs.NameList.{cuts, names_of}
use Rattle.bib_names.specs.Name.{is_comma, commas, without_end}
use Rattle.bib_names.specs.Label.{balances, listed_names}
use Rattle.bib_persons.specs.Persons.{is_comma_byte, has_many_commas, refused_names}
use Rattle.bib_persons.proofs.Counts.{count-cons, count-take, count-drop, count-range, count-trimmed, count-field_text}

-- ---- the commas of a name

-- those among the last n bytes
commas_left : (t : Text) (n k : ℕ) → k + n ≡ length t → length (filter (is_comma t) (range_with_len k n)) ≤ count_by is_comma_byte (drop k t)
commas_left t zero k all = omega arith
commas_left t (suc n) k all = go (is_level t k) (slice_index t k == comma) refl (commas_left t n (k + 1) (omega (arith, all)))
  where
    here : drop k t ≡ get_or t k 0 ∷ drop (suc k) t
    here = drop-cons t k 0 (omega (arith, all))

    counted : count_by is_comma_byte (drop k t) ≡ cond (slice_index t k == comma) 1 0 + count_by is_comma_byte (drop (k + 1) t)
    counted =
        let next : suc k ≡ k + 1 = omega arith in
        ap (count_by is_comma_byte) here ∙ count-cons is_comma_byte (get_or t k 0) (drop (suc k) t) ∙ ap (λ j. cond (slice_index t k == comma) 1 0 + count_by is_comma_byte (drop j t)) next

    go : (level is : Bool) → (slice_index t k == comma) ≡ is → length (filter (is_comma t) (range_with_len (k + 1) n)) ≤ count_by is_comma_byte (drop (k + 1) t)
        → length (cond (level && is) (k ∷ filter (is_comma t) (range_with_len (k + 1) n)) (filter (is_comma t) (range_with_len (k + 1) n))) ≤ count_by is_comma_byte (drop k t)
    go true true e later = let c = counted ∙ ap (λ (b : Bool). cond b 1 0 + count_by is_comma_byte (drop (k + 1) t)) e in omega (arith, c, later)
    go true false e later = let c = counted ∙ ap (λ (b : Bool). cond b 1 0 + count_by is_comma_byte (drop (k + 1) t)) e in omega (arith, c, later)
    go false is e later = let c = counted in omega (arith, c, later)

commas_few : (t : Text) → length (commas t) ≤ count_by is_comma_byte t
commas_few t = commas_left t (length t) 0 (omega arith)

pub few_no_many : (name : Text) → count_by is_comma_byte name ≤ 2 → has_many_commas name ≡ false
few_no_many name few = ⊎_elim
    (λ many.
    let more : 2 < length (commas (without_end name)) = ltb-true 2 (length (commas (without_end name))) (and_parts (balances name) _ many).1 in
    let one = commas_few (without_end name) in
    let two : count_by is_comma_byte (without_end name) ≤ count_by is_comma_byte name = count-take is_comma_byte _ name in
    absurd (omega (arith, more, one, two, few)))
    (λ none. none)
    (cases_Bool (has_many_commas name))

-- ---- the names of a list

-- none of these names has more commas than the text
abbrev AreWithin : Text → List Text → Type 0
AreWithin text names = AllByRecursion (λ name. count_by is_comma_byte name ≤ count_by is_comma_byte text) names

stretches_within : (text : Text) (at : ℕ) (places : List ℕ) → AreWithin text (map (λ (s : Stretch). trimmed s.text) (between 3 text at places))
stretches_within text at [] =
    let one = count-trimmed is_comma_byte (drop at text) in
    let two = count-drop is_comma_byte at text in
    (omega (arith, one, two), tt)
stretches_within text at (place ∷ places) =
    let one = count-trimmed is_comma_byte (slice_range text at place) in
    let two = count-range is_comma_byte text at place in
    (omega (arith, one, two), stretches_within text (place + 3) places)

names_within : (text : Text) → AreWithin text (names_of text)
names_within text = go (list_all is_space text)
  where
    go : (blank : Bool) → AreWithin text (cond blank [] (map (λ (s : Stretch). trimmed s.text) (between 3 text 0 (cuts text))))
    go true = tt
    go false = stretches_within text 0 (cuts text)

listed_within : (text : Text) → AreWithin text (listed_names text)
listed_within text = go (balances text)
  where
    go : (is : Bool) → AreWithin text (cond is (names_of text) [])
    go true = names_within text
    go false = tt

none_refused : (text : Text) (names : List Text) → count_by is_comma_byte text ≤ 2 → AreWithin text names → filter has_many_commas names ≡ []
none_refused text [] few within = refl
none_refused text (name ∷ names) few within =
    let one = within.0 in
    ap (λ (b : Bool). cond b (name ∷ filter has_many_commas names) (filter has_many_commas names)) (few_no_many name (omega (arith, one, few)))
    ∙ none_refused text names few within.1

-- a list whose raw text has at most two commas
pub few_none_refused : (raw : Text) → count_by is_comma_byte raw ≤ 2 → refused_names (field_text raw) ≡ []
few_none_refused raw few =
    let one = count-field_text is_comma_byte raw refl in
    none_refused (field_text raw) (listed_names (field_text raw)) (omega (arith, one, few)) (listed_within (field_text raw))

-- ---- what the parts of a name say

pub few_of : (name : Text) → length (commas (without_end name)) ≤ 2 → has_many_commas name ≡ false
few_of name few = go (balances name) (le-ltb 2 (length (commas (without_end name))) few)
  where
    go : (is : Bool) → nat_lt 2 (length (commas (without_end name))) ≡ false → (is && nat_lt 2 (length (commas (without_end name)))) ≡ false
    go true e = e
    go false e = refl

pub many_of : (name : Text) → IsBalanced name → 2 < length (commas (without_end name)) → has_many_commas name ≡ true
many_of name is many = rw (balances-yes name is, lt-ltb 2 (length (commas (without_end name))) many) refl

pub unbalanced_of : (name : Text) → (IsBalanced name → ⊥) → has_many_commas name ≡ false
unbalanced_of name never = rw (balances-no name never) refl

pub unbalanced_list : (text : Text) → (IsBalanced text → ⊥) → refused_names text ≡ []
unbalanced_list text never = rw (balances-no text never) refl

pub balanced_list : (text : Text) → IsBalanced text → refused_names text ≡ filter has_many_commas (names_of text)
balanced_list text is = rw (balances-yes text is) refl
