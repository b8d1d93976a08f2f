-- The places where keys alone are cited, in a file in which each parent is after its children and has no crossref: those of
-- the cited keys, and then those that the cited entries name.
use Rattle.std.proofs.Common.{◌≡◌, ◌∙◌, ℕ, zero, suc, ◌+◌, ◌<◌, Bool, true, false, cond, ◌||◌, List, [], ◌∷◌, ◌++◌, Option, Some, None, option_and_then, slice_get, map, length, ◌==◌, ne_eqb, eqb-true, eq-eqb, ◌⊎◌, inl, inr, ⊎_elim, refl, sym, ap, ap₂, arith, append_assoc, append-nil, eq-or-lt_of_le, le_of_suc-le-suc, not-suc-le-zero}
use Rattle.std.specs.List.{list_any}
use Rattle.std.specs.Option.{option_map_or}
use Rattle.std.proofs.lemmas.Bool.{cases_Bool, cond-true, cond-false, or_parts, or_left, or_right, false_from_ne_true, true≢false}
use Rattle.std.proofs.lemmas.Option.{none-some, same_Some}
use Rattle.std.proofs.lemmas.List.Folds.{list_any-append}
use Rattle.bib_spec.specs.Text.{Text, same}
use Rattle.bib_spec.specs.Records.{EntryTexts, crossref_text, entry_named, target_of, target, other_than, parent}
use Rattle.bib_spec.proofs.Names.{same-true, true-same, same_comm}
use Rattle.bibtex_spec.specs.Places.{Place, held_by, named_place, named_again, read_entry, read_entries}
use Rattle.bibtex_spec.specs.ListLaws.{IsOrdinary, ParentsAreLast}
use Rattle.bibtex_laws.proofs.StarPlaces.{any_alike}
use Rattle.bibtex_laws.proofs.HeldPlaces.{IsRest, rest_head, rest_tail}
use Rattle.bibtex_laws.proofs.DialectRecords.{key_get, only_named}
use Rattle.bibtex_laws.proofs.NumberLists.{count_below}
use Rattle.bibtex_laws.proofs.KeyPlaces.{Differ, KeepsKeys, if_held, if_named, held_keeps, place_read, texts_read, read_is}

-- the place of a text that nothing has named or held
abbrev pub fresh_place : List Text → Text → Place
fresh_place cited x = record { spelled = x; entry = None; count = 0; is_cited = list_any (same x) cited }

-- the crossref of the entry, if its key is cited
abbrev pub counted_text : List Text → EntryTexts → Option Text
counted_text cited entry = cond (list_any (same entry.key) cited) (crossref_text entry) None

-- what reading entry n, if there is one, makes of the place of a text
abbrev pub place_step : List Text → Option EntryTexts → ℕ → (Text → Place) → Text → Place
place_step cited None n f x = f x
place_step cited (Some entry) n f x = place_read entry n (counted_text cited entry) f x

-- the texts that come after the others when this one is named
abbrev pub later_read : List Text → Option Text → List Text → List Text
later_read cited None later = later
later_read cited (Some t) later = cond (list_any (same t) (cited ++ later)) later (later ++ t ∷ [])

-- the text is this one, if there is one
abbrev pub is_text : Option Text → Text → Bool
is_text o x = option_map_or (λ t. same t x) o false

-- the entry has this key, if there is one
abbrev pub is_key_of : Option EntryTexts → Text → Bool
is_key_of o x = option_map_or (λ entry. same entry.key x) o false

-- ---- what one step does

read_keeps : (entry : EntryTexts) (n : ℕ) (o : Option Text) (f : Text → Place) → KeepsKeys f → KeepsKeys (place_read entry n o f)
read_keeps entry n None f keeps k x = held_keeps entry n f keeps k x
read_keeps entry n (Some t) f keeps k x = split (same t x) (held_keeps entry n f keeps k x)
  where
    split : (b : Bool) → same k (if_held entry n f x).spelled ≡ same k x → same k (cond b (named_again (if_held entry n f x)) (if_held entry n f x)).spelled ≡ same k x
    split true is = is
    split false is = is

step_keeps : (cited : List Text) (o : Option EntryTexts) (n : ℕ) (f : Text → Place) → KeepsKeys f → KeepsKeys (place_step cited o n f)
step_keeps cited None n f keeps = keeps
step_keeps cited (Some entry) n f keeps = read_keeps entry n (counted_text cited entry) f keeps

module _ (entry : EntryTexts) (n : ℕ) (f : Text → Place) (x : Text) where
  read_entry_is : (o : Option Text) → (place_read entry n o f x).entry ≡ cond (same entry.key x) (Some n) (f x).entry
  read_entry_is None = split (same entry.key x)
    where
      split : (b : Bool) → (cond b (held_by entry n (f x)) (f x)).entry ≡ cond b (Some n) (f x).entry
      split true = refl
      split false = refl
  read_entry_is (Some t) = split (same t x) (same entry.key x)
    where
      split : (c b : Bool) → (cond c (named_again (cond b (held_by entry n (f x)) (f x))) (cond b (held_by entry n (f x)) (f x))).entry ≡ cond b (Some n) (f x).entry
      split true true = refl
      split true false = refl
      split false true = refl
      split false false = refl

  read_cited_is : (o : Option Text) → (place_read entry n o f x).is_cited ≡ (f x).is_cited
  read_cited_is None = split (same entry.key x)
    where
      split : (b : Bool) → (cond b (held_by entry n (f x)) (f x)).is_cited ≡ (f x).is_cited
      split true = refl
      split false = refl
  read_cited_is (Some t) = split (same t x) (same entry.key x)
    where
      split : (c b : Bool) → (cond c (named_again (cond b (held_by entry n (f x)) (f x))) (cond b (held_by entry n (f x)) (f x))).is_cited ≡ (f x).is_cited
      split true true = refl
      split true false = refl
      split false true = refl
      split false false = refl

  read_count_is : (o : Option Text) → (place_read entry n o f x).count ≡ cond (is_text o x) (suc (f x).count) (f x).count
  read_count_is None = split (same entry.key x)
    where
      split : (b : Bool) → (cond b (held_by entry n (f x)) (f x)).count ≡ (f x).count
      split true = refl
      split false = refl
  read_count_is (Some t) = split (same t x) (same entry.key x)
    where
      split : (c b : Bool) → (cond c (named_again (cond b (held_by entry n (f x)) (f x))) (cond b (held_by entry n (f x)) (f x))).count ≡ cond c (suc (f x).count) (f x).count
      split true true = refl
      split true false = refl
      split false true = refl
      split false false = refl

  read_spelled_is : (o : Option Text) → (place_read entry n o f x).spelled ≡ cond (same entry.key x) (cond (f x).is_cited (f x).spelled entry.key) (f x).spelled
  read_spelled_is None = split (same entry.key x)
    where
      split : (b : Bool) → (cond b (held_by entry n (f x)) (f x)).spelled ≡ cond b (cond (f x).is_cited (f x).spelled entry.key) (f x).spelled
      split true = refl
      split false = refl
  read_spelled_is (Some t) = split (same t x) (same entry.key x)
    where
      split : (c b : Bool) → (cond c (named_again (cond b (held_by entry n (f x)) (f x))) (cond b (held_by entry n (f x)) (f x))).spelled ≡ cond b (cond (f x).is_cited (f x).spelled entry.key) (f x).spelled
      split true true = refl
      split true false = refl
      split false true = refl
      split false false = refl

module _ (cited : List Text) (n : ℕ) (f : Text → Place) (x : Text) where
  step_entry_is : (o : Option EntryTexts) → (place_step cited o n f x).entry ≡ cond (is_key_of o x) (Some n) (f x).entry
  step_entry_is None = refl
  step_entry_is (Some entry) = read_entry_is entry n f x (counted_text cited entry)

  step_cited_is : (o : Option EntryTexts) → (place_step cited o n f x).is_cited ≡ (f x).is_cited
  step_cited_is None = refl
  step_cited_is (Some entry) = read_cited_is entry n f x (counted_text cited entry)

  step_count_is : (o : Option EntryTexts) → (place_step cited o n f x).count ≡ cond (is_text (option_and_then (counted_text cited) o) x) (suc (f x).count) (f x).count
  step_count_is None = refl
  step_count_is (Some entry) = read_count_is entry n f x (counted_text cited entry)

  -- a cited place keeps its spelling
  step_spelled : (o : Option EntryTexts) → (f x).is_cited ≡ true → (place_step cited o n f x).spelled ≡ (f x).spelled
  step_spelled None is = refl
  step_spelled (Some entry) is = read_spelled_is entry n f x (counted_text cited entry) ∙ split (same entry.key x) (f x).is_cited is
    where
      split : (b c : Bool) → c ≡ true → cond b (cond c (f x).spelled entry.key) (f x).spelled ≡ (f x).spelled
      split true true is = refl
      split true false is = absurd (true≢false (sym is))
      split false c is = refl

  step_spelled_is : (o : Option EntryTexts) → (place_step cited o n f x).spelled
      ≡ option_map_or (λ entry. cond (same entry.key x) (cond (f x).is_cited (f x).spelled entry.key) (f x).spelled) o (f x).spelled
  step_spelled_is None = refl
  step_spelled_is (Some entry) = read_spelled_is entry n f x (counted_text cited entry)

  -- a place that the entry neither holds nor names is unchanged
  step_unmet : (o : Option EntryTexts) → is_key_of o x ≡ false → is_text (option_and_then (counted_text cited) o) x ≡ false → place_step cited o n f x ≡ f x
  step_unmet None other silent = refl
  step_unmet (Some entry) other silent = by_text (counted_text cited entry) silent
    where
      held : if_held entry n f x ≡ f x
      held = cond-false (same entry.key x) (held_by entry n (f x)) (f x) other

      by_text : (o : Option Text) → is_text o x ≡ false → place_read entry n o f x ≡ f x
      by_text None silent = held
      by_text (Some t) silent = cond-false (same t x) (named_again (if_held entry n f x)) (if_held entry n f x) silent ∙ held

-- ---- texts

-- the text that is added is the same as none of the others
differ_and : (t : Text) (xs : List Text) → Differ xs → list_any (same t) xs ≡ false → Differ (xs ++ t ∷ [])
differ_and t [] differ none_ = (refl, tt)
differ_and t (x ∷ xs) differ none_ =
    let both = or_parts (same t x) (list_any (same t) xs) none_ in
    (list_any-append (same x) xs (t ∷ []) ∙ ap₂ (λ (b c : Bool). b || (c || false)) differ.0 (same_comm x t ∙ both.0), differ_and t xs differ.1 both.1)

read_differ : (o : Option Text) (xs : List Text) → Differ xs → Differ (texts_read o xs)
read_differ None xs differ = differ
read_differ (Some t) xs differ = split (list_any (same t) xs) refl
  where
    split : (b : Bool) → list_any (same t) xs ≡ b → Differ (cond b xs (xs ++ t ∷ []))
    split true is = differ
    split false is = differ_and t xs differ is

-- a text that is there stays
read_stays : (k : Text) (o : Option Text) (xs : List Text) → list_any (same k) xs ≡ true → list_any (same k) (texts_read o xs) ≡ true
read_stays k None xs is = is
read_stays k (Some t) xs is = split (list_any (same t) xs)
  where
    split : (b : Bool) → list_any (same k) (cond b xs (xs ++ t ∷ [])) ≡ true
    split true = is
    split false = list_any-append (same k) xs (t ∷ []) ∙ or_left (list_any (same k) xs) (same k t || false) is

-- the text that is added is there
read_there : (t : Text) (xs : List Text) → list_any (same t) (texts_read (Some t) xs) ≡ true
read_there t xs = split (list_any (same t) xs) refl
  where
    split : (b : Bool) → list_any (same t) xs ≡ b → list_any (same t) (cond b xs (xs ++ t ∷ [])) ≡ true
    split true is = is
    split false is = list_any-append (same t) xs (t ∷ []) ∙ or_right (list_any (same t) xs) (same t t || false) (or_left (same t t) false (true-same t t refl))

-- a text that is there was there, or is the one that was added
read_from : (k : Text) (o : Option Text) (xs : List Text) → list_any (same k) (texts_read o xs) ≡ true → (list_any (same k) xs ≡ true) ⊎ ((t : Text) × (o ≡ Some t) × (same k t ≡ true))
read_from k None xs is = inl is
read_from k (Some t) xs is = split (list_any (same t) xs) is
  where
    last : (b c : Bool) → (b || (c || false)) ≡ true → (b ≡ true) ⊎ (c ≡ true)
    last true c is = inl refl
    last false true is = inr refl
    last false false is = absurd (true≢false (sym is))

    split : (b : Bool) → list_any (same k) (cond b xs (xs ++ t ∷ [])) ≡ true → (list_any (same k) xs ≡ true) ⊎ ((u : Text) × (Some t ≡ Some u) × (same k u ≡ true))
    split true is = inl is
    split false is = ⊎_elim (λ here. inl here) (λ new. inr (t, refl, new)) (last (list_any (same k) xs) (same k t) (sym (list_any-append (same k) xs (t ∷ [])) ∙ is))

read_parts : (cited : List Text) (o : Option Text) (later : List Text) → texts_read o (cited ++ later) ≡ cited ++ later_read cited o later
read_parts cited None later = refl
read_parts cited (Some t) later = split (list_any (same t) (cited ++ later))
  where
    split : (b : Bool) → cond b (cited ++ later) ((cited ++ later) ++ t ∷ []) ≡ cited ++ cond b later (later ++ t ∷ [])
    split true = refl
    split false = append_assoc cited later (t ∷ [])

-- ---- all entries before number n are read

module _ (entries : List EntryTexts) (cited : List Text) where
  -- the crossref of entry n, if its key is cited
  abbrev pub cited_text : ℕ → Option Text
  cited_text n = option_and_then (counted_text cited) (slice_get entries n)

  abbrev pub texts_after : ℕ → List Text
  texts_after zero = cited
  texts_after (suc n) = texts_read (cited_text n) (texts_after n)

  abbrev pub later_texts : ℕ → List Text
  later_texts zero = []
  later_texts (suc n) = later_read cited (cited_text n) (later_texts n)

  abbrev pub place_after : ℕ → Text → Place
  place_after zero x = fresh_place cited x
  place_after (suc n) x = place_step cited (slice_get entries n) n (place_after n) x

  pub texts_are : (n : ℕ) → texts_after n ≡ cited ++ later_texts n
  texts_are zero = sym (append-nil cited)
  texts_are (suc n) = ap (texts_read (cited_text n)) (texts_are n) ∙ read_parts cited (cited_text n) (later_texts n)

  pub texts_differ : Differ cited → (n : ℕ) → Differ (texts_after n)
  texts_differ differ zero = differ
  texts_differ differ (suc n) = read_differ (cited_text n) (texts_after n) (texts_differ differ n)

  pub cited_there : (k : Text) → list_any (same k) cited ≡ true → (n : ℕ) → list_any (same k) (texts_after n) ≡ true
  cited_there k is zero = is
  cited_there k is (suc n) = read_stays k (cited_text n) (texts_after n) (cited_there k is n)

  pub named_there : (n i : ℕ) (t : Text) → i < n → cited_text i ≡ Some t → list_any (same t) (texts_after n) ≡ true
  named_there zero i t less says = absurd (not-suc-le-zero less)
  named_there (suc n) i t less says = ⊎_elim
      (λ is. ap (λ (o : Option Text). list_any (same t) (texts_read o (texts_after n))) (sym (ap cited_text is) ∙ says) ∙ read_there t (texts_after n))
      (λ before. read_stays t (cited_text n) (texts_after n) (named_there n i t before says))
      (eq-or-lt_of_le (le_of_suc-le-suc less))

  -- an entry that names the text, before number n
  abbrev pub IsNamedBefore : ℕ → Text → Type 0
  IsNamedBefore n k = (i : ℕ) × (t : Text) × (i < n) × (cited_text i ≡ Some t) × (same k t ≡ true)

  pub there_from : (n : ℕ) (k : Text) → list_any (same k) (texts_after n) ≡ true → (list_any (same k) cited ≡ true) ⊎ IsNamedBefore n k
  there_from zero k is = inl is
  there_from (suc n) k is = ⊎_elim
      (λ before. ⊎_elim (λ here. inl here) (λ one. let less : one.0 < n = one.2 in inr (one.0, one.1, omega (arith, less), one.3, one.4)) (there_from n k before))
      (λ new. inr (n, new.0, omega arith, new.1, new.2))
      (read_from k (cited_text n) (texts_after n) is)

  pub place_keeps : (n : ℕ) → KeepsKeys (place_after n)
  place_keeps zero k x = refl
  place_keeps (suc n) k x = step_keeps cited (slice_get entries n) n (place_after n) (place_keeps n) k x

  pub cited_is : (n : ℕ) (x : Text) → (place_after n x).is_cited ≡ list_any (same x) cited
  cited_is zero x = refl
  cited_is (suc n) x = step_cited_is cited n (place_after n) x (slice_get entries n) ∙ cited_is n x

  pub count_is : (n : ℕ) (x : Text) → (place_after n x).count ≡ count_below n (λ i. is_text (cited_text i) x)
  count_is zero x = refl
  count_is (suc n) x =
      step_count_is cited n (place_after n) x (slice_get entries n)
      ∙ ap (λ (k : ℕ). cond (is_text (cited_text n) x) (suc k) k) (count_is n x)

  pub spelled_is : (n : ℕ) (x : Text) → list_any (same x) cited ≡ true → (place_after n x).spelled ≡ x
  spelled_is zero x is = refl
  spelled_is (suc n) x is = step_spelled cited n (place_after n) x (slice_get entries n) (cited_is n x ∙ is) ∙ spelled_is n x is

  pub place_unmet : (n : ℕ) (x : Text) → ((i : ℕ) → i < n → is_key_of (slice_get entries i) x ≡ false) → ((i : ℕ) → i < n → is_text (cited_text i) x ≡ false)
      → place_after n x ≡ fresh_place cited x
  place_unmet zero x others silent = refl
  place_unmet (suc n) x others silent =
      let last : n < suc n = omega arith in
      step_unmet cited n (place_after n) x (slice_get entries n) (others n last) (silent n last)
      ∙ place_unmet n x (λ i less. others i (omega (arith, less))) (λ i less. silent i (omega (arith, less)))

  -- the entry of a place has its key
  pub entry_from : (n : ℕ) (x : Text) (m : ℕ) → (place_after n x).entry ≡ Some m → (m < n) × (is_key_of (slice_get entries m) x ≡ true)
  entry_from zero x m is = absurd (none-some m is)
  entry_from (suc n) x m is = split (is_key_of (slice_get entries n) x) refl (sym (step_entry_is cited n (place_after n) x (slice_get entries n)) ∙ is) (λ before. entry_from n x m before)
    where
      split : (b : Bool) → is_key_of (slice_get entries n) x ≡ b → cond b (Some n) (place_after n x).entry ≡ Some m
          → ((place_after n x).entry ≡ Some m → (m < n) × (is_key_of (slice_get entries m) x ≡ true)) → (m < suc n) × (is_key_of (slice_get entries m) x ≡ true)
      split true has here rest =
          let at : n ≡ m = same_Some n m here in
          (omega (arith, at), ap (λ (k : ℕ). is_key_of (slice_get entries k) x) (sym at) ∙ has)
      split false has before rest = let one = rest before in let less : m < n = one.0 in (omega (arith, less), one.1)

  -- a place that is not cited is spelled as its entry
  pub spelled_as_entry : (n : ℕ) (x : Text) (m : ℕ) (entry : EntryTexts) → list_any (same x) cited ≡ false → (place_after n x).entry ≡ Some m → slice_get entries m ≡ Some entry
      → (place_after n x).spelled ≡ entry.key
  spelled_as_entry zero x m entry other held at = absurd (none-some m held)
  spelled_as_entry (suc n) x m entry other held at =
      step_spelled_is cited n (place_after n) x (slice_get entries n)
      ∙ split (slice_get entries n) refl (sym (step_entry_is cited n (place_after n) x (slice_get entries n)) ∙ held) (λ before. spelled_as_entry n x m entry other before at)
    where
      p : Place
      p = place_after n x

      by_key : (e : EntryTexts) → slice_get entries n ≡ Some e → (b : Bool) → cond b (Some n) p.entry ≡ Some m → (p.entry ≡ Some m → p.spelled ≡ entry.key)
          → cond b (cond p.is_cited p.spelled e.key) p.spelled ≡ entry.key
      by_key e there true here rest =
          ap (λ (c : Bool). cond c p.spelled e.key) (cited_is n x ∙ other)
          ∙ ap (λ (e : EntryTexts). e.key) (same_Some e entry (sym there ∙ ap (slice_get entries) (same_Some n m here) ∙ at))
      by_key e there false before rest = rest before

      split : (o : Option EntryTexts) → slice_get entries n ≡ o → cond (is_key_of o x) (Some n) p.entry ≡ Some m → (p.entry ≡ Some m → p.spelled ≡ entry.key)
          → option_map_or (λ (e : EntryTexts). cond (same e.key x) (cond p.is_cited p.spelled e.key) p.spelled) o p.spelled ≡ entry.key
      split None there before rest = rest before
      split (Some e) there is rest = by_key e there (same e.key x) is rest

  -- a cited entry that names a text
  pub counted_from : (i : ℕ) (t : Text) → cited_text i ≡ Some t → (entry : EntryTexts) × (slice_get entries i ≡ Some entry) × (crossref_text entry ≡ Some t) × (list_any (same entry.key) cited ≡ true)
  counted_from i t says = by_entry (slice_get entries i) refl says
    where
      by_key : (entry : EntryTexts) (b : Bool) → list_any (same entry.key) cited ≡ b → cond b (crossref_text entry) None ≡ Some t → (crossref_text entry ≡ Some t) × (list_any (same entry.key) cited ≡ true)
      by_key entry true has says = (says, has)
      by_key entry false has says = absurd (none-some t says)

      by_entry : (o : Option EntryTexts) → slice_get entries i ≡ o → option_and_then (counted_text cited) o ≡ Some t
          → (entry : EntryTexts) × (slice_get entries i ≡ Some entry) × (crossref_text entry ≡ Some t) × (list_any (same entry.key) cited ≡ true)
      by_entry None at says = absurd (none-some t says)
      by_entry (Some entry) at says = let one = by_key entry (list_any (same entry.key) cited) refl says in (entry, at, one.0, one.1)

pub key_of : (entries : List EntryTexts) (i : ℕ) (x : Text) → is_key_of (slice_get entries i) x ≡ true → (entry : EntryTexts) × (slice_get entries i ≡ Some entry) × (same entry.key x ≡ true)
key_of entries i x is = split (slice_get entries i) refl is
  where
    split : (o : Option EntryTexts) → slice_get entries i ≡ o → is_key_of o x ≡ true → (entry : EntryTexts) × (slice_get entries i ≡ Some entry) × (same entry.key x ≡ true)
    split None at is = absurd (true≢false (sym is))
    split (Some entry) at is = (entry, at, is)

pub text_of : (o : Option Text) (x : Text) → is_text o x ≡ true → (t : Text) × (o ≡ Some t) × (same t x ≡ true)
text_of None x is = absurd (true≢false (sym is))
text_of (Some t) x is = (t, refl, is)

-- ---- files without repeated keys, whose parents are last

module _ (entries : List EntryTexts) (cited : List Text) (ord : IsOrdinary entries) (last : ParentsAreLast entries) where
  -- one entry has a key
  pub only_one : (i j : ℕ) (x : Text) → is_key_of (slice_get entries i) x ≡ true → is_key_of (slice_get entries j) x ≡ true → i ≡ j
  only_one i j x one other =
      let e = key_of entries i x one in
      let f = key_of entries j x other in
      ⊎_elim (λ is. eqb-true i j is)
      (λ differs. absurd (true≢false (sym (true-same e.0.key f.0.key (same-true e.0.key x e.2 ∙ sym (same-true f.0.key x f.2)))
      ∙ ord.keys_differ i j e.0.key f.0.key (key_get entries i e.0 e.1) (key_get entries j f.0 f.1) (λ is. true≢false (sym (eq-eqb i j is) ∙ differs)))))
      (cases_Bool (i == j))

  pub entry_there : (n m : ℕ) (x : Text) → is_key_of (slice_get entries m) x ≡ true → m < n → (place_after entries cited n x).entry ≡ Some m
  entry_there zero m x has less = absurd (not-suc-le-zero less)
  entry_there (suc n) m x has less =
      step_entry_is cited n (place_after entries cited n) x (slice_get entries n)
      ∙ split (is_key_of (slice_get entries n) x) refl (λ before. entry_there n m x has before)
    where
      split : (b : Bool) → is_key_of (slice_get entries n) x ≡ b → (m < n → (place_after entries cited n x).entry ≡ Some m) → cond b (Some n) (place_after entries cited n x).entry ≡ Some m
      split true here rest = ap (λ (k : ℕ). Some k) (only_one n m x here has)
      split false gone rest = ⊎_elim
          (λ at. absurd (true≢false (sym has ∙ ap (λ (k : ℕ). is_key_of (slice_get entries k) x) at ∙ gone)))
          rest
          (eq-or-lt_of_le (le_of_suc-le-suc less))

  -- an entry whose crossref is a key has the entry with the key as its target
  pub names_target : (n m : ℕ) (entry other : EntryTexts) (t : Text) → slice_get entries n ≡ Some entry → crossref_text entry ≡ Some t → slice_get entries m ≡ Some other
      → same t other.key ≡ true → target entries n ≡ Some m
  names_target n m entry other t at says there is =
      ap (option_and_then (target_of entries)) at
      ∙ ap (option_and_then (entry_named entries)) says
      ∙ only_named entries ord.keys_differ t m other there is (λ nothing. ord.no_empty n m entry other at there (says ∙ ap (λ (u : Text). Some u) nothing))

  pub target_is_parent : (n m : ℕ) → target entries n ≡ Some m → parent entries n ≡ Some m
  target_is_parent n m is =
      ap (option_and_then (other_than n)) is
      ∙ cond-false (m == n) None (Some m) (ne_eqb m n (λ (e : m ≡ n). ord.no_self n (is ∙ ap (λ (k : ℕ). Some k) e)))

  pub names_parent : (n m : ℕ) (entry other : EntryTexts) (t : Text) → slice_get entries n ≡ Some entry → crossref_text entry ≡ Some t → slice_get entries m ≡ Some other
      → same t other.key ≡ true → parent entries n ≡ Some m
  names_parent n m entry other t at says there is = target_is_parent n m (names_target n m entry other t at says there is)

  module _ (n : ℕ) (entry : EntryTexts) (at : slice_get entries n ≡ Some entry) where
    abbrev xs : List Text
    xs = texts_after entries cited n

    abbrev f : Text → Place
    f = place_after entries cited n

    free : (x : Text) → same entry.key x ≡ true → (f x).entry ≡ None
    free x is = split (f x).entry refl
      where
        split : (o : Option ℕ) → (f x).entry ≡ o → o ≡ None
        split None held = refl
        split (Some m) held =
            let one = entry_from entries cited n x m held in
            let less : m < n = one.0 in
            let same_ : m ≡ n = only_one m n x one.1 (ap (λ (o : Option EntryTexts). is_key_of o x) at ∙ is) in
            absurd (omega (arith, less, same_))

    -- an entry that is named, and not cited, has no crossref
    pub silent : (k : ℕ) → list_any (same entry.key) (texts_after entries cited k) ≡ true → list_any (same entry.key) cited ≡ false → crossref_text entry ≡ None
    silent k known other = ⊎_elim
        (λ is. absurd (true≢false (sym is ∙ other)))
        (λ named.
        let one = counted_from entries cited named.0 named.1 named.3 in
        last.no_chain named.0 n entry (names_parent named.0 n one.0 entry named.1 one.1 one.2 at (same_comm named.1 entry.key ∙ named.4)) at)
        (there_from entries cited k entry.key known)

    fresh : (t : Text) → crossref_text entry ≡ Some t → list_any (same t) xs ≡ false → if_named t (if_held entry n f) t ≡ named_place t
    fresh t says new =
        cond-true (same t t) (named_again (if_held entry n f t)) (if_held entry n f t) (true-same t t refl)
        ∙ ap named_again (cond-false (same entry.key t) (held_by entry n (f t)) (f t) not_own ∙ place_unmet entries cited n t not_before not_named)
        ∙ ap (λ (b : Bool). let p : Place = record { spelled = t; entry = None; count = 1; is_cited = b } in p) not_cited
      where
        not_own : same entry.key t ≡ false
        not_own = false_from_ne_true (same entry.key t) (λ is. ord.no_self n (names_target n n entry entry t at says at (same_comm t entry.key ∙ is)))

        not_before : (i : ℕ) → i < n → is_key_of (slice_get entries i) t ≡ false
        not_before i less = false_from_ne_true (is_key_of (slice_get entries i) t) (λ is.
            let e = key_of entries i t is in
            let late : n < i = last.after n i (names_parent n i entry e.0 t at says e.1 (same_comm t e.0.key ∙ e.2)) in
            omega (arith, less, late))

        not_named : (i : ℕ) → i < n → is_text (cited_text entries cited i) t ≡ false
        not_named i less = false_from_ne_true (is_text (cited_text entries cited i) t) (λ is.
            let s = text_of (cited_text entries cited i) t is in
            true≢false (sym (sym (any_alike s.0 t xs s.2) ∙ named_there entries cited n i s.0 less s.1) ∙ new))

        not_cited : list_any (same t) cited ≡ false
        not_cited = false_from_ne_true (list_any (same t) cited) (λ is. true≢false (sym (cited_there entries cited t is n) ∙ new))

    pub entry_read : Differ cited → read_entry entry n (map f xs) ≡ map (place_after entries cited (suc n)) (texts_after entries cited (suc n))
    entry_read differ =
        read_is entry n f (place_keeps entries cited n) (list_any (same entry.key) cited) xs (texts_differ entries cited differ n) free
        (λ unknown. false_from_ne_true (list_any (same entry.key) cited) (λ is. true≢false (sym (cited_there entries cited entry.key is n) ∙ unknown)))
        (silent n) (λ t says is new. fresh t says new)
        ∙ ap (λ (o : Option EntryTexts). map (place_step cited o n f) (texts_read (option_and_then (counted_text cited) o) xs)) (sym at)

  pub all_read : Differ cited → (n : ℕ) (rest : List EntryTexts) → IsRest entries n rest
      → read_entries n (map (place_after entries cited n) (texts_after entries cited n)) rest ≡ map (place_after entries cited (n + length rest)) (texts_after entries cited (n + length rest))
  all_read differ n [] are = let same_ : n ≡ n + 0 = omega arith in ap (λ (k : ℕ). map (place_after entries cited k) (texts_after entries cited k)) same_
  all_read differ n (entry ∷ rest) are =
      ap (λ (ps : List Place). read_entries (suc n) ps rest) (entry_read n entry (rest_head entries n entry rest are) differ)
      ∙ all_read differ (suc n) rest (rest_tail entries n entry rest are)
      ∙ (let is : suc n + length rest ≡ n + suc (length rest) = omega arith in ap (λ (k : ℕ). map (place_after entries cited k) (texts_after entries cited k)) is)
