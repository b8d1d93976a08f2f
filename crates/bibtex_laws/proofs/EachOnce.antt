-- The cited keys, each once: the entries that they find are those that the list finds, each once.
use Rattle.std.proofs.Common.{◌≡◌, ◌∙◌, ℕ, zero, suc, ◌==◌, Bool, true, false, cond, not, ◌||◌, List, [], ◌∷◌, ◌++◌, Option, Some, None, slice_get, filter, filter_map, refl, sym, ap, ap₂, subst, ne_eqb}
use Rattle.std.specs.List.{list_any, cons_option, AllByRecursion}
use Rattle.std.proofs.lemmas.Bool.{or_parts, or_left, or_right, and_parts, not_from_false, true≢false}
use Rattle.std.proofs.lemmas.Option.{none-some, same_Some}
use Rattle.bib_spec.specs.Text.{Text, folded, same}
use Rattle.bib_spec.specs.Texts.{is_empty}
use Rattle.bib_spec.specs.Records.{EntryTexts, keys_of, entry_named, once}
use Rattle.bib_spec.proofs.Names.{same-true, true-same, same_comm}
use Rattle.bib_spec.proofs.Places.{first_is, first_named_same}
use Rattle.bibtex_spec.specs.Places.{is_star, each_once, cited_keys}
use Rattle.bibtex_laws.proofs.KeyPlaces.{Differ}
use Rattle.bibtex_laws.proofs.NumberLists.{is_itself}

-- ---- facts of all elements

pub all_weaker : {X : Type 0} (P Q : X → Type 0) → ((x : X) → P x → Q x) → (xs : List X) → AllByRecursion P xs → AllByRecursion Q xs
all_weaker P Q weaker [] all = tt
all_weaker P Q weaker (x ∷ xs) all = (weaker x all.0, all_weaker P Q weaker xs all.1)

pub all_both : {X : Type 0} (P Q R : X → Type 0) → ((x : X) → P x → Q x → R x) → (xs : List X) → AllByRecursion P xs → AllByRecursion Q xs → AllByRecursion R xs
all_both P Q R both [] all other = tt
all_both P Q R both (x ∷ xs) all other = (both x all.0 other.0, all_both P Q R both xs all.1 other.1)

pub all_joined : {X : Type 0} (P : X → Type 0) (xs ys : List X) → AllByRecursion P xs → AllByRecursion P ys → AllByRecursion P (xs ++ ys)
all_joined P [] ys all other = other
all_joined P (x ∷ xs) ys all other = (all.0, all_joined P xs ys all.1 other)

pub all_at : {X : Type 0} (P : X → Type 0) (xs : List X) (i : ℕ) (x : X) → AllByRecursion P xs → slice_get xs i ≡ Some x → P x
all_at P [] i x all at = absurd (none-some x at)
all_at P (y ∷ ys) zero x all at = subst P (same_Some y x at) all.0
all_at P (y ∷ ys) (suc i) x all at = all_at P ys i x all.1 at

all_filtered : {X : Type 0} (P : X → Type 0) (p : X → Bool) (xs : List X) → AllByRecursion P xs → AllByRecursion P (filter p xs)
all_filtered P p [] all = tt
all_filtered P p (x ∷ xs) all = split (p x) (all_filtered P p xs all.1)
  where
    split : (b : Bool) → AllByRecursion P (filter p xs) → AllByRecursion P (cond b (x ∷ filter p xs) (filter p xs))
    split true rest = (all.0, rest)
    split false rest = rest

pub all_once : (P : Text → Type 0) (keys : List Text) → AllByRecursion P keys → AllByRecursion P (each_once keys)
all_once P [] all = tt
all_once P (key ∷ keys) all = (all.0, all_filtered P (λ other. not (same other key)) (each_once keys) (all_once P keys all.1))

-- each text is among the texts
pub all_itself : (xs : List Text) → AllByRecursion (λ x. list_any (same x) xs ≡ true) xs
all_itself [] = tt
all_itself (x ∷ xs) = (
  or_left (same x x) (list_any (same x) xs) (true-same x x refl),
  all_weaker (λ y. list_any (same y) xs ≡ true) (λ y. (same y x || list_any (same y) xs) ≡ true) (λ y is. or_right (same y x) (list_any (same y) xs) is) xs (all_itself xs),
)

-- ---- texts that differ

filter_none : (p : Text → Bool) (k : Text) (xs : List Text) → list_any (same k) xs ≡ false → list_any (same k) (filter p xs) ≡ false
filter_none p k [] none_ = refl
filter_none p k (x ∷ xs) none_ = let both = or_parts (same k x) (list_any (same k) xs) none_ in split (p x) both.0 (filter_none p k xs both.1)
  where
    split : (b : Bool) → same k x ≡ false → list_any (same k) (filter p xs) ≡ false → list_any (same k) (cond b (x ∷ filter p xs) (filter p xs)) ≡ false
    split true other rest = ap₂ (λ (c d : Bool). c || d) other rest
    split false other rest = rest

filter_differ : (p : Text → Bool) (xs : List Text) → Differ xs → Differ (filter p xs)
filter_differ p [] differ = tt
filter_differ p (x ∷ xs) differ = split (p x) (filter_differ p xs differ.1)
  where
    split : (b : Bool) → Differ (filter p xs) → Differ (cond b (x ∷ filter p xs) (filter p xs))
    split true rest = (filter_none p x xs differ.0, rest)
    split false rest = rest

filter_other : (k : Text) (xs : List Text) → list_any (same k) (filter (λ other. not (same other k)) xs) ≡ false
filter_other k [] = refl
filter_other k (x ∷ xs) = split (same x k) refl (filter_other k xs)
  where
    split : (b : Bool) → same x k ≡ b → list_any (same k) (filter (λ other. not (same other k)) xs) ≡ false
        → list_any (same k) (cond (not b) (x ∷ filter (λ other. not (same other k)) xs) (filter (λ other. not (same other k)) xs)) ≡ false
    split true is rest = rest
    split false other rest = ap₂ (λ (c d : Bool). c || d) (same_comm k x ∙ other) rest

pub each_differ : (keys : List Text) → Differ (each_once keys)
each_differ [] = tt
each_differ (key ∷ keys) = (filter_other key (each_once keys), filter_differ (λ other. not (same other key)) (each_once keys) (each_differ keys))

-- the second texts are the same as none of the first, and differ
pub differ_parts : (xs ys : List Text) → Differ (xs ++ ys) → AllByRecursion (λ y. list_any (same y) xs ≡ false) ys × Differ ys
differ_parts [] ys differ = (all_false ys, differ)
  where
    all_false : (zs : List Text) → AllByRecursion (λ (y : Text). false ≡ false) zs
    all_false [] = tt
    all_false (z ∷ zs) = (refl, all_false zs)
differ_parts (x ∷ xs) ys differ =
    let rest = differ_parts xs ys differ.1 in
    (all_both (λ y. same y x ≡ false) (λ y. list_any (same y) xs ≡ false) (λ y. (same y x || list_any (same y) xs) ≡ false) (λ y one two. ap₂ (λ (c d : Bool). c || d) one two) ys (others xs ys differ.0) rest.0, rest.1)
  where
    here : (zs : List Text) → list_any (same x) zs ≡ false → AllByRecursion (λ y. same y x ≡ false) zs
    here [] none_ = tt
    here (z ∷ zs) none_ = let both = or_parts (same x z) (list_any (same x) zs) none_ in (same_comm z x ∙ both.0, here zs both.1)

    others : (us zs : List Text) → list_any (same x) (us ++ zs) ≡ false → AllByRecursion (λ y. same y x ≡ false) zs
    others [] zs none_ = here zs none_
    others (u ∷ us) zs none_ = others us zs (or_parts (same x u) (list_any (same x) (us ++ zs)) none_).1

-- ---- a list without `*`

not_stars : (keys : List Text) → list_any is_star keys ≡ false → filter (λ key. not (is_star key)) keys ≡ keys
not_stars [] none_ = refl
not_stars (key ∷ keys) none_ =
    let both = or_parts (is_star key) (list_any is_star keys) none_ in
    ap₂ (λ (b : Bool) (l : List Text). cond b (key ∷ l) l) (not_from_false (is_star key) both.0) (not_stars keys both.1)

pub cited_are : (keys : List Text) → list_any is_star keys ≡ false → cited_keys keys ≡ each_once keys
cited_are keys none_ = ap each_once (not_stars keys none_)

-- ---- the entries that they find

module _ (entries : List EntryTexts) where
  -- texts that find one entry are the same
  pub finders_same : (a b : Text) (m : ℕ) → entry_named entries a ≡ Some m → entry_named entries b ≡ Some m → same a b ≡ true
  finders_same a b m one other =
      let first = first_is a (keys_of entries) m one in
      let second = first_is b (keys_of entries) m other in
      true-same a b
      (sym (same-true first.key a (and_parts (not (is_empty first.key)) (same first.key a) first.named).1)
      ∙ ap folded (same_Some first.key second.key (sym first.stands ∙ second.stands))
      ∙ same-true second.key b (and_parts (not (is_empty second.key)) (same second.key b) second.named).1)

  module _ (k : Text) where
    abbrev others : List Text → List Text
    others xs = filter (λ other. not (same other k)) xs

    abbrev finds : List Text → List ℕ
    finds xs = filter_map (entry_named entries) xs

    same_finds : (x : Text) → same x k ≡ true → entry_named entries x ≡ entry_named entries k
    same_finds x is = first_named_same x k (keys_of entries) (same-true x k is)

    strip_none : entry_named entries k ≡ None → (xs : List Text) → finds (others xs) ≡ finds xs
    strip_none none_ [] = refl
    strip_none none_ (x ∷ xs) = split (same x k) refl (strip_none none_ xs)
      where
        split : (b : Bool) → same x k ≡ b → finds (others xs) ≡ finds xs → finds (cond (not b) (x ∷ others xs) (others xs)) ≡ cons_option (entry_named entries x) (finds xs)
        split true is rest = rest ∙ sym (ap (λ (o : Option ℕ). cons_option o (finds xs)) (same_finds x is ∙ none_))
        split false other rest = ap (cons_option (entry_named entries x)) rest

    strip_some : (m : ℕ) → entry_named entries k ≡ Some m → (xs : List Text) → finds (others xs) ≡ filter (λ j. not (j == m)) (finds xs)
    strip_some m some [] = refl
    strip_some m some (x ∷ xs) = split (same x k) refl (strip_some m some xs)
      where
        without : List ℕ
        without = filter (λ j. not (j == m)) (finds xs)

        by_entry : (o : Option ℕ) → entry_named entries x ≡ o → same x k ≡ false → cons_option o without ≡ filter (λ j. not (j == m)) (cons_option o (finds xs))
        by_entry None is other = refl
        by_entry (Some j) is other = sym (ap (λ (b : Bool). cond (not b) (j ∷ without) without)
            (ne_eqb j m (λ (e : j ≡ m). true≢false (sym (finders_same x k m (is ∙ ap (λ (i : ℕ). Some i) e) some) ∙ other))))

        split : (b : Bool) → same x k ≡ b → finds (others xs) ≡ without → finds (cond (not b) (x ∷ others xs) (others xs)) ≡ filter (λ j. not (j == m)) (cons_option (entry_named entries x) (finds xs))
        split true is rest =
            rest
            ∙ sym (ap (λ (b : Bool). cond (not b) (m ∷ without) without) (is_itself m))
            ∙ sym (ap (λ (o : Option ℕ). filter (λ j. not (j == m)) (cons_option o (finds xs))) (same_finds x is ∙ some))
        split false other rest = ap (cons_option (entry_named entries x)) rest ∙ by_entry (entry_named entries x) refl other

  pub found_once : (keys : List Text) → filter_map (entry_named entries) (each_once keys) ≡ once (filter_map (entry_named entries) keys)
  found_once [] = refl
  found_once (key ∷ keys) = split (entry_named entries key) refl (found_once keys)
    where
      rest_of : List Text
      rest_of = filter (λ other. not (same other key)) (each_once keys)

      split : (o : Option ℕ) → entry_named entries key ≡ o → filter_map (entry_named entries) (each_once keys) ≡ once (filter_map (entry_named entries) keys)
          → cons_option o (filter_map (entry_named entries) rest_of) ≡ once (cons_option o (filter_map (entry_named entries) keys))
      split None none_ rest = strip_none key none_ (each_once keys) ∙ rest
      split (Some m) some rest = ap (λ (l : List ℕ). m ∷ l) (strip_some key m some (each_once keys) ∙ ap (filter (λ j. not (j == m))) rest)
