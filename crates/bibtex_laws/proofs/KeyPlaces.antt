-- Places that are made of texts, one for each, where no two of the texts are the same, folded.
use Rattle.std.proofs.Common.{◌≡◌, ◌∙◌, ℕ, Bool, true, false, cond, ◌||◌, List, [], ◌∷◌, ◌++◌, Option, Some, None, is_none, map, find, refl, sym, ap, ap₂}
use Rattle.std.specs.Bool.{⊤}
use Rattle.std.specs.List.{list_any}
use Rattle.std.specs.Option.{option_map_or}
use Rattle.std.proofs.lemmas.Bool.{cond-false, or_parts, true≢false}
use Rattle.std.proofs.lemmas.List.{map_push}
use Rattle.bib_spec.specs.Text.{Text, same}
use Rattle.bib_spec.specs.Records.{EntryTexts, crossref_text}
use Rattle.bibtex_spec.specs.Places.{Place, has_key, is_awaited, held_by, taken, named_place, named_again, named, named_in, read_entry}
use Rattle.bib_spec.proofs.Names.{same_comm}
use Rattle.bibtex_laws.proofs.SameNames.{same_alike}
use Rattle.bibtex_laws.proofs.StarPlaces.{any_alike}

-- no two of the texts are the same, folded
abbrev pub Differ : List Text → Type 0
Differ [] = ⊤
Differ (x ∷ xs) = (list_any (same x) xs ≡ false) × Differ xs

-- the text is added, unless one of the texts is the same
abbrev pub and_text : Text → List Text → List Text
and_text t xs = cond (list_any (same t) xs) xs (xs ++ t ∷ [])

-- the places have the keys that they are made of
abbrev pub KeepsKeys : (Text → Place) → Type 0
KeepsKeys f = (k x : Text) → same k (f x).spelled ≡ same k x

-- the place that f makes of the text, held by the entry if the text is its key
abbrev pub if_held : EntryTexts → ℕ → (Text → Place) → Text → Place
if_held entry n f x = cond (same entry.key x) (held_by entry n (f x)) (f x)

-- the place that f makes of the text, named once more if the text is this one
abbrev pub if_named : Text → (Text → Place) → Text → Place
if_named t f x = cond (same t x) (named_again (f x)) (f x)

-- a change of the places with this key changes nothing if there are none
map_unchanged : (k : Text) (f g : Text → Place) (xs : List Text) → list_any (same k) xs ≡ false → map (λ x. cond (same k x) (g x) (f x)) xs ≡ map f xs
map_unchanged k f g [] none_ = refl
map_unchanged k f g (x ∷ xs) none_ =
    let both = or_parts (same k x) (list_any (same k) xs) none_ in
    ap₂ ◌∷◌ (cond-false (same k x) (g x) (f x) both.0) (map_unchanged k f g xs both.1)

awaited_is : (k : Text) (f : Text → Place) → KeepsKeys f → ((x : Text) → same k x ≡ true → (f x).entry ≡ None) → (xs : List Text) → is_awaited k (map f xs) ≡ list_any (same k) xs
awaited_is k f keeps free [] = refl
awaited_is k f keeps free (x ∷ xs) =
    ap (λ (b : Bool). option_map_or (λ place. is_none place.entry) (cond b (Some (f x)) (find (has_key k) (map f xs))) false) (keeps k x)
    ∙ split (same k x) refl (awaited_is k f keeps free xs)
  where
    split : (b : Bool) → same k x ≡ b → is_awaited k (map f xs) ≡ list_any (same k) xs
        → option_map_or (λ (place : Place). is_none place.entry) (cond b (Some (f x)) (find (has_key k) (map f xs))) false ≡ (b || list_any (same k) xs)
    split true is rest = ap (λ (o : Option ℕ). is_none o) (free x is)
    split false is rest = rest

taken_is : (entry : EntryTexts) (n : ℕ) (f : Text → Place) → KeepsKeys f → (xs : List Text) → Differ xs → taken entry n (map f xs) ≡ map (if_held entry n f) xs
taken_is entry n f keeps [] differ = refl
taken_is entry n f keeps (x ∷ xs) differ =
    ap (λ (b : Bool). cond b (held_by entry n (f x) ∷ map f xs) (f x ∷ taken entry n (map f xs))) (keeps entry.key x)
    ∙ split (same entry.key x) refl (taken_is entry n f keeps xs differ.1)
  where
    split : (b : Bool) → same entry.key x ≡ b → taken entry n (map f xs) ≡ map (if_held entry n f) xs
        → cond b (held_by entry n (f x) ∷ map f xs) (f x ∷ taken entry n (map f xs)) ≡ cond b (held_by entry n (f x)) (f x) ∷ map (if_held entry n f) xs
    split true is rest = ap (λ (ps : List Place). held_by entry n (f x) ∷ ps) (sym (map_unchanged entry.key f (λ y. held_by entry n (f y)) xs (any_alike entry.key x xs is ∙ differ.0)))
    split false is rest = ap (λ (ps : List Place). f x ∷ ps) rest

named_is : (t : Text) (f : Text → Place) → KeepsKeys f → (xs : List Text) → Differ xs
    → named t (map f xs) ≡ cond (list_any (same t) xs) (map (if_named t f) xs) (map f xs ++ named_place t ∷ [])
named_is t f keeps [] differ = refl
named_is t f keeps (x ∷ xs) differ =
    ap (λ (b : Bool). cond b (named_again (f x) ∷ map f xs) (f x ∷ named t (map f xs))) (keeps t x)
    ∙ split (same t x) refl (named_is t f keeps xs differ.1)
  where
    later : (b : Bool) (ps qs : List Place) → f x ∷ cond b ps qs ≡ cond b (f x ∷ ps) (f x ∷ qs)
    later true ps qs = refl
    later false ps qs = refl

    split : (b : Bool) → same t x ≡ b → named t (map f xs) ≡ cond (list_any (same t) xs) (map (if_named t f) xs) (map f xs ++ named_place t ∷ [])
        → cond b (named_again (f x) ∷ map f xs) (f x ∷ named t (map f xs))
        ≡ cond (b || list_any (same t) xs) (cond b (named_again (f x)) (f x) ∷ map (if_named t f) xs) (f x ∷ (map f xs ++ named_place t ∷ []))
    split true is rest = ap (λ (ps : List Place). named_again (f x) ∷ ps) (sym (map_unchanged t f (λ y. named_again (f y)) xs (any_alike t x xs is ∙ differ.0)))
    split false is rest =
        ap (λ (ps : List Place). f x ∷ ps) rest
        ∙ later (list_any (same t) xs) (map (if_named t f) xs) (map f xs ++ named_place t ∷ [])

-- what reading an entry makes of the place of a text: the crossref is that of the entry, if it counts
abbrev pub place_read : EntryTexts → ℕ → Option Text → (Text → Place) → Text → Place
place_read entry n None f = if_held entry n f
place_read entry n (Some t) f = if_named t (if_held entry n f)

-- what reading an entry makes of the texts
abbrev pub texts_read : Option Text → List Text → List Text
texts_read None xs = xs
texts_read (Some t) xs = and_text t xs

module _ (entry : EntryTexts) (n : ℕ) (f : Text → Place) (keeps : KeepsKeys f) where
  pub held_keeps : KeepsKeys (if_held entry n f)
  held_keeps k x = split (same entry.key x) refl (f x).is_cited
    where
      split : (b : Bool) → same entry.key x ≡ b → (c : Bool) → same k (cond b (record { spelled = cond c (f x).spelled entry.key; entry = Some n; count = (f x).count; is_cited = (f x).is_cited }) (f x)).spelled ≡ same k x
      split true is true = keeps k x
      split true is false = same_comm k entry.key ∙ same_alike entry.key x k is ∙ same_comm x k
      split false is c = keeps k x

  map_named : (t : Text) (xs : List Text) → Differ xs → ((list_any (same t) xs) ≡ false → if_named t (if_held entry n f) t ≡ named_place t)
      → named t (map (if_held entry n f) xs) ≡ map (if_named t (if_held entry n f)) (and_text t xs)
  map_named t xs differ fresh = named_is t (if_held entry n f) held_keeps xs differ ∙ split (list_any (same t) xs) refl
    where
      g : Text → Place
      g = if_held entry n f

      split : (b : Bool) → list_any (same t) xs ≡ b → cond b (map (if_named t g) xs) (map g xs ++ named_place t ∷ []) ≡ map (if_named t g) (cond b xs (xs ++ t ∷ []))
      split true is = refl
      split false is =
          ap₂ (λ (ps : List Place) (p : Place). ps ++ p ∷ []) (sym (map_unchanged t g (λ y. named_again (g y)) xs is)) (sym (fresh is))
          ∙ sym (map_push (if_named t g) xs t)

  -- Entry n is read: its crossref counts if its key is cited. A key that has a place already awaits an entry; an entry whose
  -- key is not cited has no crossref if its key has a place.
  pub read_is : (is_cited_ : Bool) (xs : List Text) → Differ xs → ((x : Text) → same entry.key x ≡ true → (f x).entry ≡ None)
      → (list_any (same entry.key) xs ≡ false → is_cited_ ≡ false) → (list_any (same entry.key) xs ≡ true → is_cited_ ≡ false → crossref_text entry ≡ None)
      → ((t : Text) → crossref_text entry ≡ Some t → is_cited_ ≡ true → list_any (same t) xs ≡ false → if_named t (if_held entry n f) t ≡ named_place t)
      → read_entry entry n (map f xs) ≡ map (place_read entry n (cond is_cited_ (crossref_text entry) None) f) (texts_read (cond is_cited_ (crossref_text entry) None) xs)
  read_is is_cited_ xs differ free others silent fresh =
      ap (λ (b : Bool). cond b (named_in entry (taken entry n (map f xs))) (map f xs)) (awaited_is entry.key f keeps free xs)
      ∙ split (list_any (same entry.key) xs) refl is_cited_ refl
    where
      by_text : (o : Option Text) → crossref_text entry ≡ o → is_cited_ ≡ true
          → option_map_or (λ text. named text (taken entry n (map f xs))) o (taken entry n (map f xs)) ≡ map (place_read entry n o f) (texts_read o xs)
      by_text None says cited = taken_is entry n f keeps xs differ
      by_text (Some t) says cited = ap (named t) (taken_is entry n f keeps xs differ) ∙ map_named t xs differ (fresh t says cited)

      split : (b : Bool) → list_any (same entry.key) xs ≡ b → (c : Bool) → is_cited_ ≡ c
          → cond b (named_in entry (taken entry n (map f xs))) (map f xs) ≡ map (place_read entry n (cond c (crossref_text entry) None) f) (texts_read (cond c (crossref_text entry) None) xs)
      split true known true cited = by_text (crossref_text entry) refl cited
      split true known false cited =
          ap (λ (o : Option Text). option_map_or (λ text. named text (taken entry n (map f xs))) o (taken entry n (map f xs))) (silent known cited)
          ∙ taken_is entry n f keeps xs differ
      split false known true cited = absurd (true≢false (sym cited ∙ others known))
      split false known false cited = sym (map_unchanged entry.key f (λ y. held_by entry n (f y)) xs known)
