-- Listed entries, one place after another.
use Rattle.std.proofs.Common.{◌≡◌, ◌∙◌, ℕ, zero, suc, ◌+◌, ◌≤◌, Bool, true, false, ◌||◌, List, [], ◌∷◌, ◌++◌, Option, Some, slice_get, length, take, filter_map, refl, sym, ap, arith, zero-add}
use Rattle.std.specs.List.{list_any, enumerate_from, cons_option}
use Rattle.std.proofs.lemmas.List.{take_all}
use Rattle.std.proofs.lemmas.List.Elements.{filter_map-append}
use Rattle.std.proofs.lemmas.Option.{none-some, same_Some}
use Rattle.bib_spec.specs.Text.{Text}
use Rattle.bib_spec.specs.Records.{EntryTexts}
use Rattle.bibtex_spec.specs.Places.{Place}
use Rattle.bibtex_places.specs.declared.lists.BibtexEntry.{BibtexEntry}
use Rattle.bibtex_places.specs.Lists.{entry_at, is_deep_at}

-- ---- lists with numbers

pub enumerate_at : {X : Type 0} (from : ℕ) (xs : List X) (i : ℕ) (x : X) → slice_get xs i ≡ Some x → slice_get (enumerate_from from xs) i ≡ Some (from + i, x)
enumerate_at from [] i x at = absurd (none-some x at)
enumerate_at {X} from (y ∷ xs) zero x at =
    let e : from ≡ from + 0 = omega arith in ap (λ (z : X). Some (from, z)) (same_Some y x at) ∙ ap (λ n. Some (n, x)) e
enumerate_at from (y ∷ xs) (suc i) x at =
    let e : from + 1 + i ≡ from + suc i = omega arith in enumerate_at (from + 1) xs i x at ∙ ap (λ n. Some (n, x)) e

take_suc : {X : Type 0} (xs : List X) (i : ℕ) (x : X) → slice_get xs i ≡ Some x → take (suc i) xs ≡ take i xs ++ x ∷ []
take_suc [] i x at = absurd (none-some x at)
take_suc {X} (y ∷ xs) zero x at = ap (λ (z : X). z ∷ []) (same_Some y x at)
take_suc (y ∷ xs) (suc i) x at = ap (λ l. y ∷ l) (take_suc xs i x at)

pub take_next : {X : Type 0} (xs : List X) (i : ℕ) (x : X) → slice_get xs i ≡ Some x → take (i + 1) xs ≡ take i xs ++ x ∷ []
take_next xs i x at = let e : i + 1 ≡ suc i = omega arith in ap (λ n. take n xs) e ∙ take_suc xs i x at

pub length-enumerate : {X : Type 0} (from : ℕ) (xs : List X) → length (enumerate_from from xs) ≡ length xs
length-enumerate from [] = refl
length-enumerate from (x ∷ xs) = ap suc (length-enumerate (from + 1) xs)

any_push : {X : Type 0} (p : X → Bool) (xs : List X) (x : X) → list_any p (xs ++ x ∷ []) ≡ (list_any p xs || p x)
any_push p [] x = at (p x)
  where
    at : (b : Bool) → (b || false) ≡ b
    at true = refl
    at false = refl
any_push p (y ∷ xs) x = ap (λ b. p y || b) (any_push p xs x) ∙ at (p y)
  where
    at : (b : Bool) → (b || (list_any p xs || p x)) ≡ ((b || list_any p xs) || p x)
    at true = refl
    at false = refl

any_at : {X : Type 0} (p : X → Bool) (xs : List X) (i : ℕ) (x : X) → slice_get xs i ≡ Some x → p x ≡ true → list_any p xs ≡ true
any_at p [] i x at e = absurd (none-some x at)
any_at {X} p (y ∷ xs) zero x at e = ap (λ (z : X). p z || list_any p xs) (same_Some y x at) ∙ ap (λ b. b || list_any p xs) e
any_at p (y ∷ xs) (suc i) x at e = ap (λ b. p y || b) (any_at p xs i x at e) ∙ or_true (p y)
  where
    or_true : (b : Bool) → (b || true) ≡ true
    or_true true = refl
    or_true false = refl

-- what a function gives of one more element
pub filter_map_next : {X Y : Type 0} (h : X → Option Y) (xs : List X) (i : ℕ) (x : X) (list more : List Y) (o : Option Y) → slice_get xs i ≡ Some x → list ≡ filter_map h (take i xs) → o ≡ h x
    → more ≡ list ++ cons_option o [] → more ≡ filter_map h (take (i + 1) xs)
filter_map_next h xs i x list more o at so_far is pushed =
    pushed
    ∙ ap (λ l. l ++ cons_option o []) so_far
    ∙ ap (λ q. filter_map h (take i xs) ++ cons_option q []) is
    ∙ sym (ap (filter_map h) (take_next xs i x at) ∙ filter_map-append h (take i xs) (x ∷ []))

-- ---- the list so far

abbrev numbered : List Place → List (ℕ × Place)
numbered places = enumerate_from 0 places

-- the listed entries of the places before place i, none of which inherits from too many
pub record AreListed (texts : List EntryTexts) (keys : List Text) (least : ℕ) (places : List Place) (listed : List BibtexEntry) (i : ℕ) : Type 0 where
  pub entries : listed ≡ filter_map (entry_at texts keys least places) (take i (numbered places))
  pub short : list_any (is_deep_at texts keys least places) (take i (numbered places)) ≡ false

pub listed_none : (texts : List EntryTexts) (keys : List Text) (least : ℕ) (places : List Place) (listed : List BibtexEntry) → listed ≡ [] → AreListed texts keys least places listed 0
listed_none texts keys least places listed is = record { entries = is; short = refl }

module _ (texts : List EntryTexts) (keys : List Text) (least : ℕ) (places : List Place) where
  numbered_at : (i : ℕ) (place : Place) → slice_get places i ≡ Some place → slice_get (numbered places) i ≡ Some (i, place)
  numbered_at i place at = enumerate_at 0 places i place at ∙ ap (λ n. Some (n, place)) (zero-add i)

  pub listed_more : (listed more : List BibtexEntry) (i : ℕ) (place : Place) (o : Option BibtexEntry) → AreListed texts keys least places listed i → slice_get places i ≡ Some place
      → o ≡ entry_at texts keys least places (i, place) → is_deep_at texts keys least places (i, place) ≡ false → more ≡ listed ++ cons_option o [] → AreListed texts keys least places more (i + 1)
  listed_more listed more i place o h at is short pushed =
      let next = take_next (numbered places) i (i, place) (numbered_at i place at) in
      record {
        entries =
            pushed
            ∙ ap (λ l. l ++ cons_option o []) h.entries
            ∙ ap (λ o. filter_map (entry_at texts keys least places) (take i (numbered places)) ++ cons_option o []) is
            ∙ sym (filter_map-append (entry_at texts keys least places) (take i (numbered places)) ((i, place) ∷ []))
            ∙ ap (filter_map (entry_at texts keys least places)) (sym next);
        short =
            ap (list_any (is_deep_at texts keys least places)) next
            ∙ any_push (is_deep_at texts keys least places) (take i (numbered places)) (i, place)
            ∙ ap (λ b. b || is_deep_at texts keys least places (i, place)) h.short
            ∙ short;
      }

  pub listed_all : (listed : List BibtexEntry) (i : ℕ) → AreListed texts keys least places listed i → length places ≤ i
      → (listed ≡ filter_map (entry_at texts keys least places) (numbered places)) × (list_any (is_deep_at texts keys least places) (numbered places) ≡ false)
  listed_all listed i h le =
      let long = length-enumerate 0 places in
      let all = take_all i (numbered places) (omega (arith, long, le)) in
      (h.entries ∙ ap (filter_map (entry_at texts keys least places)) all, ap (list_any (is_deep_at texts keys least places)) (sym all) ∙ h.short)

  pub deep_at : (i : ℕ) (place : Place) → slice_get places i ≡ Some place → is_deep_at texts keys least places (i, place) ≡ true → list_any (is_deep_at texts keys least places) (numbered places) ≡ true
  deep_at i place at e = any_at (is_deep_at texts keys least places) (numbered places) i (i, place) (numbered_at i place at) e
