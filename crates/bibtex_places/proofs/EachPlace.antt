-- Places where `*` alone is cited and no two entries have one key.
use Rattle.std.proofs.Common.{codes, ◌≡◌, ◌∙◌, ℕ, ◌+◌, ◌≤◌, true, List, [], ◌∷◌, ◌++◌, Option, Some, None, is_none, slice_get, length, take, drop, map, refl, sym, ap, subst, arith, length-append}
use Rattle.std.proofs.lemmas.Bool.{true≢false}
use Rattle.std.proofs.lemmas.List.{length-map, map_push, take_all}
use Rattle.bib_spec.specs.Text.{Text}
use Rattle.bib_spec.specs.Records.{EntryTexts, keys_of, cites_all}
use Rattle.bib_spec.proofs.Names.{eq-true}
use Rattle.bibtex_spec.specs.Places.{Place, read_all}
use Rattle.bibtex_places.specs.KeyTables.{Numbers, number_of, FindsKeys}
use Rattle.bibtex_places.specs.Lists.{AreKeysOf, star_alone, ArePlacesOfEach}
use Rattle.bibtex_places.specs.Steps.{place_of}
use Rattle.bibtex_places.specs.declared.lists.EntryKey.{EntryKey}
use Rattle.bibtex_places.proofs.Entries.{given_at, given_long}
use Rattle.bibtex_places.proofs.ReadSteps.{any_new}
use Rattle.bibtex_places.proofs.Reading.{any_more, any_all, keys_next}

abbrev spelled : Place → Text
spelled place = place.spelled

-- each of the entries read so far, `n` of them, has its own place
pub record IsEach (given : List EntryKey) (n : ℕ) (places : List Place) (table : Numbers) : Type 0 where
  pub len : n ≡ length places
  pub finds : FindsKeys table (map spelled places)
  pub read : (texts : List EntryTexts) → AreKeysOf given texts → read_all [] n places (drop n texts) ≡ read_all [] 0 [] texts
  pub keys : (texts : List EntryTexts) → AreKeysOf given texts → map spelled places ≡ take n (keys_of texts)

pub each_start : (given : List EntryKey) (places : List Place) (table : Numbers) → places ≡ [] → FindsKeys table [] → IsEach given 0 places table
each_start given places table none finds = subst (λ (ps : List Place). IsEach given 0 ps table) (sym none) (record { len = refl; finds = finds; read = λ texts are. refl; keys = λ texts are. refl })

none_is : (o : Option ℕ) → is_none o ≡ true → o ≡ None
none_is None e = refl
none_is (Some n) e = absurd (true≢false (sym e))

-- one more entry, whose key no entry before it has
pub each_more : (given : List EntryKey) (n : ℕ) (g : EntryKey) (places new : List Place) (place : Place) (table more : Numbers) → slice_get given n ≡ Some g → IsEach given n places table
    → is_none (number_of table g.key.now) ≡ true → ((keys : List Text) → FindsKeys table keys → n ≡ length keys → FindsKeys more (keys ++ g.key.now ∷ []))
    → place ≡ place_of g.key.now n → new ≡ places ++ place ∷ [] → IsEach given (n + 1) new more
each_more given n g places new place table more at is free adds one grows = record {
  len = let long = ap (λ (ps : List Place). length ps) grown ∙ length-append places (place_of key n ∷ []) in let len = is.len in omega (arith, long, len);
  finds = subst (FindsKeys more) (sym keyed) (adds (map spelled places) is.finds (is.len ∙ sym (length-map places spelled)));
  read = λ texts are.
      let entry = given_at given texts are n g at in
      ap (λ (ps : List Place). read_all [] (n + 1) ps (drop (n + 1) texts))
      (grown ∙ ap (λ (k : Text). places ++ place_of k n ∷ []) (sym entry.2.key) ∙ any_new entry.0 n places key entry.2.key [] (sym (is.finds key) ∙ none_is (number_of table key) free))
      ∙ any_more (read_all [] 0 [] texts) [] texts n entry.0 places entry.1 (is.read texts are);
  keys = λ texts are.
      let entry = given_at given texts are n g at in
      keyed ∙ ap (λ (l : List Text). l ++ key ∷ []) (is.keys texts are) ∙ ap (λ (k : Text). take n (keys_of texts) ++ k ∷ []) (sym entry.2.key) ∙ sym (keys_next texts n entry.0 entry.1);
}
  where
    key : Text
    key = g.key.now

    grown : new ≡ places ++ place_of key n ∷ []
    grown = grows ∙ ap (λ (p : Place). places ++ p ∷ []) one

    keyed : map spelled new ≡ map spelled places ++ key ∷ []
    keyed = ap (map spelled) grown ∙ map_push spelled places (place_of key n)

-- all entries are read
pub each_all : (given : List EntryKey) (n : ℕ) (places : List Place) (table : Numbers) → length given ≤ n → IsEach given n places table → (texts : List EntryTexts) → AreKeysOf given texts → ArePlacesOfEach texts star_alone places
each_all given n places table end is texts are =
    let long = given_long given texts are in
    let all = length-map texts (λ (entry : EntryTexts). entry.key) in
    record {
      are = any_all (read_all [] 0 [] texts) [] texts n places (omega (arith, end, long)) (is.read texts are);
      spelled = is.keys texts are ∙ take_all n (keys_of texts) (omega (arith, end, long, all));
    }

-- a list that cites all by one key is `*` alone
pub alone : (keys : List Text) → cites_all keys ≡ true → star_alone ≡ keys
alone [] e = absurd (true≢false (sym e))
alone (key ∷ []) e = ap (λ (k : Text). k ∷ []) (sym (eq-true key (codes "*") e))
alone (key ∷ other ∷ keys) e = absurd (true≢false (sym e))

-- a table that finds the keys of the places finds those of the entries
pub each_finds : (texts : List EntryTexts) (keys : List Text) (places : List Place) (table : Numbers) → ArePlacesOfEach texts keys places → FindsKeys table (map spelled places) → FindsKeys table (keys_of texts)
each_finds texts keys places table each finds = subst (FindsKeys table) each.spelled finds
