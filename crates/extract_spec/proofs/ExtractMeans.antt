-- Entries with all their targets mean among themselves what they mean among all.
use Rattle.std.proofs.Common.{◌≡◌, ℕ, zero, suc, ◌+◌, ◌==◌, ◌||◌, ◌++◌, Bool, true, cond, List, [], ◌∷◌, Option, Some, None, option_map, option_and_then, slice_get, map, ⊎_elim, refl, sym, ◌∙◌, ap, ap₂, subst, zero-add}
use Rattle.std.specs.List.{list_any, AllByRecursion}
use Rattle.std.specs.Option.{option_map_or}
use Rattle.std.proofs.lemmas.Bool.{cases_Bool, cond-true, cond-false}
use Rattle.std.proofs.lemmas.Option.{none-some, same_Some}
use Rattle.bib_spec.specs.Text.{Text, folded}
use Rattle.bib_spec.specs.Records.{EntryTexts, Record, RecordField, keys_of, first_named, entry_named, crossref_text, target_of, target, other_than, parent, unvisited, ancestors, ancestors_from, own_fields, missing, fields_at, with_inherited, record_of, expanded}
use Rattle.bib_spec.proofs.Keys.{option_cases}
use Rattle.extract_spec.specs.Extract.{picked, number_in}
use Rattle.extract_spec.specs.Laws.{IsClosed, closed_entries_mean_alike}
use Rattle.extract_spec.proofs.PickedEntries.{at_number, eq-number, keys-picked, first_picked, none_picked}

module _ (keeps : ℕ → Bool) (entries : List EntryTexts) (closed : IsClosed keeps entries) where
  pub from_zero : (n : ℕ) → keeps n ≡ true → keeps (0 + n) ≡ true
  from_zero n h = subst (λ a. keeps a ≡ true) (sym (zero-add n)) h

  entry_at : (n : ℕ) → keeps n ≡ true → slice_get (picked keeps 0 entries) (number_in keeps 0 n) ≡ slice_get entries n
  entry_at n h = at_number keeps 0 n entries (from_zero n h)

  pub named_some : (text : Text) (t : ℕ) → entry_named entries text ≡ Some t → keeps t ≡ true → entry_named (picked keeps 0 entries) text ≡ Some (number_in keeps 0 t)
  named_some text t e h = ap (first_named text) (keys-picked keeps 0 entries) ∙ first_picked keeps text 0 (keys_of entries) t e (from_zero t h)

  pub named_none : (text : Text) → entry_named entries text ≡ None → entry_named (picked keeps 0 entries) text ≡ None
  named_none text e = ap (first_named text) (keys-picked keeps 0 entries) ∙ none_picked keeps text 0 (keys_of entries) e

  target_of_alike : (n : ℕ) (entry : EntryTexts) → keeps n ≡ true → slice_get entries n ≡ Some entry → target_of (picked keeps 0 entries) entry ≡ option_map (number_in keeps 0) (target_of entries entry)
  target_of_alike n entry h at =
      let few = picked keeps 0 entries in
      let G : Option Text → Option ℕ = λ o. option_map (number_in keeps 0) (option_and_then (entry_named entries) o) in ⊎_elim
      (λ none. ap (option_and_then (entry_named few)) none ∙ sym (ap G none))
      (λ some. ap (option_and_then (entry_named few)) some.1 ∙ ⊎_elim
      (λ lost. named_none some.0 lost ∙ sym (ap (option_map (number_in keeps 0)) lost))
      (λ found. named_some some.0 found.0 found.1
      (closed n found.0 h (ap (option_and_then (target_of entries)) at ∙ ap (option_and_then (entry_named entries)) some.1 ∙ found.1))
      ∙ sym (ap (option_map (number_in keeps 0)) found.1))
      (option_cases (entry_named entries some.0))
      ∙ sym (ap G some.1))
      (option_cases (crossref_text entry))

  pub target_alike : (n : ℕ) → keeps n ≡ true → target (picked keeps 0 entries) (number_in keeps 0 n) ≡ option_map (number_in keeps 0) (target entries n)
  target_alike n h =
      let few = picked keeps 0 entries in
      let G : Option EntryTexts → Option ℕ = λ o. option_map (number_in keeps 0) (option_and_then (target_of entries) o) in
      ap (option_and_then (target_of few)) (entry_at n h) ∙ ⊎_elim
      (λ none. ap (option_and_then (target_of few)) none ∙ sym (ap G none))
      (λ some. ap (option_and_then (target_of few)) some.1 ∙ target_of_alike n some.0 h some.1 ∙ sym (ap G some.1))
      (option_cases (slice_get entries n))

  other_alike : (n t : ℕ) → keeps n ≡ true → keeps t ≡ true → other_than (number_in keeps 0 n) (number_in keeps 0 t) ≡ option_map (number_in keeps 0) (other_than n t)
  other_alike n t h k =
      let number = number_in keeps 0 in
      ap (λ b. cond b None (Some (number t))) (eq-number keeps 0 t n (from_zero t k) (from_zero n h)) ∙ ⊎_elim
      (λ e. cond-true (t == n) None (Some (number t)) e ∙ sym (ap (option_map number) (cond-true (t == n) None (Some t) e)))
      (λ e. cond-false (t == n) None (Some (number t)) e ∙ sym (ap (option_map number) (cond-false (t == n) None (Some t) e)))
      (cases_Bool (t == n))

  pub parent_alike : (n : ℕ) → keeps n ≡ true → parent (picked keeps 0 entries) (number_in keeps 0 n) ≡ option_map (number_in keeps 0) (parent entries n)
  parent_alike n h =
      let number = number_in keeps 0 in
      let F : Option ℕ → Option ℕ = λ o. option_and_then (other_than (number n)) o in
      let G : Option ℕ → Option ℕ = λ o. option_map number (option_and_then (other_than n) o) in
      ap F (target_alike n h) ∙ ⊎_elim
      (λ none. ap (λ o. F (option_map number o)) none ∙ sym (ap G none))
      (λ some. ap (λ o. F (option_map number o)) some.1 ∙ other_alike n some.0 h (closed n some.0 h some.1) ∙ sym (ap G some.1))
      (option_cases (target entries n))

  pub parent_kept : (n p : ℕ) → keeps n ≡ true → parent entries n ≡ Some p → keeps p ≡ true
  parent_kept n p h e =
      let F : Option ℕ → Option ℕ = λ o. option_and_then (other_than n) o in ⊎_elim
      (λ none. absurd (none-some p (sym (ap F none) ∙ e)))
      (λ some. ⊎_elim
      (λ own. absurd (none-some p (sym (cond-true (some.0 == n) None (Some some.0) own) ∙ sym (ap F some.1) ∙ e)))
      (λ other. subst (λ m. keeps m ≡ true) (same_Some some.0 p (sym (cond-false (some.0 == n) None (Some some.0) other) ∙ sym (ap F some.1) ∙ e)) (closed n some.0 h some.1))
      (cases_Bool (some.0 == n)))
      (option_cases (target entries n))

  visited_alike : (visited : List ℕ) (p : ℕ) → AllByRecursion (λ m. keeps m ≡ true) visited → keeps p ≡ true →
      list_any (λ v. v == number_in keeps 0 p) (map (number_in keeps 0) visited) ≡ list_any (λ v. v == p) visited
  visited_alike [] p all h = refl
  visited_alike (v ∷ visited) p all h = ap₂ ◌||◌ (eq-number keeps 0 v p (from_zero v all.0) (from_zero p h)) (visited_alike visited p all.1 h)

  pub ancestors_alike : (depth : ℕ) (visited : List ℕ) (n : ℕ) → AllByRecursion (λ m. keeps m ≡ true) visited → keeps n ≡ true →
      (ancestors_from (parent (picked keeps 0 entries)) depth (map (number_in keeps 0) visited) (number_in keeps 0 n) ≡ map (number_in keeps 0) (ancestors_from (parent entries) depth visited n))
      × AllByRecursion (λ m. keeps m ≡ true) (ancestors_from (parent entries) depth visited n)
  ancestors_alike zero visited n all h = (refl, tt)
  ancestors_alike (suc depth) visited n all h =
      let number = number_in keeps 0 in
      let few = picked keeps 0 entries in
      let seen = map number visited in
      let F : Option ℕ → List ℕ = λ o. option_map_or (λ m. m ∷ ancestors_from (parent few) depth (m ∷ seen) m) (option_and_then (unvisited seen) o) [] in
      let G : Option ℕ → List ℕ = λ o. option_map_or (λ m. m ∷ ancestors_from (parent entries) depth (m ∷ visited) m) (option_and_then (unvisited visited) o) [] in
      let F1 : Option ℕ → List ℕ = λ o. option_map_or (λ m. m ∷ ancestors_from (parent few) depth (m ∷ seen) m) o [] in
      let G1 : Option ℕ → List ℕ = λ o. option_map_or (λ m. m ∷ ancestors_from (parent entries) depth (m ∷ visited) m) o [] in
      let W : List ℕ → Type 0 = λ ns. AllByRecursion (λ m. keeps m ≡ true) ns in ⊎_elim
      (λ none. (ap F (parent_alike n h ∙ ap (option_map number) none) ∙ sym (ap (λ o. map number (G o)) none), subst W (sym (ap G none)) tt))
      (λ some.
      let p = some.0 in
      let k = parent_kept n some.0 h some.1 in
      let few_is = ap F (parent_alike n h ∙ ap (option_map number) some.1) in
      let alike = visited_alike visited some.0 all k in ⊎_elim
      (λ met.
      let left : unvisited seen (number some.0) ≡ None = cond-true (list_any (λ v. v == number some.0) seen) None (Some (number some.0)) (alike ∙ met) in
      let right : G (Some some.0) ≡ [] = ap G1 (cond-true (list_any (λ v. v == some.0) visited) None (Some some.0) met) in
      (few_is ∙ ap F1 left ∙ sym (ap (λ o. map number (G o)) some.1 ∙ ap (map number) right), subst W (sym (ap G some.1 ∙ right)) tt))
      (λ new.
      let rest = ancestors_alike depth (some.0 ∷ visited) some.0 (k, all) k in
      let left : unvisited seen (number some.0) ≡ Some (number some.0) = cond-false (list_any (λ v. v == number some.0) seen) None (Some (number some.0)) (alike ∙ new) in
      let right : G (Some some.0) ≡ some.0 ∷ ancestors_from (parent entries) depth (some.0 ∷ visited) some.0 =
      ap G1 (cond-false (list_any (λ v. v == some.0) visited) None (Some some.0) new) in (
        few_is ∙ ap F1 left ∙ ap (λ l. number some.0 ∷ l) rest.0 ∙ sym (ap (λ o. map number (G o)) some.1 ∙ ap (map number) right),
        subst W (sym (ap G some.1 ∙ right)) (k, rest.1),
      ))
      (cases_Bool (list_any (λ v. v == some.0) visited)))
      (option_cases (parent entries n))

  inherited_alike : (own : List RecordField) (ns : List ℕ) → AllByRecursion (λ m. keeps m ≡ true) ns →
      with_inherited (picked keeps 0 entries) own (map (number_in keeps 0) ns) ≡ with_inherited entries own ns
  inherited_alike own [] all = refl
  inherited_alike own (n ∷ ns) all =
      ap (λ o. with_inherited (picked keeps 0 entries) (own ++ missing own (option_map_or own_fields o [])) (map (number_in keeps 0) ns)) (entry_at n all.0)
      ∙ inherited_alike (own ++ missing own (fields_at entries n)) ns all.1

  pub expanded_alike : (depth n : ℕ) → keeps n ≡ true → expanded depth (picked keeps 0 entries) (number_in keeps 0 n) ≡ expanded depth entries n
  expanded_alike depth n h =
      let number = number_in keeps 0 in
      let few = picked keeps 0 entries in
      let above = ancestors_alike depth (n ∷ []) n (h, tt) h in
      ap (option_map (record_of depth few (number n))) (entry_at n h) ∙ ⊎_elim
      (λ none. ap (option_map (record_of depth few (number n))) none ∙ sym (ap (option_map (record_of depth entries n)) none))
      (λ some. ap (option_map (record_of depth few (number n))) some.1
      ∙ ap (λ fields. let it : Record = record { kind_name = folded some.0.kind; key = some.0.key; fields = fields } in Some it)
      (ap (with_inherited few (own_fields some.0)) above.0 ∙ inherited_alike (own_fields some.0) (ancestors entries depth n) above.1)
      ∙ sym (ap (option_map (record_of depth entries n)) some.1))
      (option_cases (slice_get entries n))

pub closed-mean_alike : closed_entries_mean_alike
closed-mean_alike keeps entries closed = record {
  records = expanded_alike keeps entries closed;
  targets = target_alike keeps entries closed;
  parents = parent_alike keeps entries closed;
}
