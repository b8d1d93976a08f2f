-- Crossrefs and values that say the same whatever macros stand for.
use Rattle.bib_store.proofs.Words.{◌≡◌, ℕ, zero, suc, ◌+◌, true, false, List, [], ◌∷◌, ◌++◌, length, take, map, Option, Some, None, ⊎_elim, refl, sym, ◌∙◌, ap, ap₂, subst, arith, flat_map, cases_Bool, both_ways, none-some, same_Some, name_limit, Text, same, Tree, Part, Braced, Quoted, Digits, Macro}
use Rattle.bib_store.proofs.Words.{Row, Entry, EntryTree, IsTree, Macros, months, part_text, raw_text, field_text, crossref, crossref_text, entry_in, texts_of, View, view_of, one_value, defined_by, is_entry_tree, OfValue, AreLiteral, IsSettled, crossref_in, OfRows}
use Rattle.std.specs.List.{slice_get}
use Rattle.std.proofs.lemmas.List.{take_all}
use Rattle.bib_spec.specs.Reading.{Item}
use Rattle.bib_spec.specs.Texts.{parts_of}
use Rattle.bib_scan.specs.ValueParts.{IsPartsOf}
use Rattle.bib_scan.specs.declared.parts.PartSpan.{PartSpan}
use Rattle.bib_store.specs.Bounds.{is_literal}
use Rattle.bib_store.proofs.SaidTexts.{entry_says}
use Rattle.bib_store.proofs.EntryItems.{entry_tree}
use Rattle.bib_store.proofs.FirstCrossrefs.{row_is_other, row_is_first}
use Rattle.bib_store.proofs.RowTexts.{cons_parts}

-- a part that is no name of a macro says the same whatever macros stand for
literal_part : (a b : Macros) (part : Part) → is_literal part ≡ true → part_text a part ≡ part_text b part
literal_part a b (Braced t) is = refl
literal_part a b (Quoted t) is = refl
literal_part a b (Digits t) is = refl
literal_part a b (Macro t) is = absurd (both_ways false refl is)

literal_parts : (a b : Macros) (parts : List Part) → AreLiteral parts → flat_map (part_text a) parts ≡ flat_map (part_text b) parts
literal_parts a b [] are = refl
literal_parts a b (p ∷ parts) are = ap₂ (λ (s t : Text). s ++ t) (literal_part a b p are.0) (literal_parts a b parts are.1)

-- and so does a value that is that part alone
pub literal_value : (bytes : Text) (part : Part) → is_literal part ≡ true → OfValue bytes (λ v. parts_of v ≡ part ∷ []) → (text : Text) × OfValue bytes (λ v. (m : Macros) → raw_text m v ≡ text)
literal_value bytes part is one = (
  flat_map (part_text months) (part ∷ []),
  λ v good e m. ap (flat_map (part_text m)) (one v good e) ∙ literal_parts m months (part ∷ []) (is, tt),
)

-- ---- values of several parts

pub literals_more : (n : ℕ) (parts : List Part) (p : Part) → slice_get parts n ≡ Some p → is_literal p ≡ true → AreLiteral (take n parts) → AreLiteral (take (n + 1) parts)
literals_more n [] p at is are = absurd (none-some p at)
literals_more zero (q ∷ parts) p at is are = (subst (λ (r : Part). is_literal r ≡ true) (sym (same_Some q p at)) is, tt)
literals_more (suc n) (q ∷ parts) p at is are =
    let next : suc (n + 1) ≡ suc n + 1 = omega arith in
    subst (λ (k : ℕ). AreLiteral (take k (q ∷ parts))) next (are.0, literals_more n parts p at is are.1)

pub literals_all : (n : ℕ) (parts : List Part) → n ≡ length parts → AreLiteral (take n parts) → AreLiteral parts
literals_all n parts all are = subst AreLiteral (take_all n parts (omega (arith, all))) are

-- the bytes say one value
pub literal_values : (bytes : Text) (spans : List PartSpan) → IsPartsOf bytes spans → OfValue bytes (λ v. AreLiteral (parts_of v)) → (text : Text) × OfValue bytes (λ v. (m : Macros) → raw_text m v ≡ text)
literal_values bytes spans is are = (
  raw_text months is.0,
  λ v good e m. literal_parts m months (parts_of v) (are v good e) ∙ ap (raw_text months) (sym (one_value is.0 v is.1 good (is.2 ∙ sym e))),
)

-- if there is no crossref, macros make none
none_still : (a b : Macros) (rows : List Row) → crossref_in a rows ≡ None → crossref_in b rows ≡ None
none_still a b [] e = refl
none_still a b (row ∷ rows) e = ⊎_elim
    (λ t. absurd (none-some (field_text (raw_text a row.assignment.value)) (sym e ∙ row_is_first a row rows t)))
    (λ t. row_is_other b row rows t ∙ none_still a b rows (sym (row_is_other a row rows t) ∙ e))
    (cases_Bool (same row.assignment.name crossref))

pub settled_none : (m : Macros) (i : Item) → is_entry_tree i.tree ≡ true → map crossref_text (entry_in m i.tree) ≡ None ∷ [] → IsSettled i.tree
settled_none m i entry says = there (entry_tree i.tree entry)
  where
    there : (e : Entry) × (i.tree ≡ EntryTree e) → IsSettled i.tree
    there (e, e_is) =
        let none : crossref_in m e.rows ≡ None = (cons_parts (crossref_text (texts_of m e)) None [] [] (ap (λ (t : Tree). map crossref_text (entry_in m t)) (sym e_is) ∙ says)).0 in
        subst IsSettled (sym e_is) (record {
          crossref = λ a b. ap (λ (o : Option Text). o ∷ []) (none_still m a e.rows none ∙ sym (none_still m b e.rows none));
          text = λ a b. refl;
        })

pub settled_fields : (v : View) (said : Option Text) → OfRows v.fields (λ before rows. (m : Macros) → said ≡ crossref_in m rows) → (i : Item) → IsTree name_limit i.tree → is_entry_tree i.tree ≡ true → v ≡ view_of i → IsSettled i.tree
settled_fields v said says i is entry seen = record {
  crossref = λ a b. at a ∙ sym (at b);
  text = λ a b. silent a ∙ sym (silent b);
}
  where
    at : (m : Macros) → map crossref_text (entry_in m i.tree) ≡ said ∷ []
    at m = entry_says m v said (λ before rows are e. says before rows are e m) i is entry seen

    silent : (m : Macros) → defined_by m i.tree ≡ []
    silent m = ap (defined_by m) (entry_tree i.tree entry).1
