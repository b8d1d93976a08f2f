-- The fields that a name finds: among an entry's own fields, and among those that it inherits.
use Rattle.std.proofs.Common.{◌≡◌, ◌∙◌, Bool, true, false, not, cond, ◌||◌, List, [], ◌∷◌, ◌++◌, Option, Some, None, option_map, refl, sym, ap, map, find, filter}
use Rattle.std.specs.Option.{option_or}
use Rattle.std.specs.Char.{to_ascii_lowercase}
use Rattle.std.proofs.lemmas.Str.Ascii.{lowercase-lowercase}
use Rattle.std.proofs.lemmas.Bool.{false≢true}
use Rattle.std.proofs.lemmas.Option.{none-some}
use Rattle.std.proofs.lemmas.List.Folds.{find-append}
use Rattle.bib_spec.specs.Text.{Text, folded, same}
use Rattle.bib_spec.specs.Texts.{field_text}
use Rattle.bib_spec.specs.Records.{Field, EntryTexts, RecordField, crossref, has_name, effective, record_field, own_fields, missing}
use Rattle.bib_spec.proofs.Names.{same_of, same-true, true-same}
use Rattle.bib_spec.proofs.Missing.{bears, bears_alike}
use Rattle.diff_spec.specs.Agreement.{text_at}
use Rattle.diff_spec.specs.Laws.{text_named}

-- ---- names

folded_twice : (t : Text) → folded (folded t) ≡ folded t
folded_twice [] = refl
folded_twice (b ∷ t) = ap (λ c. c ∷ folded (folded t)) (lowercase-lowercase b) ∙ ap (λ l. to_ascii_lowercase b ∷ l) (folded_twice t)

same-folded : (a b : Text) → same (folded a) b ≡ same a b
same-folded a b = same_of (folded a) b a b (folded_twice a) refl

-- a name that is the same as a second one is the same as a third exactly if the second is
same_through : (a b c : Text) → same a b ≡ true → same a c ≡ same b c
same_through a b c is = same_of a c b c (same-true a b is) refl

-- ---- lists with some members left out

-- what is sought is found if nothing of the kind is left out
find_kept : {X : Type 0} (seek keep : X → Bool) (xs : List X) → ((x : X) → seek x ≡ true → keep x ≡ true) → find seek (filter keep xs) ≡ find seek xs
find_kept seek keep [] kept = refl
find_kept {X} seek keep (x ∷ xs) kept = at (keep x) (seek x) refl (kept x) (find_kept seek keep xs kept)
  where
    at : (k s : Bool) → seek x ≡ s → (s ≡ true → k ≡ true) → find seek (filter keep xs) ≡ find seek xs
        → find seek (cond k (x ∷ filter keep xs) (filter keep xs)) ≡ cond s (Some x) (find seek xs)
    at true s is kept later = ap (λ b. cond b (Some x) (find seek (filter keep xs))) is ∙ ap (cond s (Some x)) later
    at false true is kept later = absurd (false≢true (kept refl))
    at false false is kept later = later

-- what is left out is not found
find_dropped : {X : Type 0} (seek keep : X → Bool) (xs : List X) → ((x : X) → seek x ≡ true → keep x ≡ false) → find seek (filter keep xs) ≡ None
find_dropped seek keep [] dropped = refl
find_dropped {X} seek keep (x ∷ xs) dropped = at (keep x) (seek x) refl (dropped x) (find_dropped seek keep xs dropped)
  where
    at : (k s : Bool) → seek x ≡ s → (s ≡ true → k ≡ false) → find seek (filter keep xs) ≡ None → find seek (cond k (x ∷ filter keep xs) (filter keep xs)) ≡ None
    at false s is drops later = later
    at true true is drops later = absurd (false≢true (sym (drops refl)))
    at true false is drops later = ap (λ b. cond b (Some x) (find seek (filter keep xs))) is ∙ later

-- ---- own fields

-- the first field of a name is the effective one
find-effective : (name : Text) (fields : List Field) → find (has_name name) (effective fields) ≡ find (has_name name) fields
find-effective name [] = refl
find-effective name (x ∷ xs) = at (has_name name x) refl (find-effective name xs)
  where
    others : List Field
    others = filter (λ other. not (has_name x.name other)) (effective xs)

    -- a field of another name is left
    stays : has_name name x ≡ false → (other : Field) → has_name name other ≡ true → not (has_name x.name other) ≡ true
    stays not_x other is = ap not
        (same_of other.name x.name name x.name (same-true other.name name is) refl
        ∙ other_way name x.name
        ∙ not_x)
      where
        other_way : (a b : Text) → same a b ≡ same b a
        other_way a b = both (same a b) (same b a) (λ h. true-same b a (sym (same-true a b h))) (λ h. true-same a b (sym (same-true b a h)))
          where
            both : (p q : Bool) → (p ≡ true → q ≡ true) → (q ≡ true → p ≡ true) → p ≡ q
            both true true f g = refl
            both true false f g = sym (f refl)
            both false true f g = g refl
            both false false f g = refl

    at : (b : Bool) → has_name name x ≡ b → find (has_name name) (effective xs) ≡ find (has_name name) xs → cond b (Some x) (find (has_name name) others) ≡ cond b (Some x) (find (has_name name) xs)
    at true is later = refl
    at false is later = find_kept (has_name name) (λ other. not (has_name x.name other)) (effective xs) (stays is) ∙ later

-- a field as a record has it is found by the same names
find-record : (name : Text) (fields : List Field) → text_named name (map record_field fields) ≡ option_map (λ field. field_text field.raw) (find (has_name name) fields)
find-record name [] = refl
find-record name (x ∷ xs) = ap (λ b. option_map (λ (field : RecordField). field.1) (cond b (Some (record_field x)) (find (λ field. same field.0 name) (map record_field xs)))) (same-folded x.name name)
    ∙ at (same x.name name) (find-record name xs)
  where
    at : (b : Bool) → text_named name (map record_field xs) ≡ option_map (λ field. field_text field.raw) (find (has_name name) xs)
        → option_map (λ (field : RecordField). field.1) (cond b (Some (record_field x)) (find (λ field. same field.0 name) (map record_field xs)))
        ≡ option_map (λ (field : Field). field_text field.raw) (cond b (Some x) (find (has_name name) xs))
    at true later = refl
    at false later = later

-- an entry's own field of a name is its first one, except that `crossref` is none of them
pub text-own_fields : (name : Text) (entry : EntryTexts) → text_named name (own_fields entry) ≡ cond (same name crossref) None (text_at name entry)
text-own_fields name entry = find-record name shown ∙ at (same name crossref) refl
  where
    shown : List Field
    shown = filter (λ field. not (has_name crossref field)) (effective entry.fields)

    at : (b : Bool) → same name crossref ≡ b → option_map (λ (field : Field). field_text field.raw) (find (has_name name) shown) ≡ cond b None (text_at name entry)
    at true is = ap (option_map (λ (field : Field). field_text field.raw))
        (find_dropped (has_name name) (λ field. not (has_name crossref field)) (effective entry.fields) (λ field has. ap not (same_through field.name name crossref has ∙ is)))
    at false is = ap (option_map (λ (field : Field). field_text field.raw))
        (find_kept (has_name name) (λ field. not (has_name crossref field)) (effective entry.fields) (λ field has. ap not (same_through field.name name crossref has ∙ is))
        ∙ find-effective name entry.fields)

-- ---- inherited fields

-- nothing is found where no name is the sought one
not_borne : (name : Text) (fields : List RecordField) → find (λ field. same field.0 name) fields ≡ None → bears fields name ≡ false
not_borne name [] none = refl
not_borne name (x ∷ xs) none = at (same x.0 name) none (not_borne name xs)
  where
    at : (b : Bool) → cond b (Some x) (find (λ field. same field.0 name) xs) ≡ None → (find (λ field. same field.0 name) xs ≡ None → bears xs name ≡ false) → (b || bears xs name) ≡ false
    at true none later = absurd (none-some x (sym none))
    at false none later = later none

-- among own fields and the missing ones of others, a name finds what it finds among the own ones, or else among the others
pub text-missing : (name : Text) (own others : List RecordField) → text_named name (own ++ missing own others) ≡ option_or (text_named name own) (text_named name others)
text-missing name own others = ap (option_map (λ (field : RecordField). field.1)) (find-append (λ field. same field.0 name) own (missing own others)) ∙ at (find (λ field. same field.0 name) own) refl
  where
    at : (o : Option RecordField) → find (λ field. same field.0 name) own ≡ o
        → option_map (λ (field : RecordField). field.1) (option_or o (find (λ field. same field.0 name) (missing own others)))
        ≡ option_or (option_map (λ (field : RecordField). field.1) o) (text_named name others)
    at (Some field) is = refl
    at None is = ap (option_map (λ (field : RecordField). field.1))
        (find_kept (λ field. same field.0 name) (λ field. not (bears own field.0)) others
        (λ field has. ap not (bears_alike own field.0 name has ∙ not_borne name own is)))
