-- The RIS text of records, one after another.
use Rattle.std.proofs.Common.{◌≡◌, ◌∙◌, ℕ, zero, suc, ◌+◌, ◌<◌, List, [], ◌∷◌, ◌++◌, length, take, get_or, map, refl, sym, ap, append-nil, arith}
use Rattle.std.specs.List.{flat_map, AllByRecursion}
use Rattle.std.proofs.lemmas.List.{take_more}
use Rattle.std.proofs.lemmas.List.Concat.{flat_map-append}
use Rattle.bib_spec.specs.Text.{Text}
use Rattle.bib_spec.specs.Records.{Record, EntryTexts}
use Rattle.ris_text.specs.declared.records.RisRecord.{RisRecord}
use Rattle.ris_text.specs.Writing.{ris_text, record_text}
use Rattle.ris_format.specs.Mapping.{ris}
use Rattle.bib_ris.specs.Dropped.{dropped_lines}
use Rattle.bib_ris.specs.Plain.{in_plain}
use Rattle.bibtex_places.specs.declared.lists.BibtexEntry.{BibtexEntry}
use Rattle.bibtex_lists.specs.Records.{record_as_listed}

-- one more of a list of texts
pub texts_more : {X : Type 0} (f : X → Text) (xs : List X) (n : ℕ) (d : X) → n < length xs → flat_map f (take n xs) ++ f (get_or xs n d) ≡ flat_map f (take (n + 1) xs)
texts_more f xs n d within =
    ap (λ (t : Text). flat_map f (take n xs) ++ t) (sym (append-nil (f (get_or xs n d))))
    ∙ sym (flat_map-append f (take n xs) (get_or xs n d ∷ []))
    ∙ ap (flat_map f) (sym (take_more xs n d within))

-- a list of texts, of members that are made of others
pub texts_made : {X Y : Type 0} (f : Y → Text) (g : X → Y) (xs : List X) → flat_map f (map g xs) ≡ flat_map (λ x. f (g x)) xs
texts_made f g [] = refl
texts_made f g (x ∷ xs) = ap (λ (t : Text). f (g x) ++ t) (texts_made f g xs)

-- what holds of each member, by its number
pub member_at : {X : Type 0} (P : X → Type 0) (xs : List X) (i : ℕ) (d : X) → AllByRecursion P xs → i < length xs → P (get_or xs i d)
member_at P [] i d all within = absurd (omega (arith, within))
member_at P (x ∷ xs) zero d all within = all.0
member_at P (x ∷ xs) (suc i) d all within = member_at P xs i d all.1 (omega (arith, within))

-- ---- the texts of listed records

module _ (entries : List EntryTexts) (list : List BibtexEntry) where
  pub ris_made : flat_map (λ e. record_text (ris (record_as_listed entries e))) list ≡ ris_text (map ris (map (record_as_listed entries) list))
  ris_made =
      sym (texts_made (λ (rec : Record). record_text (ris rec)) (record_as_listed entries) list)
      ∙ sym (texts_made record_text ris (map (record_as_listed entries) list))

  pub plain_made : flat_map (λ e. record_text (in_plain (ris (record_as_listed entries e)))) list ≡ ris_text (map in_plain (map ris (map (record_as_listed entries) list)))
  plain_made =
      sym (texts_made (λ (rec : Record). record_text (in_plain (ris rec))) (record_as_listed entries) list)
      ∙ sym (texts_made (λ (r : RisRecord). record_text (in_plain r)) ris (map (record_as_listed entries) list))
      ∙ sym (texts_made record_text in_plain (map ris (map (record_as_listed entries) list)))

  pub dropped_made : flat_map (λ e. dropped_lines (record_as_listed entries e)) list ≡ flat_map dropped_lines (map (record_as_listed entries) list)
  dropped_made = sym (texts_made dropped_lines (record_as_listed entries) list)
