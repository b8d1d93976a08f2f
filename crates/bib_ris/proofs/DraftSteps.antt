-- Drafts of the records that a RIS text says, one after another.
use Rattle.bib_ris.proofs.Words.{◌≡◌, ◌∙◌, ◌≤◌, ◌+◌, ℕ, true, false, List, [], ◌∷◌, ◌++◌, length, map, filter, not, refl, sym, ap, ap₂, subst, append-nil, Ok, map-append, Text, is_new_key, Record, NewEntry, made_base, RisRecord, ris_file, entry_of, are_balanced, Drafts, bases_of, AreDraftsOf}
use Rattle.std.proofs.Common.{Bool, zero-add}
use Rattle.std.specs.List.{list_all, AllByRecursion}
use Rattle.std.specs.Prelude.{◌&&◌, Err}
use Rattle.std.proofs.Math.Bool.{and-false}
use Rattle.std.proofs.lemmas.Bool.{and_from}
use Rattle.std.proofs.lemmas.List.Elements.{filter-append}
use Rattle.std.proofs.lemmas.List.Folds.{list_all-append}
use Rattle.bib_spec.specs.MadeKeys.{base_limit}
use Rattle.ris_text.specs.declared.records.RisFile.{RisFile}
use Rattle.ris_text.specs.declared.fault.RisFault.{RisFault}
use Rattle.ris_text.specs.Code.{with_record, with_front}
use Rattle.ris_text.specs.Rest.{Rest, IsLeft}
use Rattle.ris_text.proofs.RestLaws.{left-more}
use Rattle.ris_format.specs.Escapes.{back_as}
use Rattle.ris_format.proofs.PartLaws.{all-append}
use Rattle.bib_ris.specs.Import.{records_of, HasUnbalanced}
use Rattle.bib_ris.specs.Drafts.{AreSaidBy}

-- ---- drafts

-- the drafts with one more record: its entry, and the base of its key if its ID cannot be a key
pub drafts-more : (records : List Record) (entry : Record) (d e : Drafts) → AreDraftsOf records d → are_balanced entry ≡ true
    → e.entries.items ≡ d.entries.items ++ entry_of entry ∷ [] → e.bases.items ≡ d.bases.items ++ bases_of (entry ∷ [])
    → AllByRecursion (λ base. length base ≤ base_limit) (bases_of (entry ∷ [])) → AreDraftsOf (records ++ entry ∷ []) e
drafts-more records entry d e are balanced entries bases short = record {
  entries = entries ∙ ap (λ (es : List NewEntry). es ++ entry_of entry ∷ []) are.entries ∙ sym (map-append entry_of records (entry ∷ []));
  bases =
      bases ∙ ap (λ (bs : List Text). bs ++ bases_of (entry ∷ [])) are.bases
      ∙ sym (map-append made_base (filter needs_key records) (filter needs_key (entry ∷ [])))
      ∙ ap (map made_base) (sym (filter-append needs_key records (entry ∷ [])));
  short = subst (AllByRecursion (λ (base : Text). length base ≤ base_limit)) (sym bases)
      (all-append (λ (base : Text). length base ≤ base_limit) d.bases.items (bases_of (entry ∷ [])) are.short short);
  balanced =
      list_all-append are_balanced records (entry ∷ [])
      ∙ and_from (list_all are_balanced records) (are_balanced entry && true) are.balanced (and_from (are_balanced entry) true balanced refl);
}
  where
    needs_key : Record → Bool
    needs_key r = not (is_new_key r.key)

-- the text says some records before what is left, and these are their drafts
pub record AreSaid (latex : Bool) (text : Text) (rest : Rest) (d : Drafts) : Type 0 where
  pub done : List RisRecord
  pub left : IsLeft text done rest
  pub drafts : AreDraftsOf (records_of latex done) d

-- one more record
pub said-more : (latex : Bool) (text : Text) (rest after : Rest) (d e : Drafts) (r : RisRecord) → AreSaid latex text rest d → rest.says ≡ with_record r after.says
    → ((so_far : List Record) → AreDraftsOf so_far d → AreDraftsOf (so_far ++ back_as latex r ∷ []) e) → AreSaid latex text after e
said-more latex text rest after d e r so says adds = record {
  done = so.done ++ r ∷ [];
  left = left-more text so.done r rest after so.left says;
  drafts = subst (λ (rs : List Record). AreDraftsOf rs e) (sym (map-append (back_as latex) so.done (r ∷ []))) (adds (records_of latex so.done) so.drafts);
}

-- at the end
pub said-all : (latex : Bool) (text : Text) (rest : Rest) (d : Drafts) (skipped : ℕ) → AreSaid latex text rest d → rest.says ≡ Ok (ris_file [] skipped) → AreSaidBy latex text d skipped
said-all latex text rest d skipped so ends = record {
  said = ris_file so.done skipped;
  reads = so.left.reads (ris_file so.done skipped)
      (ap (with_front so.done 0) ends ∙ ap₂ (λ (rs : List RisRecord) (n : ℕ). Ok (ris_file rs n)) (append-nil so.done) (zero-add skipped));
  drafts = so.drafts;
  skipped = refl;
}

all_of : (latex : Bool) (xs ys : List RisRecord) → list_all are_balanced (records_of latex (xs ++ ys)) ≡ (list_all are_balanced (records_of latex xs) && list_all are_balanced (records_of latex ys))
all_of latex xs ys = ap (list_all are_balanced) (map-append (back_as latex) xs ys) ∙ list_all-append are_balanced (records_of latex xs) (records_of latex ys)

-- if one record has a text that is not balanced, not all records are balanced
one-unbalanced : (latex : Bool) (before : List RisRecord) (r : RisRecord) (after : List RisRecord) → are_balanced (back_as latex r) ≡ false
    → list_all are_balanced (records_of latex ((before ++ r ∷ []) ++ after)) ≡ false
one-unbalanced latex before r after unbalanced =
    all_of latex (before ++ r ∷ []) after
    ∙ ap (λ b. b && list_all are_balanced (records_of latex after))
    (all_of latex before (r ∷ [])
    ∙ ap (λ b. list_all are_balanced (records_of latex before) && (b && true)) unbalanced
    ∙ and-false (list_all are_balanced (records_of latex before)))

-- a record that is not balanced, before others that are read
pub said-unbalanced : (latex : Bool) (text : Text) (rest after : Rest) (d : Drafts) (r : RisRecord) (others : RisFile) → AreSaid latex text rest d → rest.says ≡ with_record r after.says
    → are_balanced (back_as latex r) ≡ false → after.says ≡ Ok others → HasUnbalanced latex text
said-unbalanced latex text rest after d r others so says unbalanced ends = record {
  said = ris_file ((so.done ++ r ∷ []) ++ others.records) (0 + others.skipped);
  reads = (left-more text so.done r rest after so.left says).reads (ris_file ((so.done ++ r ∷ []) ++ others.records) (0 + others.skipped))
      (ap (with_front (so.done ++ r ∷ []) 0) ends);
  unbalanced = one-unbalanced latex so.done r others.records unbalanced;
}

-- ---- what is left, read to its end

-- the later rest is what the first rest leaves: if the later one says something, so does the first; if it goes wrong, so does the
-- first
pub record LeadsTo (first later : Rest) : Type 0 where
  pub ends : (said : RisFile) → later.says ≡ Ok said → (whole : RisFile) × (first.says ≡ Ok whole)
  pub wrong : (fault : RisFault) → later.says ≡ Err fault → first.says ≡ Err fault
