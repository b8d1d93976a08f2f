-- Entries that agree one by one have the same records, whatever they inherit.
use Rattle.std.proofs.Common.{◌≡◌, ◌∙◌, ℕ, zero, suc, cond, List, [], ◌∷◌, ◌++◌, length, Option, Some, None, option_map, option_and_then, slice_get, refl, sym, ap, ap₂}
use Rattle.std.proofs.Math.Path.{fun_ext}
use Rattle.std.specs.Option.{option_or, option_map_or}
use Rattle.bib_spec.specs.Text.{Text, same}
use Rattle.bib_spec.specs.Records.{EntryTexts, RecordField, crossref, crossref_text, keys_of, first_named, target_of, target, other_than, parent, own_fields, missing, ancestors, ancestors_from, fields_at, with_inherited, record_of, expanded}
use Rattle.diff_spec.specs.Agreement.{SayTheSame, EntriesAgree}
use Rattle.diff_spec.specs.Laws.{text_named, AgreeByName, BothOrNone, HaveTheSameRecords, agreement_is_of_records}
use Rattle.diff_spec.proofs.SoughtFields.{text-own_fields, text-missing}

-- of each name both lists have the same text, or none
abbrev NamedAlike : List RecordField → List RecordField → Type 0
NamedAlike old new = (name : Text) → text_named name old ≡ text_named name new

-- as many
same_count : (old new : List EntryTexts) → EntriesAgree old new → length old ≡ length new
same_count [] [] agree = refl
same_count [] (y ∷ ys) agree = absurd agree
same_count (x ∷ xs) [] agree = absurd agree
same_count (x ∷ xs) (y ∷ ys) agree = ap suc (same_count xs ys agree.1)

same_keys : (old new : List EntryTexts) → EntriesAgree old new → keys_of old ≡ keys_of new
same_keys [] [] agree = refl
same_keys [] (y ∷ ys) agree = absurd agree
same_keys (x ∷ xs) [] agree = absurd agree
same_keys (x ∷ xs) (y ∷ ys) agree = ap₂ (λ key keys. key ∷ keys) agree.0.key (same_keys xs ys agree.1)

-- the entries at one place
at_place : (old new : List EntryTexts) → EntriesAgree old new → (n : ℕ) → BothOrNone SayTheSame (slice_get old n) (slice_get new n)
at_place [] [] agree n = tt
at_place [] (y ∷ ys) agree n = absurd agree
at_place (x ∷ xs) [] agree n = absurd agree
at_place (x ∷ xs) (y ∷ ys) agree zero = agree.0
at_place (x ∷ xs) (y ∷ ys) agree (suc n) = at_place xs ys agree.1 n

-- what is made of entries that say the same, or of none, is the same
made_alike : {X : Type 0} (make remake : EntryTexts → X) → ((a b : EntryTexts) → SayTheSame a b → make a ≡ remake b) → (none : X) (a b : Option EntryTexts) → BothOrNone SayTheSame a b
    → option_map_or make a none ≡ option_map_or remake b none
made_alike make remake alike none None None both = refl
made_alike make remake alike none None (Some b) both = absurd both
made_alike make remake alike none (Some a) None both = absurd both
made_alike make remake alike none (Some a) (Some b) both = alike a b both

sought_alike : {X : Type 0} (make remake : EntryTexts → Option X) → ((a b : EntryTexts) → SayTheSame a b → make a ≡ remake b) → (a b : Option EntryTexts) → BothOrNone SayTheSame a b
    → option_and_then make a ≡ option_and_then remake b
sought_alike make remake alike None None both = refl
sought_alike make remake alike None (Some b) both = absurd both
sought_alike make remake alike (Some a) None both = absurd both
sought_alike make remake alike (Some a) (Some b) both = alike a b both

own_alike : (a b : EntryTexts) → SayTheSame a b → NamedAlike (own_fields a) (own_fields b)
own_alike a b same_texts name = text-own_fields name a ∙ ap (cond (same name crossref) None) (same_texts.texts name) ∙ sym (text-own_fields name b)

module _ (old new : List EntryTexts) (agree : EntriesAgree old new) where
  target_of-same : (a b : EntryTexts) → SayTheSame a b → target_of old a ≡ target_of new b
  target_of-same a b is = ap₂ (λ (keys : List Text) (o : Option Text). option_and_then (λ text. first_named text keys) o) (same_keys old new agree) (is.texts crossref)

  target_same : (n : ℕ) → target old n ≡ target new n
  target_same n = sought_alike (target_of old) (target_of new) target_of-same (slice_get old n) (slice_get new n) (at_place old new agree n)

  parent_same : (n : ℕ) → parent old n ≡ parent new n
  parent_same n = ap (option_and_then (other_than n)) (target_same n)

  fields_at_alike : (n : ℕ) → NamedAlike (fields_at old n) (fields_at new n)
  fields_at_alike n name = go (slice_get old n) (slice_get new n) (at_place old new agree n)
    where
      go : (a b : Option EntryTexts) → BothOrNone SayTheSame a b → text_named name (option_map_or own_fields a []) ≡ text_named name (option_map_or own_fields b [])
      go None None both = refl
      go None (Some b) both = absurd both
      go (Some a) None both = absurd both
      go (Some a) (Some b) both = own_alike a b both name

  inherited_alike : (ns : List ℕ) (own other : List RecordField) → NamedAlike own other → NamedAlike (with_inherited old own ns) (with_inherited new other ns)
  inherited_alike [] own other alike = alike
  inherited_alike (n ∷ ns) own other alike = inherited_alike ns (own ++ missing own (fields_at old n)) (other ++ missing other (fields_at new n))
      (λ name. text-missing name own (fields_at old n) ∙ ap₂ option_or (alike name) (fields_at_alike n name) ∙ sym (text-missing name other (fields_at new n)))

  ancestors_same : (depth n : ℕ) → ancestors old depth n ≡ ancestors new depth n
  ancestors_same depth n = ap (λ parents. ancestors_from parents depth (n ∷ []) n) (fun_ext parent_same)

  record_alike : (depth n : ℕ) (a b : EntryTexts) → SayTheSame a b → AgreeByName (record_of depth old n a) (record_of depth new n b)
  record_alike depth n a b is = record {
    kind_name = is.kind;
    key = is.key;
    texts = λ name. inherited_alike (ancestors old depth n) (own_fields a) (own_fields b) (own_alike a b is) name
        ∙ ap (λ ns. text_named name (with_inherited new (own_fields b) ns)) (ancestors_same depth n);
  }

  expanded_alike : (depth n : ℕ) → BothOrNone AgreeByName (expanded depth old n) (expanded depth new n)
  expanded_alike depth n = go (slice_get old n) (slice_get new n) (at_place old new agree n)
    where
      go : (a b : Option EntryTexts) → BothOrNone SayTheSame a b → BothOrNone AgreeByName (option_map (record_of depth old n) a) (option_map (record_of depth new n) b)
      go None None both = tt
      go None (Some b) both = absurd both
      go (Some a) None both = absurd both
      go (Some a) (Some b) both = record_alike depth n a b both

  have_the_same : HaveTheSameRecords old new
  have_the_same = record {
    count = same_count old new agree;
    records = expanded_alike;
    crossrefs = λ n. sought_alike crossref_text crossref_text (λ a b is. is.texts crossref) (slice_get old n) (slice_get new n) (at_place old new agree n);
    targets = target_same;
    parents = parent_same;
  }

pub same_records : agreement_is_of_records
same_records = have_the_same
