-- Fields that are judged one after another.
use Rattle.bib_ris.proofs.Words.{◌≡◌, ◌∙◌, ◌++◌, [], ◌∷◌, List, true, false, filter, map, refl, sym, ap, subst, append-nil, map-append, cases_Bool, cond-true, cond-false, flat_map, flat_map-append, Text}
use Rattle.std.proofs.Common.{Bool, ⊎_elim, cond}
use Rattle.std.specs.List.{list_any, AllZip}
use Rattle.std.specs.Prelude.{◌||◌}
use Rattle.std.proofs.lemmas.Bool.{both_ways, or_from, or_parts}
use Rattle.std.proofs.lemmas.List.Elements.{filter-append}
use Rattle.std.proofs.lemmas.List.Folds.{list_any-append}
use Rattle.bib_spec.specs.Text.{folded, same}
use Rattle.bib_spec.specs.Tree.{Row}
use Rattle.bib_spec.specs.Texts.{Macros, raw_text}
use Rattle.bib_spec.specs.Records.{Record, RecordField, Field, record_field, field_of, crossref}
use Rattle.bib_spec.proofs.Names.{same_of, same_comm, same-true}
use Rattle.bib_scan.specs.View as view
use Rattle.bib_value.specs.Raw.{OfValue}
use Rattle.bib_store.specs.Gathering.{is_taken, with_field, with_fields, IsFieldOf}
use Rattle.bib_store.proofs.GatheredFields.{same-folded_left}
use Rattle.ris_format.specs.Kinds.{kind_of_entry}
use Rattle.ris_format.specs.Mapping.{is_dropped}
use Rattle.ris_format.specs.Carried.{always_names}
use Rattle.ris_format.proofs.NeverDropped.{never_dropped}
use Rattle.bib_ris.specs.Dropped.{dropped_line, dropped_lines}
use Rattle.bib_ris.specs.Judging.{is_passed, IsJudged}

or-false : (b : Bool) → b || false ≡ b
or-false true = refl
or-false false = refl

-- two names that are the same are both among the names, or neither is
alike : (names : List Text) (a b : Text) → same a b ≡ true → list_any (same a) names ≡ list_any (same b) names
alike [] a b h = refl
alike (n ∷ names) a b h = ap (λ c. c || list_any (same a) names) (same_of a n b n (same-true a b h) refl) ∙ ap (λ c. same b n || c) (alike names a b h)

-- the line of a field, if the field is dropped
abbrev pub line_if : Text → Text → RecordField → Text
line_if kind key f = cond (is_dropped (kind_of_entry kind) f) (dropped_line key f.0) []

abbrev with_these : Text → Text → List RecordField → Record
with_these kind key fields = record { kind_name = kind; key = key; fields = fields }

-- the lines of one field more
lines-more : (kind key : Text) (fields : List RecordField) (f : RecordField) → dropped_lines (with_these kind key (fields ++ f ∷ [])) ≡ dropped_lines (with_these kind key fields) ++ line_if kind key f
lines-more kind key fields f =
    let test = is_dropped (kind_of_entry kind) in
    let named = λ (fs : List RecordField). map (λ (g : RecordField). g.0) fs in
    ap (λ (fs : List RecordField). flat_map (dropped_line key) (named fs)) (filter-append test fields (f ∷ []))
    ∙ ap (flat_map (dropped_line key)) (map-append (λ (g : RecordField). g.0) (filter test fields) (filter test (f ∷ [])))
    ∙ flat_map-append (dropped_line key) (named (filter test fields)) (named (filter test (f ∷ [])))
    ∙ ap (λ (t : Text). dropped_lines (with_these kind key fields) ++ t) (one (test f))
  where
    one : (b : Bool) → flat_map (dropped_line key) (map (λ (g : RecordField). g.0) (cond b (f ∷ []) [])) ≡ cond b (dropped_line key f.0) []
    one true = append-nil (dropped_line key f.0)
    one false = refl

module _ (kind key : Text) (all : List RecordField) (seen : List Text) (lines : Text) (h : IsJudged kind key all seen lines) (x : Field) where
  abbrev more : List RecordField
  more = all ++ record_field x ∷ []

  abbrev bears : Text → Bool
  bears name = list_any (λ (other : RecordField). same other.0 name) all

  bears-more : (name : Text) → list_any (λ (other : RecordField). same other.0 name) more ≡ bears name || same x.name name
  bears-more name =
      list_any-append (λ (other : RecordField). same other.0 name) all (record_field x ∷ [])
      ∙ ap (λ b. bears name || b) (or-false (same (folded x.name) name) ∙ same-folded_left x.name name)

  taken : is_taken all x.name ≡ true → IsJudged kind key (with_field all x) seen lines
  taken t = subst (λ (fs : List RecordField). IsJudged kind key fs seen lines) (sym (cond-true (is_taken all x.name) all more t)) h

  -- a field of which RIS always has a line
  always : list_any (same x.name) always_names ≡ true → is_taken all x.name ≡ false → IsJudged kind key (with_field all x) seen lines
  always is free = subst (λ (fs : List RecordField). IsJudged kind key fs seen lines) (sym (cond-false (is_taken all x.name) all more free)) (record {
    names = λ name not_always. h.names name not_always ∙ sym (bears-more name ∙ ap (λ b. bears name || b) (differs name not_always) ∙ or-false (bears name));
    told = h.told ∙ sym (lines-more kind key all (record_field x) ∙ ap (λ b. dropped_lines (with_these kind key all) ++ cond b (dropped_line key (folded x.name)) []) (never_dropped (kind_of_entry kind) (record_field x) is)
        ∙ append-nil (dropped_lines (with_these kind key all)));
  })
    where
      differs : (name : Text) → list_any (same name) always_names ≡ false → same x.name name ≡ false
      differs name not_always = ⊎_elim
          (λ (e : same x.name name ≡ true). absurd (both_ways (list_any (same name) always_names) not_always (sym (alike always_names x.name name e) ∙ is)))
          (λ (e : same x.name name ≡ false). e)
          (cases_Bool (same x.name name))

  -- a field that is passed over
  pub passed-over : is_passed seen x.name ≡ true → IsJudged kind key (with_field all x) seen lines
  passed-over p = ⊎_elim
      taken
      (λ (free : is_taken all x.name ≡ false).
      let apart = or_parts (same x.name crossref) (bears x.name) free in
      ⊎_elim
      (λ (is : list_any (same x.name) always_names ≡ true). always is free)
      (λ (is : list_any (same x.name) always_names ≡ false).
      absurd (both_ways (is_passed seen x.name) (or_from _ _ (or_from _ _ is apart.0) (h.names x.name is ∙ apart.1)) p))
      (cases_Bool (list_any (same x.name) always_names)))
      (cases_Bool (is_taken all x.name))

  -- a field that is judged
  pub judged-more : is_passed seen x.name ≡ false → IsJudged kind key (with_field all x) (seen ++ folded x.name ∷ []) (lines ++ line_if kind key (record_field x))
  judged-more p =
      let first = or_parts (list_any (same x.name) always_names || same x.name crossref) (list_any (same x.name) seen) p in
      let second = or_parts (list_any (same x.name) always_names) (same x.name crossref) first.0 in
      let free : is_taken all x.name ≡ false = or_from (same x.name crossref) (bears x.name) second.1 (sym (h.names x.name second.0) ∙ first.1) in
      subst (λ (fs : List RecordField). IsJudged kind key fs (seen ++ folded x.name ∷ []) (lines ++ line_if kind key (record_field x))) (sym (cond-false (is_taken all x.name) all more free)) (record {
        names = λ name not_always.
            list_any-append (same name) seen (folded x.name ∷ [])
            ∙ ap (λ b. list_any (same name) seen || b) (or-false (same name (folded x.name)) ∙ same_comm name (folded x.name) ∙ same-folded_left x.name name)
            ∙ ap (λ b. b || same x.name name) (h.names name not_always)
            ∙ sym (bears-more name);
        told = ap (λ (t : Text). t ++ line_if kind key (record_field x)) h.told ∙ sym (lines-more kind key all (record_field x));
      })

-- ---- a loop that judges

-- `seen` and `lines` are those of the fields gathered from the rows read so far; `rest` is still to be read
pub record IsJudging (kind key : Text) (macros : Macros) (old seen : List Text) (before lines : Text) (read rest : List view.Field) : Type 0 where
  pub so_far : (rows : List Row) → AllZip IsFieldOf read rows → (all : List RecordField) → IsJudged kind key all old before →
      (later : List Row) × (gathered : List RecordField) × AllZip IsFieldOf rest later × IsJudged kind key gathered seen lines
      × (with_fields gathered (map (field_of macros) later) ≡ with_fields all (map (field_of macros) rows))

pub judging_start : (kind key : Text) (macros : Macros) (old : List Text) (before : Text) (read : List view.Field) → IsJudging kind key macros old old before before read read
judging_start kind key macros old before read = record { so_far = λ rows zip all h. (rows, all, zip, h, refl) }

pub judging_more : (kind key : Text) (macros : Macros) (old seen others : List Text) (before lines more : Text) (read rest : List view.Field) (f : view.Field) → IsJudging kind key macros old seen before lines read (f ∷ rest)
    → OfValue f.value (λ v. (all : List RecordField) → IsJudged kind key all seen lines → IsJudged kind key (with_field all (record { name = f.name; raw = raw_text macros v })) others more)
    → IsJudging kind key macros old others before more read rest
judging_more kind key macros old seen others before lines more read rest f h is = record {
  so_far = λ rows zip all from. let w = h.so_far rows zip all from in step rows all w.0 w.1 w.2 w.3 w.4;
}
  where
    step : (rows : List Row) (all : List RecordField) (later : List Row) (gathered : List RecordField) → AllZip IsFieldOf (f ∷ rest) later → IsJudged kind key gathered seen lines
        → with_fields gathered (map (field_of macros) later) ≡ with_fields all (map (field_of macros) rows)
        → (further : List Row) × (wider : List RecordField) × AllZip IsFieldOf rest further × IsJudged kind key wider others more
        × (with_fields wider (map (field_of macros) further) ≡ with_fields all (map (field_of macros) rows))
    step rows all [] gathered zip so e = elim zip [ ]
    step rows all (row ∷ further) gathered zip so e = (
      further,
      with_field gathered (field_of macros row),
      zip.1,
      subst (λ (name : Text). IsJudged kind key (with_field gathered (record { name = name; raw = raw_text macros row.assignment.value })) others more) zip.0.name (is row.assignment.value zip.0.is zip.0.value gathered so),
      e,
    )

pub judging_all : (kind key : Text) (macros : Macros) (old seen : List Text) (before lines : Text) (read : List view.Field) → IsJudging kind key macros old seen before lines read []
    → (rows : List Row) → AllZip IsFieldOf read rows → (all : List RecordField) → IsJudged kind key all old before → IsJudged kind key (with_fields all (map (field_of macros) rows)) seen lines
judging_all kind key macros old seen before lines read h rows zip all from = let w = h.so_far rows zip all from in done w.0 w.1 w.2 w.3 w.4
  where
    done : (later : List Row) (gathered : List RecordField) → AllZip IsFieldOf [] later → IsJudged kind key gathered seen lines
        → with_fields gathered (map (field_of macros) later) ≡ with_fields all (map (field_of macros) rows) → IsJudged kind key (with_fields all (map (field_of macros) rows)) seen lines
    done [] gathered z so e = subst (λ (fs : List RecordField). IsJudged kind key fs seen lines) e so
    done (_ ∷ _) gathered z so e = elim z [ ]
