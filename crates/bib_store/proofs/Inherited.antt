-- Records with what they inherit, from one parent after another.
use Rattle.bib_store.proofs.Words.{◌≡◌, ℕ, ◌+◌, ◌-◌, ◌<◌, ◌≤◌, List, [], ◌++◌, Some, None, option_map, sym, ◌∙◌, ap, arith, option_map_or, Text, folded, Tree, Entry, EntryTree, Macros, View, view_of, key_of, EntryTexts, texts_of, Record, RecordField, parent, own_fields, missing, fields_at}
use Rattle.std.proofs.Common.{slice_get}
use Rattle.bib_spec.specs.Reading.{Item}
use Rattle.bib_scan.specs.View.{head_of}
use Rattle.bib_spec.specs.Records.{ancestors, with_inherited, record_of, expanded}
use Rattle.bib_spec.specs.Lineages.{lineage}
use Rattle.bib_spec.proofs.Lineages.{lineage_more, lineage_none, lineage_done, rings-give-nothing-more}

-- the record of an entry with these fields
abbrev pub record_with : EntryTexts → List RecordField → Record
record_with entry fields = record { kind_name = folded entry.kind; key = entry.key; fields = fields }

-- these fields with what entry n inherits along its lineage
abbrev pub with_lineage : List EntryTexts → ℕ → ℕ → List RecordField → List RecordField
with_lineage entries depth n fields = with_inherited entries fields (lineage (parent entries) depth n)

-- the fields of entry n with what it inherits along its lineage
abbrev pub fields_along : List EntryTexts → ℕ → ℕ → List RecordField
fields_along entries depth n = with_lineage entries depth n (fields_at entries n)

pub expanded_along : (entries : List EntryTexts) (depth n : ℕ) (entry : EntryTexts) → slice_get entries n ≡ Some entry → expanded depth entries n ≡ Some (record_with entry (fields_along entries depth n))
expanded_along entries depth n entry at =
    ap (option_map (record_of depth entries n)) at
    ∙ ap (λ o. Some (record_with entry (with_inherited entries (option_map_or own_fields o []) (ancestors entries depth n)))) (sym at)
    ∙ ap (λ (fields : List RecordField). Some (record_with entry fields)) (sym (rings-give-nothing-more entries depth n))

abbrev record_from : Text → Text → List RecordField → Record
record_from kind key fields = record { kind_name = kind; key = key; fields = fields }

-- the record that is made of what is seen of an entry, and of gathered fields
pub record_made : (item : Item) (e : Entry) (macros : Macros) (seen : View) (kind key : Text) (fields gathered : List RecordField) → seen ≡ view_of item → item.tree ≡ EntryTree e
    → kind ≡ folded seen.type_name → key ≡ seen.key → gathered ≡ fields → record_with (texts_of macros e) fields ≡ record { kind_name = kind; key = key; fields = gathered }
record_made item e macros seen kind key fields gathered is tree kind_is key_is fields_are =
    let kind_of : kind ≡ folded e.opening.head.type_name = kind_is ∙ ap (λ (v : View). folded v.type_name) is ∙ ap (λ (t : Tree). folded (head_of t).type_name) tree in
    let key_of_e : key ≡ e.key = key_is ∙ ap (λ (v : View). v.key) is ∙ ap key_of tree in
    let first : record_from (folded e.opening.head.type_name) e.key fields ≡ record_from kind e.key fields =
    ap (λ (k : Text). record_from k e.key fields) (sym kind_of) in
    let second : record_from kind e.key fields ≡ record_from kind key fields = ap (λ (k : Text). record_from kind k fields) (sym key_of_e) in
    first ∙ second ∙ ap (record_from kind key) (sym fields_are)

-- ---- one parent after another

-- what is inherited along the rest of a lineage, once its first parents gave what they have
abbrev pub with_rest : List EntryTexts → ℕ → ℕ → ℕ → List RecordField → List RecordField
with_rest entries depth k heir fields = with_lineage entries (depth - k) heir fields

pub rest_whole : (entries : List EntryTexts) (depth n : ℕ) (fields : List RecordField) → with_rest entries depth 0 n fields ≡ with_lineage entries depth n fields
rest_whole entries depth n fields =
    let all : depth - 0 ≡ depth = omega arith in ap (λ (d : ℕ). with_lineage entries d n fields) all

pub rest_more : (entries : List EntryTexts) (depth k heir m : ℕ) (fields : List RecordField) → k < depth → parent entries heir ≡ Some m
    → with_rest entries depth (k + 1) m (fields ++ missing fields (fields_at entries m)) ≡ with_rest entries depth k heir fields
rest_more entries depth k heir m fields lt is = sym (ap (with_inherited entries fields) (lineage_more (parent entries) depth k heir m lt is))

pub rest_none : (entries : List EntryTexts) (depth k heir : ℕ) (fields : List RecordField) → parent entries heir ≡ None → fields ≡ with_rest entries depth k heir fields
rest_none entries depth k heir fields none = sym (ap (with_inherited entries fields) (lineage_none (parent entries) (depth - k) heir none))

pub rest_done : (entries : List EntryTexts) (depth k heir : ℕ) (fields : List RecordField) → depth ≤ k → fields ≡ with_rest entries depth k heir fields
rest_done entries depth k heir fields le = sym (ap (with_inherited entries fields) (lineage_done (parent entries) depth k heir le))
