use Rattle.std.proofs.Common.{◌≡◌, Some, List, sym, refl, ◌∙◌, ap, ap₂, subst}
use Rattle.bib_spec.specs.Text.{Text, same}
use Rattle.bib_spec.specs.Tree.{Entry, EntryTree}
use Rattle.bib_scan.specs.View.{View, Field, view_of, fields_of}
use Rattle.bib_definitions.specs.MacrosSeen.{macros_seen}
use Rattle.bib_sayings.specs.FieldTables.{IsTableFound}
use Rattle.bib_sayings.proofs.EntriesAgree.{twice-first, twice-second, fields-differ, fields-agree}
use Rattle.bib_sayings.proofs.entries.entries_agree.Goals as goal

-- the fields of the view of an entry
seen-fields : (v : View) (fields : List Field) (e : Entry) (trail : Text) → fields ≡ v.fields → v ≡ view_of (record { tree = EntryTree e; trail = trail }) → fields ≡ fields_of (EntryTree e)
seen-fields v fields e trail is seen = is ∙ ap (λ (w : View). w.fields) seen

pub returns-in_default : goal.returns-in_default
returns-in_default c ea eb ta tb is_a is_b seen_a seen_b =
    twice-first (macros_seen c.args.macros_a.now) (macros_seen c.args.macros_b.now) ea eb is_a is_b c.fields.result (fields_of (EntryTree eb))
    (seen-fields c.args.a.now c.fields.result ea ta c.fields.ensures.fields seen_a) refl c.in_ok-table_a.field-0 c.in_default.is c.in_ok-table_a.ensures

pub returns-in_default-2 : goal.returns-in_default-2
returns-in_default-2 c ea eb ta tb is_a is_b seen_a seen_b =
    twice-second (macros_seen c.args.macros_a.now) (macros_seen c.args.macros_b.now) ea eb is_a is_b (fields_of (EntryTree ea)) c.fields-2.result
    refl (seen-fields c.args.b.now c.fields-2.result eb tb c.fields-2.ensures.fields seen_b) c.in_ok-table_b.field-0 c.in_default-2.is c.in_ok-table_b.ensures

pub returns-then-not-branch : goal.returns-then-not-branch
returns-then-not-branch c ea eb ta tb is_a is_b seen_a seen_b =
    fields-differ (macros_seen c.args.macros_a.now) (macros_seen c.args.macros_b.now) ea eb is_a is_b c.fields-3.result c.fields-2.result
    (seen-fields c.args.a.now c.fields-3.result ea ta c.fields-3.ensures.fields seen_a) (seen-fields c.args.b.now c.fields-2.result eb tb c.fields-2.ensures.fields seen_b)
    (ap₂ (λ (a b : Text). same a b) (sym (c.type_name.ensures ∙ ap (λ (v : View). v.type_name) seen_a)) (sym (c.type_name-2.ensures ∙ ap (λ (v : View). v.type_name) seen_b)) ∙ sym c.same_folded.ensures ∙ c.if-not-same_folded.false)
    c.in-Some.table_a c.in-Some-2.table_b
    (subst (λ (fs : List Field). IsTableFound (Some c.in-Some.table_a) fs) (c.fields.ensures.fields ∙ sym c.fields-3.ensures.fields) (subst (λ o. IsTableFound o c.fields.result) c.in-Some.is c.in_ok-table_a.ensures))
    (subst (λ o. IsTableFound o c.fields-2.result) c.in-Some-2.is c.in_ok-table_b.ensures)
    c.in_ok-tables_agree.field-0 c.in_ok-tables_agree.ensures c.if-not-branch.true

pub returns : goal.returns
returns c ea eb ta tb is_a is_b seen_a seen_b =
    fields-agree (macros_seen c.args.macros_a.now) (macros_seen c.args.macros_b.now) ea eb is_a is_b c.fields-3.result c.fields-4.result
    (seen-fields c.args.a.now c.fields-3.result ea ta c.fields-3.ensures.fields seen_a) (seen-fields c.args.b.now c.fields-4.result eb tb c.fields-4.ensures.fields seen_b)
    (ap₂ (λ (a b : Text). same a b) (sym (c.type_name.ensures ∙ ap (λ (v : View). v.type_name) seen_a)) (sym (c.type_name-2.ensures ∙ ap (λ (v : View). v.type_name) seen_b)) ∙ sym c.same_folded.ensures ∙ c.if-not-same_folded.false)
    c.in-Some.table_a c.in-Some-2.table_b
    (subst (λ (fs : List Field). IsTableFound (Some c.in-Some.table_a) fs) (c.fields.ensures.fields ∙ sym c.fields-3.ensures.fields) (subst (λ o. IsTableFound o c.fields.result) c.in-Some.is c.in_ok-table_a.ensures))
    (subst (λ (fs : List Field). IsTableFound (Some c.in-Some-2.table_b) fs) (c.fields-2.ensures.fields ∙ sym c.fields-4.ensures.fields) (subst (λ o. IsTableFound o c.fields-2.result) c.in-Some-2.is c.in_ok-table_b.ensures))
    c.in_ok-tables_agree.field-0 c.in_ok-tables_agree.ensures c.in_ok-rest.rest c.if-not-branch.false c.in_ok-rest.ensures
