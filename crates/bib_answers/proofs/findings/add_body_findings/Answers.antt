use Rattle.bib_answers.proofs.Words.{◌≡◌, ◌∙◌, ℕ, true, false, rules, sym, ap, false≢true, option_copied, on_ok_weaker, entries_of, is_repeated, assigned, crossref_findings, crossrefs_of}
use Rattle.std.proofs.Common.{count_by}
use Rattle.bib_answers.specs.Plain.{is_other}
use Rattle.bib_answers.proofs.ItemFields.{IsViewed, viewed, viewed_tree, viewed_sound, told_entry, entry_within, entry_key}
use Rattle.bib_answers.proofs.ItemFindings.{other_written, entry_written}
use Rattle.bib_answers.proofs.PlainBodies.{fields_plain, head_plain}
use Rattle.bib_answers.proofs.findings.add_body_findings.Goals as goal

pub add_field_findings-requires-clause-sound : goal.add_field_findings-requires-clause-sound
add_field_findings-requires-clause-sound c =
    let opened = c.opens.ensures in
    viewed_sound opened.0 c.args.it.n c.args.it.view.now (viewed c.args.db.now opened.0 c.args.it.n c.args.it.view.now opened.1.reads (c.requires.item opened.0 opened.1.reads) (c.requires.seen opened.0 opened.1.reads))

pub add_field_findings-requires-clause-plain : goal.add_field_findings-requires-clause-plain
add_field_findings-requires-clause-plain c known = absurd (false≢true known)

pub returns-then-not-is_same_kind : goal.returns-then-not-is_same_kind
returns-then-not-is_same_kind c = on_ok_weaker c.add_field_findings.result (λ h r reads.
    let is : IsViewed r c.args.it.n c.args.it.view.now = viewed c.args.db.now r c.args.it.n c.args.it.view.now reads (c.requires.item r reads) (c.requires.seen r reads) in
    let told : c.is_same_kind.result ≡ false = search rules in
    other_written r c.args.it.n c.args.it.view.now is c.redefines.result (crossref_findings c.none.result.empty_parents c.none.result.key.now c.none.result.n (option_copied c.none.result.text) c.none.result.target c.none.result.grandparent) _
    c.args.lines.now c.add_field_findings.new.lines
    (sym (told_entry r c.args.it.n c.args.it.view.now c.kind.result c.is_same_kind.result is c.kind.ensures c.is_same_kind.ensures) ∙ told)
    (c.redefines.ensures r reads is.item (viewed_tree c.args.db.now r c.args.it.n c.args.it.view.now reads is) is.view_is)
    (c.macros_at-macros.ensures r reads)
    (h (assigned is.item.tree) is.fields))
    c.add_field_findings.ensures

pub is_repeated-repeated-requires : goal.is_repeated-repeated-requires
is_repeated-repeated-requires c r reads =
    let is : IsViewed r c.args.it.n c.args.it.view.now = viewed c.args.db.now r c.args.it.n c.args.it.view.now reads (c.requires.item r reads) (c.requires.seen r reads) in
    let told : c.is_same_kind.result ≡ true = search rules in
    entry_key r c.args.it.n c.args.it.view.now c.args.it.entries is (sym (told_entry r c.args.it.n c.args.it.view.now c.kind.result c.is_same_kind.result is c.kind.ensures c.is_same_kind.ensures) ∙ told) (c.requires.entries r reads) c.key.result.now c.key.ensures

pub add_key_findings-requires : goal.add_key_findings-requires
add_key_findings-requires c known =
    let opened = c.opens.ensures in
    let is : IsViewed opened.0 c.args.it.n c.args.it.view.now = viewed c.args.db.now opened.0 c.args.it.n c.args.it.view.now opened.1.reads (c.requires.item opened.0 opened.1.reads) (c.requires.seen opened.0 opened.1.reads) in
    let told : c.is_same_kind.result ≡ true = search rules in
    head_plain opened.0 c.args.it.n c.args.it.view.now is
    (sym (told_entry opened.0 c.args.it.n c.args.it.view.now c.kind.result c.is_same_kind.result is c.kind.ensures c.is_same_kind.ensures) ∙ told)
    (sym (ap (count_by is_other) c.body.ensures) ∙ c.is_ascii-ascii.ensures known)

pub crossref_of-requires-clause-number : goal.crossref_of-requires-clause-number
crossref_of-requires-clause-number c r reads =
    let is : IsViewed r c.args.it.n c.args.it.view.now = viewed c.args.db.now r c.args.it.n c.args.it.view.now reads (c.requires.item r reads) (c.requires.seen r reads) in
    let told : c.is_same_kind.result ≡ true = search rules in
    entry_within r c.args.it.n c.args.it.view.now c.args.it.entries is (sym (told_entry r c.args.it.n c.args.it.view.now c.kind.result c.is_same_kind.result is c.kind.ensures c.is_same_kind.ensures) ∙ told) (c.requires.entries r reads)

pub crossref_of-requires-clause-key : goal.crossref_of-requires-clause-key
crossref_of-requires-clause-key c r reads =
    let is : IsViewed r c.args.it.n c.args.it.view.now = viewed c.args.db.now r c.args.it.n c.args.it.view.now reads (c.requires.item r reads) (c.requires.seen r reads) in
    let told : c.is_same_kind.result ≡ true = search rules in
    entry_key r c.args.it.n c.args.it.view.now c.args.it.entries is (sym (told_entry r c.args.it.n c.args.it.view.now c.kind.result c.is_same_kind.result is c.kind.ensures c.is_same_kind.ensures) ∙ told) (c.requires.entries r reads) c.key-2.result.now c.key-2.ensures

pub add_field_findings-requires-2-clause-sound : goal.add_field_findings-requires-2-clause-sound
add_field_findings-requires-2-clause-sound c =
    let opened = c.opens.ensures in
    viewed_sound opened.0 c.args.it.n c.args.it.view.now (viewed c.args.db.now opened.0 c.args.it.n c.args.it.view.now opened.1.reads (c.requires.item opened.0 opened.1.reads) (c.requires.seen opened.0 opened.1.reads))

pub add_field_findings-requires-2-clause-plain : goal.add_field_findings-requires-2-clause-plain
add_field_findings-requires-2-clause-plain c known =
    let opened = c.opens.ensures in
    let is : IsViewed opened.0 c.args.it.n c.args.it.view.now = viewed c.args.db.now opened.0 c.args.it.n c.args.it.view.now opened.1.reads (c.requires.item opened.0 opened.1.reads) (c.requires.seen opened.0 opened.1.reads) in
    let told : c.is_same_kind.result ≡ true = search rules in
    fields_plain opened.0 c.args.it.n c.args.it.view.now is
    (sym (told_entry opened.0 c.args.it.n c.args.it.view.now c.kind.result c.is_same_kind.result is c.kind.ensures c.is_same_kind.ensures) ∙ told)
    (sym (ap (count_by is_other) c.body.ensures) ∙ c.is_ascii-ascii.ensures known)

pub returns : goal.returns
returns c = on_ok_weaker c.add_field_findings-2.result (λ h r reads.
    let is : IsViewed r c.args.it.n c.args.it.view.now = viewed c.args.db.now r c.args.it.n c.args.it.view.now reads (c.requires.item r reads) (c.requires.seen r reads) in
    let told : c.is_same_kind.result ≡ true = search rules in
    entry_written r c.args.it.n c.args.it.view.now is false (crossref_findings c.crossref_of.result.empty_parents c.crossref_of.result.key.now c.crossref_of.result.n (option_copied c.crossref_of.result.text) c.crossref_of.result.target c.crossref_of.result.grandparent) _
    c.args.lines.now c.add_key_findings.new.lines c.add_field_findings-2.new.lines c.is_repeated-repeated.result
    (sym (told_entry r c.args.it.n c.args.it.view.now c.kind.result c.is_same_kind.result is c.kind.ensures c.is_same_kind.ensures) ∙ told)
    (λ at. c.crossref_of.ensures r reads at ∙ ap (λ (e : ℕ). crossrefs_of (entries_of r) e at) (c.requires.entries r reads))
    (c.macros_at-macros.ensures r reads) (c.is_repeated-repeated.ensures r reads ∙ ap (is_repeated (entries_of r)) (c.requires.entries r reads))
    c.in_ok-add_key_findings.ensures
    (h (assigned is.item.tree) is.fields))
    c.add_field_findings-2.ensures
