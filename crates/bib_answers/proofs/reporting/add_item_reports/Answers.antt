use Rattle.bib_answers.proofs.Words.{◌≡◌, ◌∙◌, ◌++◌, [], true, false, rules, sym, ap, Macros, assigned, defined_in, field_reports}
use Rattle.bib_answers.proofs.ItemFields.{IsViewed, viewed, viewed_sound, told_entry, entry_within, entry_key, other_reported, entry_reported}
use Rattle.bib_answers.proofs.reporting.add_item_reports.Goals as goal

pub add_field_reports-requires : goal.add_field_reports-requires
add_field_reports-requires c =
    let opened = c.opens.ensures in
    viewed_sound opened.0 c.args.it.n c.args.it.view.now (viewed c.args.db.now opened.0 c.args.it.n c.args.it.view.now opened.1.reads (c.requires.item opened.0 opened.1.reads) (c.requires.seen opened.0 opened.1.reads))

pub returns-then-not-is_same_kind : goal.returns-then-not-is_same_kind
returns-then-not-is_same_kind c r reads =
    let is : IsViewed r c.args.it.n c.args.it.view.now = viewed c.args.db.now r c.args.it.n c.args.it.view.now reads (c.requires.item r reads) (c.requires.seen r reads) in
    let told : c.is_same_kind.result ≡ false = search rules in
    c.in_ok-add_field_reports.ensures (assigned is.item.tree) is.fields
    ∙ ap (λ (m : Macros). c.args.out.now.items ++ field_reports (defined_in c.args.it.view.now.kind) m c.args.it.view.now.key [] (assigned is.item.tree)) (c.macros_at-macros.ensures r reads)
    ∙ other_reported r c.args.it.n c.args.it.view.now is c.args.out.now.items (sym (told_entry r c.args.it.n c.args.it.view.now c.kind.result c.is_same_kind.result is c.kind.ensures c.is_same_kind.ensures) ∙ told)

pub is_repeated-requires : goal.is_repeated-requires
is_repeated-requires c r reads =
    let is : IsViewed r c.args.it.n c.args.it.view.now = viewed c.args.db.now r c.args.it.n c.args.it.view.now reads (c.requires.item r reads) (c.requires.seen r reads) in
    let told : c.is_same_kind.result ≡ true = search rules in
    entry_key r c.args.it.n c.args.it.view.now c.args.it.entries is (sym (told_entry r c.args.it.n c.args.it.view.now c.kind.result c.is_same_kind.result is c.kind.ensures c.is_same_kind.ensures) ∙ told) (c.requires.entries r reads) c.key.result.now c.key.ensures

pub add_field_reports-requires-2 : goal.add_field_reports-requires-2
add_field_reports-requires-2 c =
    let opened = c.opens.ensures in
    viewed_sound opened.0 c.args.it.n c.args.it.view.now (viewed c.args.db.now opened.0 c.args.it.n c.args.it.view.now opened.1.reads (c.requires.item opened.0 opened.1.reads) (c.requires.seen opened.0 opened.1.reads))

pub crossref_text-requires : goal.crossref_text-requires
crossref_text-requires c r reads =
    let is : IsViewed r c.args.it.n c.args.it.view.now = viewed c.args.db.now r c.args.it.n c.args.it.view.now reads (c.requires.item r reads) (c.requires.seen r reads) in
    let told : c.is_same_kind.result ≡ true = search rules in
    entry_within r c.args.it.n c.args.it.view.now c.args.it.entries is (sym (told_entry r c.args.it.n c.args.it.view.now c.kind.result c.is_same_kind.result is c.kind.ensures c.is_same_kind.ensures) ∙ told) (c.requires.entries r reads)

pub target-requires : goal.target-requires
target-requires c r reads =
    let is : IsViewed r c.args.it.n c.args.it.view.now = viewed c.args.db.now r c.args.it.n c.args.it.view.now reads (c.requires.item r reads) (c.requires.seen r reads) in
    let told : c.is_same_kind.result ≡ true = search rules in
    entry_within r c.args.it.n c.args.it.view.now c.args.it.entries is (sym (told_entry r c.args.it.n c.args.it.view.now c.kind.result c.is_same_kind.result is c.kind.ensures c.is_same_kind.ensures) ∙ told) (c.requires.entries r reads)

pub returns : goal.returns
returns c r reads =
    let is : IsViewed r c.args.it.n c.args.it.view.now = viewed c.args.db.now r c.args.it.n c.args.it.view.now reads (c.requires.item r reads) (c.requires.seen r reads) in
    let told : c.is_same_kind.result ≡ true = search rules in
    rw (
      c.in_ok-add_crossref.ensures,
      c.in_ok-add_field_reports-2.ensures (assigned is.item.tree) is.fields,
      c.in_ok-add_repeated.ensures,
      c.key-3.ensures,
      c.key-2.ensures,
      c.is_repeated.ensures r reads,
      c.crossref_text.ensures r reads,
      c.target.ensures r reads,
      c.macros_at-macros.ensures r reads,
      c.requires.entries r reads,
    )
    (entry_reported r c.args.it.n c.args.it.view.now is c.args.out.now.items (sym (told_entry r c.args.it.n c.args.it.view.now c.kind.result c.is_same_kind.result is c.kind.ensures c.is_same_kind.ensures) ∙ told))
