use Rattle.std.proofs.Common.{◌<◌, ◌∙◌, ap, arith, length}
use Rattle.bib_spec.specs.Text.{folded}
use Rattle.bib_spec.specs.Texts.{months, macros_at}
use Rattle.bib_spec.specs.Records.{entries_of}
use Rattle.bib_store.proofs.EntryItems.{IsEntryAt, entry_at}
use Rattle.bibtex_lists.proofs.Inherited.{no_kind, kind_is}
use Rattle.bibtex_lists.proofs.records.kind_of.Goals as goal

pub returns-then-n-count : goal.returns-then-n-count
returns-then-n-count g c r reads =
    let count = c.entry_count-count.ensures r reads in
    let test = c.if-n-count.true in
    c.empty.ensures ∙ no_kind (entries_of r) c.args.n (omega (arith, count, test))

pub entry-requires : goal.entry-requires
entry-requires g c r reads =
    let count = c.entry_count-count.ensures r reads in
    let test = c.if-n-count.false in
    omega (arith, count, test)

pub returns : goal.returns
returns g c r reads =
    let count = c.entry_count-count.ensures r reads in
    let test = c.if-n-count.false in
    let lt : c.args.n < length (entries_of r) = omega (arith, count, test) in
    let at = entry_at r c.args.n lt in
    let it : IsEntryAt r c.args.n at.0 = at.1 in
    kind_is (entries_of r) c.args.n at.0 it.entry (macros_at months r.items it.number) c.entry.result c.in_ok-kind.kind it.texts it.is (c.entry.ensures r reads at.0 it.listed)
    (c.in_ok-kind.ensures ∙ ap folded c.type_name.ensures)
