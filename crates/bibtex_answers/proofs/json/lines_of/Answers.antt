use Rattle.std.proofs.Common.{◌≡◌, ◌≢◌, ◌∙◌, [], false, rules, sym, ap, subst, arith}
use Rattle.std.proofs.lemmas.Result.{IfOk-weaker}
use Rattle.bib_spec.specs.Text.{Text}
use Rattle.bib_spec.specs.Records.{entries_of}
use Rattle.bibtex_places.specs.declared.lists.BibtexEntry.{BibtexEntry}
use Rattle.entry_json.specs.declared.fault.JsonFault.{JsonFault}
use Rattle.entry_json.specs.declared.fault.JsonFault.TheVariants.{NotUtf8, Memory}
use Rattle.bib_answers.specs.Json.{is_told_in_utf8, not_utf8_line}
use Rattle.bib_answers.specs.Outcome.{answer_of}
use Rattle.bibtex_answers.specs.Entries.{HasRecord}
use Rattle.bibtex_answers.specs.Records.{told_record}
use Rattle.bibtex_answers.proofs.ListedRecords.{record_at}
use Rattle.bibtex_answers.proofs.JsonLines.{told_none, told_more, told_stops, told_all}
use Rattle.bibtex_answers.proofs.json.lines_of.Goals as goal

pub entries-init : goal.entries-init
entries-init c r reads records have = told_none (entries_of r) c.args.list.now c.new-lines.result.items c.new-lines.ensures.items

pub entries-preserved : goal.entries-preserved
entries-preserved c r reads records have =
    let at = record_at (entries_of r) c.args.list.now records c.entries.entry-index c.entry-item.result have c.entries-test.true in
    let has : HasRecord (entries_of r) c.entry-item.result at.0 = subst (λ (e : BibtexEntry). HasRecord (entries_of r) e at.0) (sym c.entry-item.is) at.1 in
    let line = c.in-Ok.ensures.line r reads at.0 has in
    told_more (entries_of r) c.args.list.now c.entries.entry-index c.entry-item.result c.entries-test.true at.0 at.1 c.entries.lines.items c.in-Ok.more.items line.0 line.1 (c.entries.invariant r reads records have)

pub returns-in-Err-NotUtf8 : goal.returns-in-Err-NotUtf8
returns-in-Err-NotUtf8 c = IfOk-weaker c.not_utf8.result _ _ (λ answer h r reads records have.
    let at = record_at (entries_of r) c.args.list.now records c.entries.entry-index c.entry-item.result have c.entries-test.true in
    let has : HasRecord (entries_of r) c.entry-item.result at.0 = subst (λ (e : BibtexEntry). HasRecord (entries_of r) e at.0) (sym c.entry-item.is) at.1 in
    let other : NotUtf8 ≢ Memory = search rules in
    let utf8 : is_told_in_utf8 (told_record at.0) ≡ false = c.in-Err-NotUtf8.ensures.fault (subst (λ (f : JsonFault). f ≢ Memory) (sym c.in-Err-NotUtf8.field-0-is) other) r reads at.0 has in
    h
    ∙ ap (λ (k : Text). answer_of [] (not_utf8_line k) 1) (c.as_slice.ensures ∙ ap (λ (e : BibtexEntry). e.key) c.entry-item.is)
    ∙ told_stops (entries_of r) c.args.list.now c.entries.entry-index c.entry-item.result c.entries-test.true at.0 at.1 c.entries.lines.items records utf8 have (c.entries.invariant r reads records have))
    c.not_utf8.ensures

pub returns : goal.returns
returns c r reads records have =
    told_all (entries_of r) c.args.list.now records c.entries.entry-index c.entries.lines.items c.done.result have (let end = c.entries-test.false in omega (arith, end)) (c.entries.invariant r reads records have)
    (c.done.ensures ∙ ap (λ (t : Text). answer_of t [] 0) c.from_vec.ensures)
