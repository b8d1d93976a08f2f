use Rattle.bib_answers.proofs.Words.{◌≡◌, ◌∙◌, ◌++◌, List, rules, sym, ap, same_Some, IfOk-weaker, on_ok_weaker, option_copied}
use Rattle.std.proofs.lemmas.Result.{IfErr-weaker}
use Rattle.entry_json.specs.RawJson.{entry_seen, raw_line, is_raw_utf8}
use Rattle.entry_json.specs.declared.raw.WrittenField.{WrittenField}
use Rattle.bib_answers.specs.Raw.{RawIn, raw_in_line, is_raw_in_utf8}
use Rattle.bib_answers.proofs.raw.with_entry.Goals as goal

pub returns-clause-line : goal.returns-clause-line
returns-clause-line c = IfOk-weaker c.add_raw_line.result _ _ (λ more is r reads one told.
    let found = c.in_ok-found.found in
    let lent : c.as_slice.result.now ≡ found.fields.items = search rules in
    is
    ∙ ap (λ (fields : List WrittenField). c.args.lines.items ++ raw_line (entry_seen found.entry fields) (option_copied found.file)) lent
    ∙ ap (λ (o : RawIn). c.args.lines.items ++ raw_in_line o) (same_Some (entry_seen found.entry found.fields.items, option_copied found.file) one (sym (c.in_ok-found.ensures r reads) ∙ told)))
    c.add_raw_line.ensures.line

pub returns-clause-utf8 : goal.returns-clause-utf8
returns-clause-utf8 c = on_ok_weaker c.add_raw_line.result (λ is r reads one told.
    let found = c.in_ok-found.found in
    let lent : c.as_slice.result.now ≡ found.fields.items = search rules in
    ap is_raw_in_utf8 (sym (same_Some (entry_seen found.entry found.fields.items, option_copied found.file) one (sym (c.in_ok-found.ensures r reads) ∙ told)))
    ∙ ap (λ (fields : List WrittenField). is_raw_utf8 (entry_seen found.entry fields) (option_copied found.file)) (sym lent)
    ∙ is)
    c.add_raw_line.ensures.utf8

pub returns-clause-fault : goal.returns-clause-fault
returns-clause-fault c = IfErr-weaker c.add_raw_line.result _ _ (λ fault is other r reads one told.
    let found = c.in_ok-found.found in
    let lent : c.as_slice.result.now ≡ found.fields.items = search rules in
    ap is_raw_in_utf8 (sym (same_Some (entry_seen found.entry found.fields.items, option_copied found.file) one (sym (c.in_ok-found.ensures r reads) ∙ told)))
    ∙ ap (λ (fields : List WrittenField). is_raw_utf8 (entry_seen found.entry fields) (option_copied found.file)) (sym lent)
    ∙ is other)
    c.add_raw_line.ensures.fault
