use Rattle.bib_answers.proofs.Words.{◌≡◌, ◌≢◌, ◌∙◌, ◌<◌, [], false, length, get_or, rules, sym, ap, subst, IfOk-weaker, Text, entries_of, not_utf8_line, answer_of}
use Rattle.entry_json.specs.declared.fault.JsonFault.{JsonFault}
use Rattle.entry_json.specs.declared.fault.JsonFault.TheVariants.{NotUtf8, Memory}
use Rattle.bib_answers.specs.Json.{file_of, told_in, told_key, told_line, is_told_in_utf8}
use Rattle.bib_answers.specs.Entries.{key_at}
use Rattle.bib_answers.proofs.EntryNumbers.{entry_key}
use Rattle.bib_answers.proofs.JsonLines.{told_entry, told_more, told_stops}
use Rattle.std.specs.Option.{option_copied}
use Rattle.bib_answers.proofs.json.lines_of.Goals as goal

pub returns-in-Err-NotUtf8 : goal.returns-in-Err-NotUtf8
returns-in-Err-NotUtf8 c = IfOk-weaker c.not_utf8.result _ _ (λ answer h r reads.
    let list = c.args.list.now in
    let i = c.entries.n-index in
    let within : get_or list i 0 < length (entries_of r) = c.requires.numbers r reads i 0 c.entries-test.true in
    let told = told_entry c.args.depth (entries_of r) (file_of (option_copied c.args.files) r) (get_or list i 0) within in
    let other : NotUtf8 ≢ Memory = search rules in
    let utf8 : is_told_in_utf8 told.0 ≡ false = c.in-Err-NotUtf8.ensures.fault (subst (λ (f : JsonFault). f ≢ Memory) (sym c.in-Err-NotUtf8.field-0-is) other) r reads told.0 told.1 in
    h
    ∙ ap (λ (k : Text). answer_of [] (not_utf8_line k) 1) (c.key.ensures ∙ entry_key r (get_or list i 0) c.entry.result within (c.entry.ensures r reads))
    ∙ told_stops is_told_in_utf8 told_key told_line (told_in c.args.depth (entries_of r) (file_of (option_copied c.args.files) r)) list i 0 c.entries-test.true told.0 told.1 c.entries.lines.items (key_at (entries_of r) (get_or list i 0)) utf8 told.2 (c.entries.invariant r reads))
    c.not_utf8.ensures

pub entries-preserved : goal.entries-preserved
entries-preserved c r reads =
    let list = c.args.list.now in
    let i = c.entries.n-index in
    let within : get_or list i 0 < length (entries_of r) = c.requires.numbers r reads i 0 c.entries-test.true in
    let told = told_entry c.args.depth (entries_of r) (file_of (option_copied c.args.files) r) (get_or list i 0) within in
    let line = c.in-Ok.ensures.line r reads told.0 told.1 in
    told_more is_told_in_utf8 told_key told_line (told_in c.args.depth (entries_of r) (file_of (option_copied c.args.files) r)) list i 0 c.entries-test.true told.0 told.1 c.entries.lines.items c.in-Ok.more.items line.0 line.1 (c.entries.invariant r reads)
