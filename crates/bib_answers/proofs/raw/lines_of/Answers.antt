use Rattle.bib_answers.proofs.Words.{◌≡◌, ◌≢◌, ◌∙◌, ◌<◌, [], false, length, get_or, rules, sym, ap, subst, IfOk-weaker, Text, entries_of, key_at, not_utf8_line, answer_of}
use Rattle.entry_json.specs.declared.fault.JsonFault.{JsonFault}
use Rattle.entry_json.specs.declared.fault.JsonFault.TheVariants.{NotUtf8, Memory}
use Rattle.bib_answers.specs.Raw.{raw_in, raw_in_key, raw_in_line, is_raw_in_utf8}
use Rattle.bib_answers.proofs.EntryNumbers.{entry_key}
use Rattle.bib_answers.proofs.JsonLines.{told_more, told_stops}
use Rattle.bib_answers.proofs.RawLines.{raw_told}
use Rattle.std.specs.Option.{option_copied}
use Rattle.bib_answers.proofs.raw.lines_of.Goals as goal

pub returns-in-Err-NotUtf8 : goal.returns-in-Err-NotUtf8
returns-in-Err-NotUtf8 c = IfOk-weaker c.not_utf8.result _ _ (λ answer h r reads.
    let list = c.args.list.now in
    let i = c.entries.n-index in
    let files = option_copied c.args.files in
    let within : get_or list i 0 < length (entries_of r) = c.requires.numbers r reads i 0 c.entries-test.true in
    let told = raw_told c.args.depth files r (get_or list i 0) within in
    let other : NotUtf8 ≢ Memory = search rules in
    let utf8 : is_raw_in_utf8 told.0 ≡ false = c.in-Err-NotUtf8.ensures.fault (subst (λ (f : JsonFault). f ≢ Memory) (sym c.in-Err-NotUtf8.field-0-is) other) r reads told.0 told.1 in
    h
    ∙ ap (λ (k : Text). answer_of [] (not_utf8_line k) 1) (c.key.ensures ∙ entry_key r (get_or list i 0) c.entry.result within (c.entry.ensures r reads))
    ∙ told_stops is_raw_in_utf8 raw_in_key raw_in_line (raw_in c.args.depth files r) list i 0 c.entries-test.true told.0 told.1 c.entries.lines.items (key_at (entries_of r) (get_or list i 0)) utf8 told.2 (c.entries.invariant r reads))
    c.not_utf8.ensures

pub entries-preserved : goal.entries-preserved
entries-preserved c r reads =
    let list = c.args.list.now in
    let i = c.entries.n-index in
    let files = option_copied c.args.files in
    let within : get_or list i 0 < length (entries_of r) = c.requires.numbers r reads i 0 c.entries-test.true in
    let told = raw_told c.args.depth files r (get_or list i 0) within in
    told_more is_raw_in_utf8 raw_in_key raw_in_line (raw_in c.args.depth files r) list i 0 c.entries-test.true told.0 told.1 c.entries.lines.items c.in-Ok.more.items
    (c.in-Ok.ensures.utf8 r reads told.0 told.1) (c.in-Ok.ensures.line r reads told.0 told.1) (c.entries.invariant r reads)
