use Rattle.bib_answers.proofs.Words.{◌∙◌, [], sym, ap, append-nil, on_ok_weaker, not, list_any, Text, entries_of, entry_named, folded}
use Rattle.std.proofs.Common.{is_none, ◌||◌, ◌++◌, if◌then◌else◌, Bool}
use Rattle.std.specs.Str.{bytes_eq}
use Rattle.bib_answers.specs.Lint.{missing_line, warning_line}
use Rattle.bib_answers.specs.Positions.{position}
use Rattle.bib_answers.specs.declared.warnings.Warning.TheVariants.{MissingKey}
use Rattle.bib_answers.proofs.MissingKeys.{told_found, told_more}
use Rattle.bib_answers.proofs.missing_keys.add_missing.Goals as goal

pub returns-then-not-is_missing : goal.returns-then-not-is_missing
returns-then-not-is_missing c r reads start before have =
    told_found (entries_of r) start before (c.args.file.now, c.args.cited.now) c.args.out.now.items c.args.told.now
    (ap (λ (key : Text). is_none (entry_named (entries_of r) key)) (sym c.as_slice-key.ensures) ∙ sym (c.is_missing.ensures r reads) ∙ c.if-not-is_missing.true)
    have

pub returns-then-not-added : goal.returns-then-not-added
returns-then-not-added c r reads start before have =
    told_more (entries_of r) start before (c.args.file.now, c.args.cited.now) c.args.out.now.items c.args.out.now.items c.args.told.now c.add.new.self c.in_ok-added.added
    (ap (λ (key : Text). is_none (entry_named (entries_of r) key)) (sym c.as_slice-key.ensures) ∙ sym (c.is_missing.ensures r reads) ∙ c.if-not-is_missing.false)
    (c.in_ok-added.ensures.added ∙ ap (λ (key : Text). not (list_any (bytes_eq (folded key)) c.args.told.now)) c.as_slice-key.ensures)
    (λ x. c.in_ok-added.ensures.keys x ∙ ap (λ (key : Text). bytes_eq x (folded key) || list_any (bytes_eq x) c.args.told.now) c.as_slice-key.ensures)
    (sym (append-nil c.args.out.now.items) ∙ ap (λ (b : Bool). c.args.out.now.items ++ (if b then missing_line (c.args.file.now, c.args.cited.now) else [])) (sym c.if-not-added.true))
    have

pub returns : goal.returns
returns c = on_ok_weaker c.add_warning.result (λ h r reads start before have.
    told_more (entries_of r) start before (c.args.file.now, c.args.cited.now) c.args.out.now.items c.add_warning.new.out.items c.args.told.now c.add.new.self c.in_ok-added.added
    (ap (λ (key : Text). is_none (entry_named (entries_of r) key)) (sym c.as_slice-key.ensures) ∙ sym (c.is_missing.ensures r reads) ∙ c.if-not-is_missing.false)
    (c.in_ok-added.ensures.added ∙ ap (λ (key : Text). not (list_any (bytes_eq (folded key)) c.args.told.now)) c.as_slice-key.ensures)
    (λ x. c.in_ok-added.ensures.keys x ∙ ap (λ (key : Text). bytes_eq x (folded key) || list_any (bytes_eq x) c.args.told.now) c.as_slice-key.ensures)
    (h ∙ ap (λ (key : Text). c.args.out.now.items ++ warning_line c.args.file.now (position c.args.cited.now.line c.args.cited.now.column) MissingKey key) c.as_slice-key.ensures
    ∙ ap (λ (b : Bool). c.args.out.now.items ++ (if b then missing_line (c.args.file.now, c.args.cited.now) else [])) (sym c.if-not-added.false))
    have)
    c.add_warning.ensures
