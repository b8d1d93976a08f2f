use Rattle.bib_answers.proofs.Words.{◌∙◌, sym, entries_of, take}
use Rattle.bib_answers.specs.Lint.{citations}
use Rattle.bib_answers.proofs.MissingKeys.{told_none, told_file, missing_none, missing_all}
use Rattle.bib_answers.proofs.missing_keys.add_missing_keys.Goals as goal

pub files-init : goal.files-init
files-init c r reads = told_none (entries_of r) c.args.out.now.items c.new-told.result c.new-told.ensures

pub files-preserved : goal.files-preserved
files-preserved c r reads =
    told_file c.args.files.now c.files.file-index c.file-item.result c.as_slice-name.result.now c.as_slice-keys.result.now (entries_of r) c.args.out.now.items _ _ c.files-test.true c.file-item.is c.as_slice-name.ensures c.as_slice-keys.ensures
    (c.in_ok-add_missing_in.ensures r reads c.args.out.now.items (citations (take c.files.file-index c.args.files.now)) (c.files.invariant r reads))

pub returns-then-is_ignored : goal.returns-then-is_ignored
returns-then-is_ignored c r reads = missing_none c.args.ignored.now (entries_of r) c.args.files.now c.args.out.now.items (sym c.is_ignored.ensures ∙ c.if-is_ignored.true)

pub returns : goal.returns
returns c r reads =
    missing_all c.args.ignored.now (entries_of r) c.args.files.now c.files.file-index c.args.out.now.items _ _ (sym c.is_ignored.ensures ∙ c.if-is_ignored.false) c.files-test.false (c.files.invariant r reads)
