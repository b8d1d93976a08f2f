use Rattle.bib_run.proofs.Words.{◌≤◌, ◌<◌, length, rules, IfOk-weaker, file_limit, within}
use Rattle.bib_run.specs.Inputs.{too_long}
use Rattle.bib_run.proofs.UpToJournal.{up_to, up_to-weaker}
use Rattle.bib_run.proofs.commands.import.answer_records.Goals as goal

pub returns-then-input-gt-FILE_LIMIT : goal.returns-then-input-gt-FILE_LIMIT
returns-then-input-gt-FILE_LIMIT c =
    let long : file_limit < length c.args.input.now = search rules in
    IfOk-weaker c.too_long.result _ _ (λ answer h. up_to c.args.no_journal _ answer (too_long long h)) c.too_long.ensures

pub returns : goal.returns
returns c =
    let short : length c.args.input.now ≤ file_limit = search rules in
    IfOk-weaker c.import_into.result _ _ (λ given h. up_to-weaker c.args.no_journal _ _ given (λ answer is. within short is) h) c.import_into.ensures
