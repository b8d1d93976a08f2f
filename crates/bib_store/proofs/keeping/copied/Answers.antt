use Rattle.bib_store.proofs.Words.{◌<◌, ◌≤◌, length, inl, rules, file_limit, no_memory}
use Rattle.bib_spec.specs.Fault.{too_long}
use Rattle.bib_store.proofs.keeping.copied.Goals as goal

pub returns-then-bytes-gt-FILE_LIMIT-clause-fault : goal.returns-then-bytes-gt-FILE_LIMIT-clause-fault
returns-then-bytes-gt-FILE_LIMIT-clause-fault c =
    let long : file_limit < length c.args.bytes.now = search rules in
    inl (too_long long)

pub returns-in-Err-clause-fault : goal.returns-in-Err-clause-fault
returns-in-Err-clause-fault c =
    let short : length c.args.bytes.now ≤ file_limit = search rules in
    inl (no_memory short)
