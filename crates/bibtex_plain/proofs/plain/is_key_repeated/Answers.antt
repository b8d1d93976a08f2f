use Rattle.std.proofs.Common.{Some, None}
use Rattle.bib_spec.specs.Records.{entries_of, keys_of}
use Rattle.bibtex_plain.proofs.EarlierKeys.{apart_unnamed, first_earlier}
use Rattle.bibtex_plain.proofs.plain.is_key_repeated.Goals as goal

pub returns-then-are_keys_apart : goal.returns-then-are_keys_apart
returns-then-are_keys_apart c r reads =
    apart_unnamed (entries_of r) c.args.n c.args.key.now (c.requires r reads) (c.are_keys_apart.ensures c.if-are_keys_apart.true r reads)

pub returns-in-Ok : goal.returns-in-Ok
returns-in-Ok c r reads = first_earlier (keys_of (entries_of r)) c.args.n c.args.key.now (Some c.in-Ok.first) (c.in-Ok.ensures.found r reads)

pub returns-in-Err : goal.returns-in-Err
returns-in-Err c r reads = first_earlier (keys_of (entries_of r)) c.args.n c.args.key.now None (c.in-Err.ensures.none.1 r reads)
