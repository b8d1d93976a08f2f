use Rattle.std.proofs.Common.{subst}
use Rattle.std.specs.Option.{IfSome}
use Rattle.std.proofs.lemmas.Result.{IfErr-weaker}
use Rattle.bib_renames.specs.Renamed.{IsFollowed}
use Rattle.bib_merge.specs.Merges.{IsOrMemory}
use Rattle.bib_merge.proofs.FollowedFiles.{followed_as, refused_followed}
use Rattle.bib_merge.proofs.RefusedTexts.{base_opens, ours_opens, theirs_opens}
use Rattle.bib_merge.proofs.merging.merge_changed.Goals as goal

pub merge_followed-requires-clause-base : goal.merge_followed-requires-clause-base
merge_followed-requires-clause-base c =
    base_opens c.args.b c.args.o c.args.t c.in-Ok-Some.files c.opens.ensures (subst (λ found. IfSome found (IsFollowed c.args.b c.args.o c.args.t)) c.in-Ok-Some.field-0-is c.in-Ok-Some.ensures)

pub merge_followed-requires-clause-ours : goal.merge_followed-requires-clause-ours
merge_followed-requires-clause-ours c =
    ours_opens c.args.b c.args.o c.args.t c.in-Ok-Some.files c.opens-2.ensures (subst (λ found. IfSome found (IsFollowed c.args.b c.args.o c.args.t)) c.in-Ok-Some.field-0-is c.in-Ok-Some.ensures)

pub merge_followed-requires-clause-theirs : goal.merge_followed-requires-clause-theirs
merge_followed-requires-clause-theirs c =
    theirs_opens c.args.b c.args.o c.args.t c.in-Ok-Some.files c.opens-3.ensures (subst (λ found. IfSome found (IsFollowed c.args.b c.args.o c.args.t)) c.in-Ok-Some.field-0-is c.in-Ok-Some.ensures)

pub returns-in-Ok-Some-clause-merged : goal.returns-in-Ok-Some-clause-merged
returns-in-Ok-Some-clause-merged c =
    followed_as c.args.b c.args.o c.args.t c.in-Ok-Some.files (subst (λ found. IfSome found (IsFollowed c.args.b c.args.o c.args.t)) c.in-Ok-Some.field-0-is c.in-Ok-Some.ensures)
    c.merge_followed.result c.merge_followed.ensures.keys c.merge_followed.ensures.merged

pub returns-in-Ok-Some-clause-fault : goal.returns-in-Ok-Some-clause-fault
returns-in-Ok-Some-clause-fault c =
    IfErr-weaker c.merge_followed.result _ _
    (refused_followed c.args.b c.args.o c.args.t c.in-Ok-Some.files (subst (λ found. IfSome found (IsFollowed c.args.b c.args.o c.args.t)) c.in-Ok-Some.field-0-is c.in-Ok-Some.ensures))
    c.merge_followed.ensures.fault

pub returns-in-Err-clause-fault : goal.returns-in-Err-clause-fault
returns-in-Err-clause-fault c = IsOrMemory.no_memory
