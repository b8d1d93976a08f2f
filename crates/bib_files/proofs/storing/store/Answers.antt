use Rattle.std.specs.Option.{option_copied}
use Rattle.std.proofs.lemmas.Result.{on_ok_weaker, on_err_weaker}
use Rattle.bib_spec.specs.Text.{Text}
use Rattle.bib_spec.proofs.Results.{err_always}
use Rattle.bib_files.specs.Folders.{Keeps}
use Rattle.bib_files.specs.Storing.{PutsIf, MovesIf}
use Rattle.bib_files.proofs.Stored.{then, weaker, at_path, with_old, kept_file, kept_journal, kept_both, written, written_keeps, puts_keeps, placed, file_alone, done, stored, unstored}
use Rattle.bib_files.proofs.storing.store.Goals as goal

pub returns-in_err-write-clause-err : goal.returns-in_err-write-clause-err
returns-in_err-write-clause-err g c =
    let paths = c.args.paths.now in
    err_always _ (weaker _ _ (λ x y k. unstored paths _ c.new_file.ensures.apart x y (kept_file paths x y k)) (at_path Keeps _ _ _ _ c.new_file.ensures.path c.in_err-write.ensures.err))

pub returns-in-Err-clause-err : goal.returns-in-Err-clause-err
returns-in-Err-clause-err g c =
    let paths = c.args.paths.now in
    let F = option_copied c.args.file in
    let J = option_copied c.args.journal in
    let wrote = at_path (λ (p : Text). PutsIf p F) _ _ _ _ c.new_file.ensures.path c.in_ok-write.ensures.ok in
    let failed = at_path Keeps _ _ _ _ c.new_journal.ensures c.in-Err.ensures.err in
    let removed = at_path Keeps _ _ _ _ c.new_file-in-Err.ensures.path c.discard.ensures in
    weaker _ _ (λ x y k. unstored paths F c.new_file.ensures.apart x y k)
    (then _ _ _ (λ x y z k r. kept_both paths x y z k (kept_file paths y z r))
    (then _ _ _ (λ x y z w f. kept_both paths x y z (kept_file paths x y (puts_keeps paths.new_file F x y w)) (kept_journal paths y z f)) wrote failed)
    removed)

pub returns-in-Err-put-clause-err : goal.returns-in-Err-put-clause-err
returns-in-Err-put-clause-err g c =
    let paths = c.args.paths.now in
    let F = option_copied c.args.file in
    let J = option_copied c.args.journal in
    let apart = c.new_file.ensures.apart in
    let one = at_path (λ (p : Text). PutsIf p F) _ _ _ _ c.new_file.ensures.path c.in_ok-write.ensures.ok in
    let two = at_path (λ (p : Text). PutsIf p J) _ _ _ _ c.new_journal.ensures c.in_default.ensures.ok in
    let failed = at_path Keeps _ _ _ _ c.new_file-2.ensures.path c.in-Err-put.ensures.err in
    let removed = at_path Keeps _ _ _ _ c.new_journal-in-Err-put.ensures c.discard-in-Err-put.ensures in
    weaker _ _ (λ x y k. unstored paths F apart x y k)
    (then _ _ _ (λ x y z k r. kept_both paths x y z k (kept_journal paths y z r))
    (then _ _ _ (λ x y z w f. kept_both paths x y z (written_keeps paths F J x y w) (kept_file paths y z f))
    (then _ _ _ (λ x y z a b. written paths F J apart x y z a b) one two) failed)
    removed)

pub returns-clause-ok : goal.returns-clause-ok
returns-clause-ok g c =
    let paths = c.args.paths.now in
    let F = option_copied c.args.file in
    let J = option_copied c.args.journal in
    let apart = c.new_file.ensures.apart in
    let one = at_path (λ (p : Text). PutsIf p F) _ _ _ _ c.new_file.ensures.path c.in_ok-write.ensures.ok in
    let two = at_path (λ (p : Text). PutsIf p J) _ _ _ _ c.new_journal.ensures c.in_default.ensures.ok in
    let three = at_path (λ (p : Text). MovesIf F p paths.file) _ _ _ _ c.new_file-2.ensures.path (at_path (λ (p : Text). MovesIf F c.new_file-2.result.now p) _ _ _ _ c.file.ensures c.in_default-put.ensures.ok) in
    on_ok_weaker c.put-2.result (λ moved.
    let four = at_path (λ (p : Text). MovesIf J p paths.journal) _ _ _ _ c.new_journal-2.ensures (at_path (λ (p : Text). MovesIf J c.new_journal-2.result.now p) _ _ _ _ c.journal.ensures moved) in
    with_old _ _ c.in_ok-expect_room.ensures (λ x y could d. stored paths F J x y could d)
    (then _ _ _ (λ x y z at m. done paths F J apart x y z at m)
    (then _ _ _ (λ x y z w m. placed paths F J apart x y z w m)
    (then _ _ _ (λ x y z a b. written paths F J apart x y z a b) one two) three) four)) c.put-2.ensures.ok

pub returns-clause-err : goal.returns-clause-err
returns-clause-err g c =
    let paths = c.args.paths.now in
    let F = option_copied c.args.file in
    let J = option_copied c.args.journal in
    let apart = c.new_file.ensures.apart in
    let one = at_path (λ (p : Text). PutsIf p F) _ _ _ _ c.new_file.ensures.path c.in_ok-write.ensures.ok in
    let two = at_path (λ (p : Text). PutsIf p J) _ _ _ _ c.new_journal.ensures c.in_default.ensures.ok in
    let three = at_path (λ (p : Text). MovesIf F p paths.file) _ _ _ _ c.new_file-2.ensures.path (at_path (λ (p : Text). MovesIf F c.new_file-2.result.now p) _ _ _ _ c.file.ensures c.in_default-put.ensures.ok) in
    on_err_weaker c.put-2.result (λ failed.
    then _ _ _ (λ x y z at k. file_alone paths F J apart x y z at k)
    (then _ _ _ (λ x y z w m. placed paths F J apart x y z w m)
    (then _ _ _ (λ x y z a b. written paths F J apart x y z a b) one two) three)
    (at_path Keeps _ _ _ _ c.new_journal-2.ensures failed)) c.put-2.ensures.err
