use Rattle.bib_answers.proofs.Words.{List, ◌∷◌, [], ◌∙◌, ap, subst, sym, IfOk-weaker, Text}
use Rattle.bib_shelf.specs.Joined.{AreJoined}
use Rattle.bib_answers.specs.NamedFiles.{NamedFiles}
use Rattle.bib_answers.specs.Lint.{files_answer}
use Rattle.bib_answers.proofs.FaultLines.{alone_joined}
use Rattle.bib_answers.proofs.lint.lint_alone.Goals as goal

pub new-files-requires : goal.new-files-requires
new-files-requires c =
    (c.args.db.now ∷ [], subst (λ n. AreJoined (c.args.db.now ∷ []) (record { text = c.args.db.now; spans = (0, n) ∷ [] })) (sym c.byte_count.ensures) (alone_joined c.args.db.now))

pub returns : goal.returns
returns c =
    let joined = subst (λ n. AreJoined (c.args.db.now ∷ []) (record { text = c.args.db.now; spans = (0, n) ∷ [] })) (sym c.byte_count.ensures) (alone_joined c.args.db.now) in
    let named = c.new-files.ensures (c.args.db.now ∷ []) joined in
    IfOk-weaker c.lint_in.result _ _ (λ answer h r reads.
    h r reads
    ∙ ap (λ (f : NamedFiles). files_answer c.args.ignored.now c.args.cited.now f.names f.files r) named
    ∙ ap (λ (names : List Text). files_answer c.args.ignored.now c.args.cited.now names (c.args.db.now ∷ []) r) (c.as_slice.ensures.value ∙ c.in_ok-names.ensures))
    c.lint_in.ensures
