use Rattle.std.proofs.Common.{◌≡◌, ◌∙◌, true, sym}
use Rattle.std.proofs.lemmas.Bool.{false≢true}
use Rattle.bib_words.proofs.commands.Command.has_its_options.Goals as goal
use Rattle.bib_words.proofs.commands.Command.has_its_options.Goals.{then-has_its_changes, else-has_its_changes}

pub returns-else-has_its_choices : goal.returns-else-has_its_choices
returns-else-has_its_choices c = (
  (λ all. absurd (false≢true (sym c.if-has_its_choices.false ∙ all))),
  (λ h.
      let first : c.has_its_changes.result ≡ true = c.has_its_changes.ensures.1 (h.print, h.new_journal, h.no_journal, h.all_or_nothing) in
      elim c.if-has_its_changes.branch [
        | then-has_its_changes w ↦ w.value-is ∙ w.has_its_choices.ensures.1 (h.dropped, h.at, h.strict, h.others)
        | else-has_its_changes w ↦ absurd (false≢true (sym w.if-has_its_changes.false ∙ first))
      ]),
)
