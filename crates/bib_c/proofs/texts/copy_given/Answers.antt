use Rattle.std.proofs.Common.{◌∙◌, sym, ap, subst, Option}
use Rattle.std.specs.Option.{option_copied}
use Rattle.bib_spec.specs.Text.{Text}
use Rattle.bib_c.specs.Texts.{IsCopy}
use Rattle.bib_c.proofs.texts.copy_given.Goals as goal

pub returns-in-Some : goal.returns-in-Some
returns-in-Some c =
    subst (λ (text : Option Text). IsCopy text c.copy_whole.result c.args.to.now c.copy_whole.new.to)
    (sym (ap option_copied c.in-Some.is) ∙ c.text_given.ensures)
    c.copy_whole.ensures
