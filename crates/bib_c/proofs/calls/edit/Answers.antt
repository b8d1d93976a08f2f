use Rattle.std.proofs.Common.{◌≡◌, ◌∙◌, refl, sym, Some}
use Rattle.bib_c.specs.Words.{words_of}
use Rattle.bib_c.specs.Calls.{refused, short, memory}
use Rattle.bib_c.proofs.Reported.{edit_reported}
use Rattle.bib_c.proofs.calls.edit.Goals as goal

pub returns-in-Ok-Some : goal.returns-in-Ok-Some
returns-in-Ok-Some c =
    let words = c.as_slice.result.now in
    let flat : words_of c.args.words.now c.args.lens.now ≡ Some words = cc (c.in-Ok-Some.ensures, c.in-Ok-Some.field-0-is, c.as_slice.ensures) in
    edit_reported words c.edit.result flat c.of_made.ensures.done c.of_made.ensures.refused c.edit.ensures.made c.edit.ensures.refused c.edit.ensures.answer c.edit.ensures.err

pub returns-in-Ok-None : goal.returns-in-Ok-None
returns-in-Ok-None c = refused _ c.refused.ensures (short refl (sym c.in-Ok-None.ensures ∙ c.in-Ok-None.field-0-is)) refl

pub returns-in-Err : goal.returns-in-Err
returns-in-Err c = refused _ c.refused-in-Err.ensures (memory refl) refl
