use Rattle.std.proofs.Common.{refl}
use Rattle.bibtex_answers.specs.StyleMacros.{style_macros}
use Rattle.bibtex_answers.proofs.style.style_macros.Goals as goal

pub returns : goal.returns
unfolding style_macros
returns c = refl
