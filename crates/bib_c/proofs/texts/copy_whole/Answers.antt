use Rattle.std.proofs.Common.{refl}
use Rattle.bib_c.specs.Texts.{IsCopy}
use Rattle.bib_c.proofs.texts.copy_whole.Goals as goal

pub returns-then-text-to : goal.returns-then-text-to
returns-then-text-to c = IsCopy.other c.args.text.now refl refl c.if-text-to.true refl
