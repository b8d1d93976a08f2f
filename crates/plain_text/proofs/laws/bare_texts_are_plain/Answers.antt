use Rattle.plain_text.proofs.PlainLaws.{bare_texts_are_plain}
use Rattle.plain_text.proofs.laws.bare_texts_are_plain.Goals as goal

pub returns : goal.returns
returns c = bare_texts_are_plain
