use Rattle.ris_format.proofs.EscapeLaws.{escaped_texts_balance}
use Rattle.ris_format.proofs.laws.escaped_texts_balance.Goals as goal

pub returns : goal.returns
returns c = escaped_texts_balance
