use Rattle.entry_json.proofs.ReadBack.{read_back}
use Rattle.entry_json.proofs.laws.entries_are_read_back.Goals as goal

pub returns : goal.returns
returns c told = read_back told
