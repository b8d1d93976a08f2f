use Rattle.ris_text.proofs.WriteLemmas.{front_stands}
use Rattle.ris_text.proofs.writing.write_kept.Goals as goal

pub returns-in_err-write_line-clause-front : goal.returns-in_err-write_line-clause-front
returns-in_err-write_line-clause-front c = front_stands c.args.text.now.items c.line.text.items _ c.write_line.new.text.items c.line.invariant c.write_line.ensures.front
