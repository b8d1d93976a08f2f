use Rattle.bib_c.proofs.exports.bib_c_text_copy.Goals as goal

pub returns-clause-copied : goal.returns-clause-copied
returns-clause-copied c = record {
  state = c.deref.result.now;
  is = cc (c.take-state.ensures.value, c.deref.ensures);
  holds = c.copy_given-is_copied.ensures;
}
