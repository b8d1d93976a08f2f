use Rattle.bib_c.proofs.exports.bib_c_run_files.Goals as goal

pub returns : goal.returns
returns c = record {
  before = c.deref_mut.result.now;
  after = c.run_files-status.new.state;
  was = cc (c.take-state.ensures.value, c.deref_mut.ensures.value);
  is = c.of.ensures;
  changed = c.run_files-status.ensures;
}
