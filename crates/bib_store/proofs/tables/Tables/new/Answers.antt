use Rattle.bib_store.proofs.tables.Tables.new.Goals as goal

pub returns : goal.returns
returns c = record { entries = c.new.ensures; preambles = c.new-2.ensures; named = c.new-3.ensures; definitions = c.new-4.ensures; bounds = tt }
