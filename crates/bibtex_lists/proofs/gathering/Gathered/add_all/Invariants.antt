use Rattle.bib_store.proofs.Words.{macros_seen}
use Rattle.bib_store.proofs.GatheredFields.{IsGathering}
use Rattle.bibtex_lists.proofs.gathering.Gathered.add_all.Given as goal

abbrev pub invariant-add : goal.invariant-add
invariant-add l =
    record {
      can : (goal.iterator-add).can_next l.field-iterator;
      finite : (goal.iterator-add).is_finite l.field-iterator;
      gathered : IsGathering (macros_seen l.macros) l.initial.self.fields.items l.self.fields.items l.self.names l.fn.fields l.field-iterator;
    }
