use Rattle.bib_store.proofs.Words.{ℕ, List, map, Bor, macros_seen}
use Rattle.bib_store.proofs.ChosenFields.{IsChoosing}
use Rattle.bib_store.proofs.choosing.choose_all.Given as goal

abbrev pub invariant-choose : goal.invariant-choose
invariant-choose l =
    record {
      can : (goal.iterator-choose).can_next l.row-iterator;
      finite : (goal.iterator-choose).is_finite l.row-iterator;
      so_far : IsChoosing (map (λ (n : Bor (List ℕ)). n.now) l.names) (macros_seen l.macros) l.initial.fields.items l.fields.items l.fn.rows l.row-iterator;
    }
