use Rattle.std.proofs.Common.{◌∙◌, Bor, List, ℕ, arith, map}
use Rattle.bib_spec.specs.Records.{entries_of}
use Rattle.bibtex_lists.proofs.Chosen.{none_chosen}
use Rattle.bibtex_lists.proofs.choosing.chosen_of.Goals as goal

pub returns-then-n-count : goal.returns-then-n-count
returns-then-n-count g c r reads =
    let count = c.entry_count-count.ensures r reads in
    let test = c.if-n-count.true in
    c.new.ensures.items
    ∙ none_chosen (map {A = Bor (List ℕ)} {B = List ℕ} (λ name. name.now) c.args.names.now) (entries_of r) c.args.n (omega (arith, count, test))

pub own_fields_with-requires : goal.own_fields_with-requires
own_fields_with-requires g c r reads =
    let count = c.entry_count-count.ensures r reads in
    let test = c.if-n-count.false in
    omega (arith, count, test)
