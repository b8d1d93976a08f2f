use Rattle.std.proofs.Common.{◌+◌, ◌∙◌, ap, sym, subst, List}
use Rattle.std.specs.Option.{option_copied}
use Rattle.bibtex_spec.specs.Places.{Place, named}
use Rattle.bibtex_places.specs.Steps.{CountsAtMost}
use Rattle.bibtex_places.proofs.ReadSteps.{read_kept, read_taken, read_named, counts_one, counts_one_named, counts_of_held}
use Rattle.bibtex_places.proofs.places.Places.read_entry.Goals as goal

pub returns-in_default-clause-counts : goal.returns-in_default-clause-counts
returns-in_default-clause-counts c = counts_one c.args.n c.args.self c.requires.counts

pub returns-in_default-clause-read : goal.returns-in_default-clause-read
returns-in_default-clause-read c entry key crossref = read_kept entry c.args.n c.args.self c.args.key.now key (sym c.in_ok-i.ensures ∙ c.in_default.is)

pub returns-in_default-crossref-clause-counts : goal.returns-in_default-crossref-clause-counts
returns-in_default-crossref-clause-counts c =
    counts_one c.args.n c.in_ok-held.held (counts_of_held c.args.n c.args.n c.args.key.now c.args.self c.in_ok-held.held c.in_ok-held.ensures c.requires.counts)

pub returns-in_default-crossref-clause-read : goal.returns-in_default-crossref-clause-read
returns-in_default-crossref-clause-read c entry key crossref =
    c.in_ok-held.ensures entry key
    ∙ read_taken entry c.args.n c.args.self c.args.key.now key c.in-Some.i (sym c.in_ok-i.ensures ∙ c.in-Some.is) (crossref ∙ ap option_copied c.in_default-crossref.is)

pub name-requires-clause-counts : goal.name-requires-clause-counts
name-requires-clause-counts c = counts_of_held c.args.n c.args.n c.args.key.now c.args.self c.in_ok-held.held c.in_ok-held.ensures c.requires.counts

pub returns-clause-counts : goal.returns-clause-counts
returns-clause-counts c =
    subst (λ (ps : List Place). CountsAtMost (c.args.n + 1) ps) (sym c.in_ok-named.ensures)
    (counts_one_named c.args.n c.in-Some-crossref.text.now c.in_ok-held.held (counts_of_held c.args.n c.args.n c.args.key.now c.args.self c.in_ok-held.held c.in_ok-held.ensures c.requires.counts))

pub returns-clause-read : goal.returns-clause-read
returns-clause-read c entry key crossref =
    c.in_ok-named.ensures
    ∙ ap (named c.in-Some-crossref.text.now) (c.in_ok-held.ensures entry key)
    ∙ read_named entry c.args.n c.args.self c.args.key.now key c.in-Some.i c.in-Some-crossref.text.now (sym c.in_ok-i.ensures ∙ c.in-Some.is) (crossref ∙ ap option_copied c.in-Some-crossref.is)
