use Rattle.std.proofs.Common.{◌≡◌, ◌∙◌, sym, subst, ap, map, List}
use Rattle.std.proofs.lemmas.Bool.{cond-true, cond-false}
use Rattle.bib_spec.specs.Text.{Text}
use Rattle.bibtex_spec.specs.Places.{Place, cited_place, cited_keys, are_all_cited, keys_before_star, read_all, read_entries}
use Rattle.bibtex_places.specs.Steps.{CountsAtMost}
use Rattle.bibtex_places.proofs.Reading.{counts_cited}
use Rattle.bibtex_places.proofs.listing.places_of.Goals as goal

pub read_entries-requires : goal.read_entries-requires
read_entries-requires c = subst (λ (ps : List Place). CountsAtMost 0 ps) (sym c.in_ok-first-2.ensures) (counts_cited c.as_slice-2.result.now)

pub returns-then-are_all_cited : goal.returns-then-are_all_cited
returns-then-are_all_cited c texts are =
    let keys : List Text = c.args.keys.now in
    let all : List Place = read_all (cited_keys keys) 0 (map cited_place (keys_before_star keys)) texts in
    let first : c.in_ok-first.first ≡ map cited_place (keys_before_star keys) =
    c.in_ok-first.ensures ∙ ap (map cited_place) (c.as_slice.ensures ∙ c.in_ok-before.ensures ∙ ap cited_keys c.before_star.ensures) in
    c.in_ok-all.ensures texts are
    ∙ ap (λ (cited : List Text). read_all cited 0 c.in_ok-first.first texts) c.requires
    ∙ ap (λ (places : List Place). read_all (cited_keys keys) 0 places texts) first
    ∙ sym (cond-true (are_all_cited keys) all (read_entries 0 (map cited_place (cited_keys keys)) texts) (sym c.are_all_cited.ensures ∙ c.if-are_all_cited.true))

pub returns : goal.returns
returns c texts are =
    let keys : List Text = c.args.keys.now in
    let all : List Place = read_all (cited_keys keys) 0 (map cited_place (keys_before_star keys)) texts in
    let first : c.in_ok-first-2.first ≡ map cited_place (cited_keys keys) = c.in_ok-first-2.ensures ∙ ap (map cited_place) (c.as_slice-2.ensures ∙ c.requires) in
    c.in_ok-read.ensures texts are
    ∙ ap (λ (places : List Place). read_entries 0 places texts) first
    ∙ sym (cond-false (are_all_cited keys) all (read_entries 0 (map cited_place (cited_keys keys)) texts) (sym c.are_all_cited.ensures ∙ c.if-are_all_cited.false))
