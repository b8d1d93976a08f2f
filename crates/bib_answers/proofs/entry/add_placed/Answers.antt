use Rattle.bib_answers.proofs.Words.{◌∙◌, ◌++◌, ap, append_assoc, on_ok_weaker, Text}
use Rattle.bib_answers.specs.Entry.{ended, place_line}
use Rattle.bib_answers.proofs.StandingEntries.{placed_text, place_among, place_within}
use Rattle.bib_answers.proofs.entry.add_placed.Goals as goal

pub place_at-requires : goal.place_at-requires
place_at-requires c =
    let opened = c.opens.ensures in
    place_within opened.0 c.args.n c.args.places.now (c.requires.places opened.0 opened.1.reads) (c.requires.number opened.0 opened.1.reads)

pub returns : goal.returns
returns c = on_ok_weaker c.add_ended.result
    (λ is r reads.
    let m = c.entry_item.result in
    let numbered = c.entry_item.ensures r reads in
    let at = place_among r c.args.n m c.args.places.now c.place_at.result (c.requires.places r reads) numbered c.place_at.ensures in
    let line = place_line m c.place_at.result in
    is ∙ ap (λ (t : Text). t ++ ended c.body.result.now) c.in_ok-add_place.ensures
    ∙ ap (λ (t : Text). (c.args.out.now.items ++ line) ++ ended t) c.body.ensures
    ∙ append_assoc c.args.out.now.items line (ended c.entry.result.body)
    ∙ ap (λ (t : Text). c.args.out.now.items ++ t) (placed_text r c.args.n m c.entry.result c.place_at.result (c.requires.number r reads) numbered (c.entry.ensures r reads) at))
    c.add_ended.ensures
