use Rattle.bib_steps.proofs.Words.{rules, ◌≡◌, List, length, ◌∙◌, refl, Piece}
use Rattle.bib_steps.proofs.MovedEnds.{replaced_before}
use Rattle.bib_steps.proofs.placing.put_before.Goals as goal

pub put_ends-requires-clause-front : goal.put_ends-requires-clause-front
put_ends-requires-clause-front c =
    let new : List Piece = c.into_vec-new.result.items in
    let count : length new ≡ c.len-count.result = search rules in
    (replaced_before c.args.pieces.now.items c.as_slice.result.now new c.args.ends.now.items c.first.inside.from c.first.inside.to c.len-count.result c.args.position _
    (search rules) (search rules) c.requires.inside c.requires.front count (c.as_slice.ensures.value ∙ c.replace.ensures.items) refl).front

pub put_ends-requires-clause-moves : goal.put_ends-requires-clause-moves
put_ends-requires-clause-moves c =
    let new : List Piece = c.into_vec-new.result.items in
    let count : length new ≡ c.len-count.result = search rules in
    (replaced_before c.args.pieces.now.items c.as_slice.result.now new c.args.ends.now.items c.first.inside.from c.first.inside.to c.len-count.result c.args.position _
    (search rules) (search rules) c.requires.inside c.requires.front count (c.as_slice.ensures.value ∙ c.replace.ensures.items) refl).moves

pub returns-clause-others : goal.returns-clause-others
returns-clause-others c =
    let new : List Piece = c.into_vec-new.result.items in
    let count : length new ≡ c.len-count.result = search rules in
    (replaced_before c.args.pieces.now.items c.replace.new.items.items new c.args.ends.now.items c.first.inside.from c.first.inside.to c.len-count.result c.args.position _
    (search rules) (search rules) c.requires.inside c.requires.front count c.replace.ensures.items refl).others
