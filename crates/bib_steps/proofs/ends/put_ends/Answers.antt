use Rattle.bib_steps.proofs.Words.{◌+◌, ◌++◌, take, ◌∙◌, ap, ends_of}
use Rattle.bib_steps.proofs.MovedEnds.{put_further}
use Rattle.bib_steps.proofs.ends.put_ends.Goals as goal

pub returns-clause-items : goal.returns-clause-items
returns-clause-items c =
    c.move_ends.ensures.items
    ∙ ap (λ es. take c.args.until (ends_of c.args.pieces.now) ++ es) (put_further c.args.ends.now.items c.place_ends.new.ends.items (c.args.from + c.args.count) c.args.to c.args.until c.requires.counted c.place_ends.ensures.rest)
