use Rattle.bib_items.proofs.Words.{◌∙◌, sym, ap, head_of}
use Rattle.bib_items.proofs.Glances.{word-lacks, nothing-lacks}
use Rattle.bib_items.proofs.searching.Search.passes.Goals as goal

pub returns-in-Nothing : goal.returns-in-Nothing
returns-in-Nothing c _ = nothing-lacks c.args.self.now c.args.body.now (sym c.self.view_is ∙ c.in-Nothing.is)

pub returns-then-not-is_empty : goal.returns-then-not-is_empty
returns-then-not-is_empty c passes = word-lacks c.args.self.now c.args.body.now c.self.inside.head.now (c.self.invariant.head_is ∙ ap head_of c.self.view_is) (c.lacks_word.ensures passes)
