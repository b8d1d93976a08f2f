use Rattle.std.proofs.Common.{◌∙◌, refl, ap}
use Rattle.bib_text.specs.Trimming.{before_run}
use Rattle.bib_spec.specs.Text.{is_space}
use Rattle.merge_spec.specs.Units.{end_space}
use Rattle.bib_units.proofs.UnitsAdded.{comment-added}
use Rattle.bib_units.proofs.of_item.add_comment.Goals as goal

pub returns : goal.returns
returns c r i before at bytes len is all =
    comment-added r c.args.n i c.args.units.now.items c.push.new.self.items before _ c.args.text.now c.split_end.result.0.now c.args.len at bytes len is
    (c.split_end.ensures.words ∙ ap (before_run is_space) c.split_at.ensures.back) c.in_ok-push.ensures.items refl refl c.split_at-2.ensures.front
    (c.split_end.ensures.space ∙ ap end_space c.split_at.ensures.back) all
