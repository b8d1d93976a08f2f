unfoldable use Rattle.bib_spec.specs.Text.{is_space, is_name_byte, is_name_within}
unfoldable use Rattle.bib_spec.specs.Texts.{months, field_text}
unfoldable use Rattle.bib_spec.specs.Clean.{begins_command}
use Rattle.std.proofs.Common.{codes, [], refl, arith, zero-lt-suc}
use Rattle.std.proofs.lemmas.Bool.{false≢true}
use Rattle.bib_spec.specs.Tree.{CommentTree}
use Rattle.bib_spec.specs.Reading.{Item}
use Rattle.edit_spec.specs.Edits.{WouldMerge}
use Rattle.insert_spec.specs.Examples.{worded, comment_end}
use Rattle.insert_spec.specs.Insertion.{RefusesInsertion}
use Rattle.insert_spec.proofs.examples.a_text_is_refused.Goals as goal

word_merges : RefusesInsertion WouldMerge 1 worded comment_end
unfolding is_name_byte
word_merges clean = false≢true ((clean.trails 0 lengthened (zero-lt-suc 2)).ends_name refl)
  where
    lengthened : Item
    lengthened = record { tree = CommentTree (record { space_before_type = []; type_name = codes "comment" }); trail = codes "s\n" }

pub returns : goal.returns
unfolding months field_text is_space is_name_byte is_name_within
returns c = record { position = (omega arith); held = refl; twice = refl; defined = refl; merged = word_merges }
