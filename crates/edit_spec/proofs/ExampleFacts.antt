-- What the examples of refusals need beyond computation.
use Rattle.edit_spec.proofs.Words.{refl, sym, zero-lt-suc, codes, false≢true, is_space, is_name_byte, is_name_within, begins_command, Macro, CommentTree, Item, Refuses, BadValue, WouldMerge, SetField, RemoveEntry, author_year, one_field}
use Rattle.edit_spec.specs.Examples.{only, address_before, comment_before}
use Rattle.std.specs.Prelude.{[]}

-- a brace is no name
pub no_value_fact : Refuses author_year BadValue one_field (SetField (codes "a") (codes "t") (only (Macro (codes "{x"))))
unfolding is_name_within is_name_byte
no_value_fact all = false≢true ((all 0 (only (Macro (codes "{x"))) (zero-lt-suc 0)).first)

-- at its second byte the joined text would begin a command
pub no_command_fact : Refuses author_year WouldMerge address_before (RemoveEntry (codes "k"))
unfolding begins_command is_space is_name_byte is_name_within
no_command_fact clean = false≢true (sym (clean.front 1))

-- the joined text would continue the comment's name
pub no_other_name_fact : Refuses author_year WouldMerge comment_before (RemoveEntry (codes "k"))
unfolding is_name_byte
no_other_name_fact clean = false≢true ((clean.trails 0 (comment_item) (zero-lt-suc 0)).ends_name refl)
  where
    comment_item : Item
    comment_item = record { tree = CommentTree (record { space_before_type = []; type_name = codes "comment" }); trail = codes "s" }
