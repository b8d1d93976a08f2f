use Rattle.bib_answers.proofs.Words.{◌∙◌, not, ap, sym, map, list_any, Text, folded}
use Rattle.std.proofs.Common.{◌||◌}
use Rattle.std.specs.Str.{bytes_eq}
use Rattle.bib_answers.proofs.ToldKeys.{any-map, keys_more}
use Rattle.bib_answers.proofs.told_keys.ToldKeys.add.Goals as goal

pub returns-clause-added : goal.returns-clause-added
returns-clause-added c =
    c.in_ok-insert.ensures.added
    ∙ ap not
    (sym (any-map c.self.inside.keys.keys (λ key. key.items) (bytes_eq c.in_ok-folded.folded.items))
    ∙ ap (λ (t : Text). list_any (bytes_eq t) (map (λ key. key.items) c.self.inside.keys.keys)) c.in_ok-folded.ensures
    ∙ ap (list_any (bytes_eq (folded c.args.key.now))) c.self.view_is)

pub returns-clause-keys : goal.returns-clause-keys
returns-clause-keys c x =
    keys_more c.self.inside.keys.keys c.insert.new.self.keys c.in_ok-folded.folded (λ key. key.items) x (folded c.args.key.now) c.in_ok-insert.field-0 c.in_ok-folded.ensures c.in_ok-insert.ensures.added c.in_ok-insert.ensures.keys
    ∙ ap (λ l. bytes_eq x (folded c.args.key.now) || list_any (bytes_eq x) l) c.self.view_is
