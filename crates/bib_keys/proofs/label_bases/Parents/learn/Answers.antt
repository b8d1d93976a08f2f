use Rattle.bib_keys.proofs.Words.{◌≡◌, ◌∙◌, entries_of, parts_of, label_fields}
use Rattle.bib_keys.proofs.KnownParents.{kept_put}
use Rattle.bib_keys.proofs.label_bases.Parents.learn.Goals as goal

pub returns-clause-parents : goal.returns-clause-parents
returns-clause-parents g c = λ db reads.
    kept_put (λ k kept. kept.value ≡ parts_of (label_fields (entries_of db) k)) c.args.self.now.known.items c.make_room.new.known.items c.args.n c.in_ok-new.field-0 c.in_ok-make_room.ensures.same c.in_ok-make_room.ensures.room
    (c.in_ok-new.ensures.ok ∙ c.in_ok-parts.ensures db reads) (c.requires.parents db reads)
