use Rattle.std.proofs.Common.{codes}
use Rattle.merge_spec.specs.Merged.{version}
use Rattle.bib_places.proofs.Joining.{five}
use Rattle.bib_places.proofs.writing.add_conflict.Goals as goal

pub returns : goal.returns
returns c ro rt o t see_o see_t =
    five c.args.out.now.items c.extend_from_slice.new.self.items c.add_version.new.out.items c.extend_from_slice-2.new.self.items c.add_version-2.new.out.items c.extend_from_slice-3.new.self.items
    (codes "<<<<<<< ours\n") (version o) (codes "=======\n") (version t) (codes ">>>>>>> theirs")
    c.in_ok-extend_from_slice.ensures.items (c.in_ok-add_version.ensures ro o see_o) c.in_ok-extend_from_slice-2.ensures.items (c.in_ok-add_version-2.ensures rt t see_t) c.in_ok-extend_from_slice-3.ensures.items
