use Rattle.std.proofs.Common.{◌∙◌, ap, is_some}
use Rattle.bibtex_places.proofs.Keys.{added_is}
use Rattle.bibtex_places.proofs.citing.Cited.added_place.Goals as goal

pub returns : goal.returns
returns c entry key =
    added_is c.args.self.now entry c.args.n c.args.key.now c.in_ok-spelling.field-0 c.is_some.result key c.in_ok-spelling.ensures (c.is_some.ensures ∙ ap is_some c.in_ok-find.ensures)
