use Rattle.bib_edit.proofs.Words.{sym, ◌∙◌, ap, option_map, none-some, token_seen}
use Rattle.bib_edit.proofs.set_macro.value_piece.Goals as goal

pub unreachable-requires : goal.unreachable-requires
unreachable-requires g c =
    let db = c.opens.ensures.0 in
    let reads = c.opens.ensures.1.reads in
    let d = c.requires db reads in
    none-some _ (sym (ap (option_map token_seen) c.in_default.is) ∙ c.value_of.ensures db reads d.0 d.1)
