use Rattle.std.proofs.Common.{◌∙◌, ap}
use Rattle.bib_uses.specs.Uses.{uses_in, rows_at}
use Rattle.bib_uses.specs.Lost.{is_lost}
use Rattle.bib_uses.proofs.TimesTold.{told, none-told}
use Rattle.bib_uses.proofs.losing.names_at.Goals as goal

pub returns-then-is_empty : goal.returns-then-is_empty
returns-then-is_empty g c ro reads_o rt reads_t rm reads_m are =
    c.new.ensures.items ∙ none-told (is_lost ro rt rm c.args.key.now c.args.n) c.args.uses.now (uses_in (rows_at rm c.args.n)) c.if-is_empty.ensures are

pub returns : goal.returns
returns g c ro reads_o rt reads_t rm reads_m are =
    c.in_ok-names.ensures ro rt rm c.args.key.now (c.in_ok-source.ensures ro reads_o) (c.in_ok-other.ensures rt reads_t) (c.requires.merged rm reads_m) ∙ ap (told (is_lost ro rt rm c.args.key.now c.args.n)) are
