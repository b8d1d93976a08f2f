use Rattle.std.proofs.Common.{◌∙◌, ap, sym, is_some}
use Rattle.bibtex_places.proofs.UnknownKeys.{star_known, found_known, lost_unknown}
use Rattle.bibtex_places.proofs.listing.is_unknown.Goals as goal

pub returns-then-is_star : goal.returns-then-is_star
returns-then-is_star c texts finds = star_known texts c.args.key.now (sym c.is_star.ensures ∙ c.if-is_star.true)

pub returns-then-is_some : goal.returns-then-is_some
returns-then-is_some c texts finds = found_known c.args.table.now texts c.args.key.now finds (ap is_some (sym c.in_ok-get.ensures) ∙ sym c.is_some.ensures ∙ c.if-is_some.true)

pub returns : goal.returns
returns c texts finds =
    lost_unknown c.args.table.now texts c.args.key.now finds (sym c.is_star.ensures ∙ c.if-is_star.false) (ap is_some (sym c.in_ok-get.ensures) ∙ sym c.is_some.ensures ∙ c.if-is_some.false)
