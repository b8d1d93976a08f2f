use Rattle.std.proofs.Common.{◌∙◌, ap, sym, ℕ, Option}
use Rattle.std.proofs.Math.Path.{fun_ext}
use Rattle.bibtex_places.specs.Lists.{is_deep}
use Rattle.bibtex_places.proofs.listing.entry_held.Goals as goal

pub returns-in-Err-clause-deep : goal.returns-in-Err-clause-deep
returns-in-Err-clause-deep c is texts keys sources = ap (λ (p : ℕ → Option ℕ). is_deep p c.args.i) (sym (fun_ext sources.parents)) ∙ c.in-Err.ensures.deep is

pub returns-clause-short : goal.returns-clause-short
returns-clause-short c texts keys sources = ap (λ (p : ℕ → Option ℕ). is_deep p c.args.i) (sym (fun_ext sources.parents)) ∙ c.in-Ok.ensures.short
