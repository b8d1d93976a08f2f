use Rattle.std.proofs.Common.{is_some, sym, ◌∙◌, ap, ap₂}
use Rattle.std.specs.Option.{option_copied}
use Rattle.bib_spec.specs.Records.{entries_of, target}
use Rattle.merge_spec.specs.Parents.{named_on_both}
use Rattle.bib_parents.proofs.LostParents.{none-some, none-none, named_is_kept, silent_is_kept, sides_decide, key_here}
use Rattle.bib_parents.proofs.losing.is_lost.Goals as goal

pub returns-then-is_some : goal.returns-then-is_some
returns-then-is_some g c ro reads_o rt reads_t rm reads_m =
    named_is_kept (entries_of ro) (entries_of rt) (entries_of rm) c.args.n
    (none-some (target (entries_of rm) c.args.n) (sym (c.is_some.ensures ∙ ap is_some (c.target.ensures rm reads_m)) ∙ c.if-is_some.true))

pub returns-in-None : goal.returns-in-None
returns-in-None g c ro reads_o rt reads_t rm reads_m =
    silent_is_kept (entries_of ro) (entries_of rt) (entries_of rm) c.args.n (sym (c.crossref_text.ensures rm reads_m) ∙ ap option_copied c.in-None.is)

pub returns-in-Some : goal.returns-in-Some
returns-in-Some g c ro reads_o rt reads_t rm reads_m =
    sides_decide (entries_of ro) (entries_of rt) (entries_of rm) c.args.n c.key-key.result.now c.in-Some.text.now _
    (none-none (target (entries_of rm) c.args.n) (sym (c.is_some.ensures ∙ ap is_some (c.target.ensures rm reads_m)) ∙ c.if-is_some.false))
    (sym (c.crossref_text.ensures rm reads_m) ∙ ap option_copied c.in-Some.is)
    (key_here rm c.args.n (c.requires rm reads_m) c.key-key.result.now c.entry.result c.key-key.ensures (c.entry.ensures rm reads_m))
    (c.named_on_both.ensures ∙ ap₂ named_on_both (c.named_on.ensures ro reads_o) (c.named_on-in-Some.ensures rt reads_t))
