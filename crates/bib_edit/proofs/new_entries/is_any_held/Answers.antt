use Rattle.bib_edit.proofs.Words.{rules, tests, nat_lt, ◌∙◌, YieldsList-from_slice, any_from_yields_List, Text, holders, NewEntry, any_mapped}
use Rattle.bib_edit.proofs.new_entries.is_any_held.Goals as goal

pub returns : goal.returns
returns g c db reads =
    any_from_yields_List (λ (new : NewEntry). nat_lt 0 (holders new.key db)) _ _ _ c.any.ensures.ran (YieldsList-from_slice c.args.entries.now cc) (λ x b q k. search (rules, tests))
    ∙ any_mapped (λ (key : Text). nat_lt 0 (holders key db)) (λ (new : NewEntry). new.key) c.args.entries.now
