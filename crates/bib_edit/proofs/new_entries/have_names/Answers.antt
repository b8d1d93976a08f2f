use Rattle.bib_edit.proofs.Words.{rules, tests, sym, ◌∙◌, list_all, YieldsList-from_slice, all_from_yields_List, is_name, NewEntry, names_of}
use Rattle.bib_edit.proofs.ManyEntries.{all-given}
use Rattle.bib_edit.proofs.new_entries.have_names.Goals as goal

pub returns : goal.returns
returns c =
    all_from_yields_List (λ (new : NewEntry). list_all is_name (names_of new.fields)) _ _ _ c.all.ensures.ran (YieldsList-from_slice c.args.entries.now cc) (λ x b q k. search (rules, tests))
    ∙ sym (all-given is_name (λ (new : NewEntry). names_of new.fields) c.args.entries.now)
