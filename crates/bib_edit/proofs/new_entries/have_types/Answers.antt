use Rattle.bib_edit.proofs.Words.{rules, tests, sym, ◌∙◌, YieldsList-from_slice, all_from_yields_List, list_all-map, is_type, NewEntry}
use Rattle.bib_edit.proofs.new_entries.have_types.Goals as goal

pub returns : goal.returns
returns c =
    all_from_yields_List (λ (new : NewEntry). is_type new.kind_name) _ _ _ c.all.ensures.ran (YieldsList-from_slice c.args.entries.now cc) (λ x b q k. search (rules, tests))
    ∙ sym (list_all-map is_type (λ (new : NewEntry). new.kind_name) c.args.entries.now)
