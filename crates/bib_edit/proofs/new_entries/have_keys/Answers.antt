use Rattle.bib_edit.proofs.Words.{rules, tests, sym, ◌∙◌, YieldsList-from_slice, all_from_yields_List, list_all-map, is_new_key, NewEntry}
use Rattle.bib_edit.proofs.new_entries.have_keys.Goals as goal

pub returns : goal.returns
returns c =
    all_from_yields_List (λ (new : NewEntry). is_new_key new.key) _ _ _ c.all.ensures.ran (YieldsList-from_slice c.args.entries.now cc) (λ x b q k. search (rules, tests))
    ∙ sym (list_all-map is_new_key (λ (new : NewEntry). new.key) c.args.entries.now)
