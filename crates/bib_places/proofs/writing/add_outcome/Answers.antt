use Rattle.std.proofs.Common.{◌++◌, sym, ◌∙◌, ap, append_assoc}
use Rattle.bib_spec.specs.Text.{Text}
use Rattle.merge_spec.specs.ThreeWay.{entry_of}
use Rattle.merge_spec.specs.Merged.{outcome_bytes}
use Rattle.bib_fields.specs.MixSeen.{mix_bytes}
use Rattle.bib_places.specs.PlacesSeen.{outcome_seen}
use Rattle.bib_places.proofs.writing.add_outcome.Goals as goal

pub returns-in_ok-extend_from_slice-in-Mixed : goal.returns-in_ok-extend_from_slice-in-Mixed
returns-in_ok-extend_from_slice-in-Mixed g c ro reads_o rt reads_t uo ut see_o see_t =
    let out : Text = c.args.out.now.items in
    let space : Text = c.args.space.now in
    c.in_ok-extend_from_slice-in-Mixed.ensures.items
    ∙ ap (λ (t : Text). t ++ space) (c.in_ok-add_mix-in-Mixed.ensures ro reads_o rt reads_t uo ut see_o see_t)
    ∙ append_assoc out (mix_bytes (entry_of uo) (entry_of ut) c.in-Mixed.mix) space
    ∙ ap (λ k. out ++ outcome_bytes uo ut space (outcome_seen uo ut k)) (sym c.in-Mixed.is)
