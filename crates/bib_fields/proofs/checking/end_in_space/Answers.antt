use Rattle.std.proofs.Common.{◌≡◌, true, sym, ◌∙◌, subst}
use Rattle.std.specs.List.{list_all}
use Rattle.bib_spec.specs.Text.{is_space}
use Rattle.bib_fields.specs.declared.mix.MixedRow.{MixedRow}
use Rattle.bib_fields.proofs.Collected.{all-more, all-all}
use Rattle.bib_fields.proofs.RowFields.{spaces-seen}
use Rattle.bib_fields.proofs.checking.end_in_space.Goals as goal

pub rows-preserved : goal.rows-preserved
rows-preserved c =
    all-more (λ (row : MixedRow). list_all is_space row.space) c.args.rows.now c.rows.k c.index-rows-k.result c.rows-test.true
    (subst (λ (row : MixedRow). list_all is_space row.space ≡ true) c.index-rows-k.is (sym c.ends_in_space.ensures ∙ c.if-not-ends_in_space.false)) c.rows.invariant

pub returns : goal.returns
returns c yes' o t =
    spaces-seen o t c.args.rows.now (all-all (λ (row : MixedRow). list_all is_space row.space) c.args.rows.now c.rows.k c.rows-test.false c.rows.invariant)
