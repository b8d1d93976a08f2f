use Rattle.bib_scan.proofs.Words.{◌≡◌, length, map, ap, ◌∙◌, subst, name_limit, Text, places_of, IsLayoutOf, note_at, Progress}
use Rattle.bib_scan.specs.Layout.{placed}
use Rattle.bib_scan.proofs.LayoutLemmas.{commands_end}
use Rattle.bib_scan.proofs.NoteLaws.{notes_all}
use Rattle.bib_scan.proofs.ReadingLaws.{reading_of}
use Rattle.bib_scan.proofs.reader.Reader.into_layout.Goals as goal

pub returns : goal.returns
returns c =
    let file : Text = c.self.inside.bytes.now in
    let on = c.self.invariant.2 in
    let none : length c.self.inside.rest.now ≡ 0 = ap (λ (p : Progress). p.left) c.self.view_is ∙ c.requires in
    let r = reading_of name_limit file _ (commands_end name_limit file _ _ on none) in
    let front : c.self.inside.front_len ≡ length r.0.front = c.self.invariant.1 ∙ r.2 in
    let notes : c.self.inside.notes.items ≡ (places_of r.0).notes = c.self.invariant.3.notes_are ∙ ap (map (note_at file)) r.3 ∙ notes_all file r.0 r.1 in
    subst (λ (p : Progress). IsLayoutOf p.file c.new.result) c.self.view_is (r.0, r.1, c.new.ensures ∙ (λ i. placed (front i) (r.3 i) (notes i)))
