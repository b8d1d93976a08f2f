-- The lines of a RIS text that are skipped, listed one after another.
use Rattle.std.proofs.Common.{◌≡◌, Bool, true, false, List, [], ◌∷◌, ◌++◌, length, refl, sym, ap, ◌∙◌, append_assoc, append-nil}
use Rattle.std.specs.List.{flat_map}
use Rattle.std.specs.Prelude.{if◌then◌else◌}
use Rattle.bib_spec.specs.Text.{Text}
use Rattle.ris_text.specs.Lines.{Line}
use Rattle.ris_text.specs.Skipped.{Standing, AreSkipped, skips}
use Rattle.bib_ris.specs.declared.importing.Additions.{Additions}
use Rattle.bib_ris.specs.Import.{AreAdditions}
use Rattle.bib_run.specs.ImportAnswer.{added_line, skipped_line, skipped_lines, import_told}

-- one more line
pub listed_more : (told longer whole : Text) (rest after : List Standing) (line : Standing) → told ++ flat_map skipped_line rest ≡ whole → rest ≡ line ∷ after
    → longer ≡ told ++ skipped_line line → longer ++ flat_map skipped_line after ≡ whole
listed_more told longer whole rest after line so_far first more =
    ap (λ (t : Text). t ++ flat_map skipped_line after) more
    ∙ append_assoc told (skipped_line line) (flat_map skipped_line after)
    ∙ ap (λ (ls : List Standing). told ++ flat_map skipped_line ls) (sym first)
    ∙ so_far

-- what an import prints with the list of lines, and without
pub told_with : (listed : Bool) (a : Additions) (text counts told : Text) (lines : List Line) → listed ≡ true → counts ≡ added_line (length a.entries) a.skipped
    → told ≡ counts ++ skipped_lines text lines → told ≡ import_told listed a text lines
told_with listed a text counts told lines is count more =
    more ∙ ap (λ (t : Text). t ++ skipped_lines text lines) count
    ∙ ap (λ (b : Bool). added_line (length a.entries) a.skipped ++ (if b then skipped_lines text lines else [])) (sym is)

pub told_without : (listed : Bool) (a : Additions) (text counts : Text) (lines : List Line) → listed ≡ false → counts ≡ added_line (length a.entries) a.skipped
    → counts ≡ import_told listed a text lines
told_without listed a text counts lines is count =
    count ∙ sym (append-nil (added_line (length a.entries) a.skipped))
    ∙ ap (λ (b : Bool). added_line (length a.entries) a.skipped ++ (if b then skipped_lines text lines else [])) (sym is)

-- a text that adds entries has lines that are skipped, though maybe none
pub are_skipped : (latex strict : Bool) (file text : Text) (a : Additions) (adds : AreAdditions latex strict file text a) → AreSkipped text (skips adds.reads.tree)
are_skipped latex strict file text a adds = record { said = adds.said; reads = adds.reads; skipped = refl }
