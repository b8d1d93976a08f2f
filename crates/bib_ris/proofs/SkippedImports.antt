-- Imports of texts of which a line is skipped.
use Rattle.bib_ris.proofs.Words.{◌≡◌, ◌∙◌, ℕ, ◌<◌, true, List, [], ◌∷◌, length, map, refl, sym, ap, subst, arith, Text, Drafts}
use Rattle.std.proofs.Common.{Bool}
use Rattle.ris_text.specs.Lines.{Line}
use Rattle.ris_text.specs.Skipped.{AreSkipped, skips, Standing, standing}
use Rattle.ris_text.proofs.SkipLemmas.{skipped_are_counted}
use Rattle.bib_ris.specs.declared.fault.ImportFault.{ImportFault}
use Rattle.bib_ris.specs.declared.fault.ImportFault.TheVariants.{SkippedLine}
use Rattle.bib_ris.specs.Drafts.{AreSaidBy}
use Rattle.bib_ris.specs.Import.{RefusesImport}

-- the text has a first line that is skipped
abbrev pub SkipsSome : Text → Type 0
SkipsSome text = (first : Line) × (others : List Line) × AreSkipped text (first ∷ others)

-- then some are found
pub some_found : (text : Text) (found : List Standing) → SkipsSome text → ((lines : List Line) → AreSkipped text lines → found ≡ map (standing text) lines) → found ≡ [] → ⊥
some_found text found (first, others, are) gives none =
    let same : [] ≡ map (standing text) (first ∷ others) = sym none ∙ gives (first ∷ others) are in
    absurd (cc)

-- the place of the first
abbrev pub first_place : List Standing → ℕ
first_place [] = 0
first_place (line ∷ lines) = line.place

-- a text that skips a line has a first line that it skips
pub some_skipped : (latex : Bool) (text : Text) (d : Drafts) (count : ℕ) → AreSaidBy latex text d count → 0 < count → SkipsSome text
some_skipped latex text d count said some = go (skips said.reads.tree) refl
  where
    go : (lines : List Line) → skips said.reads.tree ≡ lines → SkipsSome text
    go [] is =
        let counted : length (skips said.reads.tree) ≡ said.said.skipped =
        skipped_are_counted text said.said (skips said.reads.tree) said.reads (record { said = said.said; reads = said.reads; skipped = refl }) in
        absurd (omega (arith, counted, ap length is, said.skipped, some))
    go (first ∷ others) is = (first, others, record { said = said.said; reads = said.reads; skipped = is })

-- and is refused at that line, if `strict`
pub refused_at_first : (latex strict : Bool) (text : Text) (d : Drafts) (count : ℕ) (fault : ImportFault) → strict ≡ true → AreSaidBy latex text d count → 0 < count
    → ((first : Line) → (others : List Line) → AreSkipped text (first ∷ others) → fault ≡ SkippedLine first.place) → RefusesImport latex strict fault text
refused_at_first latex strict text d count fault is said some gives = go (some_skipped latex text d count said some)
  where
    go : SkipsSome text → RefusesImport latex strict fault text
    go (first, others, are) =
        subst (λ (f : ImportFault). RefusesImport latex strict f text) (sym (gives first others are))
        (is, record { said = said.said; reads = said.reads; balanced = said.drafts.balanced; first = first; others = others; skipped = are; begins = refl })
