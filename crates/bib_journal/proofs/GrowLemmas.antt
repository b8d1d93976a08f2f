-- A step that another edit joins.
use Rattle.bib_journal.proofs.Words.{◌≡◌, ℕ, ◌≤◌, get_or, List, length, sym, subst, ◌∙◌, ap, ap₂, file_limit, Text, Piece, Fit, applied, reversed, EndBy, fit_back, composed, IsAllowed, Leads, before, edited_at}
use Rattle.history_spec.specs.Composing.{FitInTurn}
use Rattle.bib_steps.specs.Amending.{LiesInside}
use Rattle.history_spec.proofs.Glued.{composed-fit, composed-lead}
use Rattle.history_spec.proofs.Near.{ends_inside}

grow_fits : (pieces edit : List Piece) (file : Text) → Leads pieces (before pieces file) file → IsAllowed edit file → FitInTurn pieces edit (before pieces file)
grow_fits pieces edit file l a = record {
  first_fit = l.fit;
  second_fit = subst (λ (t : Text). Fit edit t) (sym l.made) a.fit;
  short = l.old_is_file.1.short;
  short_middle = subst (λ (t : Text). length t ≤ file_limit) (sym l.made) l.new_is_file.1.short;
}

grown_fit : (pieces edit : List Piece) (file : Text) → Leads pieces (before pieces file) file → IsAllowed edit file → Fit (composed pieces edit) (before pieces file)
grown_fit pieces edit file l a =
    let c : FitInTurn pieces edit (before pieces file) = grow_fits pieces edit file l a in
    composed-fit pieces edit (before pieces file) c.first_fit c.second_fit

pub grown_short : (pieces edit new : List Piece) (file : Text) → Leads pieces (before pieces file) file → IsAllowed edit file → new ≡ composed pieces edit → EndBy file_limit new
grown_short pieces edit new file l a e =
    subst (EndBy file_limit) (sym e) (ends_inside file_limit (before pieces file) (composed pieces edit) l.old_is_file.1.short (grown_fit pieces edit file l a).standing)

pub grown_ends_short : (pieces edit new : List Piece) (file : Text) → Leads pieces (before pieces file) file → IsAllowed edit file → new ≡ composed pieces edit → EndBy file_limit (reversed new)
grown_ends_short pieces edit new file l a e =
    let c : FitInTurn pieces edit (before pieces file) = grow_fits pieces edit file l a in
    let old : Text = before pieces file in
    let made : applied (composed pieces edit) old ≡ applied edit file = composed-lead pieces edit old c.first_fit c.second_fit ∙ ap (applied edit) l.made in
    let fit : Fit (reversed (composed pieces edit)) (applied (composed pieces edit) old) = fit_back (composed pieces edit) old (grown_fit pieces edit file l a) in
    let short : length (applied (composed pieces edit) old) ≤ file_limit = subst (λ (t : Text). length t ≤ file_limit) (sym made) a.made.1.short in
    subst (λ (ps : List Piece). EndBy file_limit (reversed ps)) (sym e) (ends_inside file_limit (applied (composed pieces edit) old) (reversed (composed pieces edit)) short fit.standing)

-- the one piece of an edit changes the piece of the step in which it begins
pub joined_inside : (pieces list edit : List Piece) (n k : ℕ) (q : Piece) → LiesInside pieces edit n k → q ≡ get_or edit 0 q → list ≡ pieces → edited_at n k q list ≡ composed pieces edit
joined_inside pieces list edit n k q inside e same =
    let more : q ≡ inside.more = e ∙ ap (λ (ps : List Piece). get_or ps 0 q) inside.one in
    ap₂ (edited_at n k) more same ∙ sym inside.joined
