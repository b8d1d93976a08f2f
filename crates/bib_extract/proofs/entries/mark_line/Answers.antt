use Rattle.std.proofs.Common.{◌≡◌, ℕ, ◌<◌, ◌⊎◌, Bool, List, true, false, length, set, inl, inr, refl, sym, ◌∙◌, ap, arith, ⊎_elim}
use Rattle.std.proofs.lemmas.List.{length-set}
use Rattle.bib_spec.specs.Text.{Text}
use Rattle.bib_spec.specs.Texts.{IsOpenable}
use Rattle.bib_spec.specs.Records.{entries_of}
use Rattle.bib_store.specs.Readings.{IsEntryNumber, OfReading}
use Rattle.bib_extract.specs.Marks.{is_marked}
use Rattle.bib_extract.proofs.MarkedEntries.{marked-set, stay-set, closed-on, closed-end, closed-met, closed-begin, kept-set, kept-parent, fewer-unmarked}
use Rattle.bib_extract.proofs.entries.mark_line.Goals as goal

within : (file : Text) (heir : ℕ) (marks old : List Bool) → IsOpenable file → IsEntryNumber file heir → OfReading file (λ r. length old ≡ length (entries_of r)) → length marks ≡ length old → heir < length marks
within file heir marks old it number count same = let a = number it.0 it.1.reads in let b = count it.0 it.1.reads in omega (arith, a, b, same)

marked_now : (marks : List Bool) (n heir : ℕ) → heir < length marks → (is_marked marks n ≡ true) ⊎ (n ≡ heir) → is_marked (set marks heir true) n ≡ true
marked_now marks n heir lt either = ⊎_elim (λ m. stay-set marks heir lt n m) (λ e. ap (is_marked (set marks heir true)) e ∙ marked-set marks heir lt) either

pub line-init : goal.line-init
line-init g c = (
  c.requires.number,
  refl,
  inr refl,
  λ n e. e,
  λ r reads closed. closed-begin (entries_of r) c.args.marks.now c.args.n closed,
  λ r reads list k all. (all, k),
)

pub bounds-marks-heir : goal.bounds-marks-heir
bounds-marks-heir g c = within c.args.db.now c.line.heir c.line.marks c.args.marks.now c.opens.ensures c.line.invariant.0 c.requires.count c.line.invariant.1

pub line-smaller : goal.line-smaller
line-smaller g c =
    fewer-unmarked c.line.marks c.line.heir (within c.args.db.now c.line.heir c.line.marks c.args.marks.now c.opens.ensures c.line.invariant.0 c.requires.count c.line.invariant.1)
    (sym c.is_marked.ensures ∙ c.line-test.true)

pub line-preserved : goal.line-preserved
line-preserved g c =
    let lt = within c.args.db.now c.line.heir c.line.marks c.args.marks.now c.opens.ensures c.line.invariant.0 c.requires.count c.line.invariant.1 in (
      c.in-Some.ensures.number,
      length-set c.line.marks c.line.heir true ∙ c.line.invariant.1,
      inl (marked_now c.line.marks c.args.n c.line.heir lt c.line.invariant.2),
      λ n e. stay-set c.line.marks c.line.heir lt n (c.line.invariant.3 n e),
      λ r reads closed. closed-on (entries_of r) c.line.marks c.line.heir c.in-Some.parent lt (sym (c.in-Some.ensures.parent r reads)) (c.line.invariant.4 r reads closed),
      λ r reads list k all.
          let so_far = c.line.invariant.5 r reads list k all in (
            kept-set (entries_of r) list c.line.marks c.line.heir so_far.1 so_far.0,
            kept-parent (entries_of r) list c.line.heir c.in-Some.parent so_far.1 (sym (c.in-Some.ensures.parent r reads)),
          ),
    )

pub returns-in-None-clause-marked : goal.returns-in-None-clause-marked
returns-in-None-clause-marked g c =
    marked_now c.line.marks c.args.n c.line.heir (within c.args.db.now c.line.heir c.line.marks c.args.marks.now c.opens.ensures c.line.invariant.0 c.requires.count c.line.invariant.1) c.line.invariant.2

pub returns-in-None-clause-stay : goal.returns-in-None-clause-stay
returns-in-None-clause-stay g c n e =
    stay-set c.line.marks c.line.heir (within c.args.db.now c.line.heir c.line.marks c.args.marks.now c.opens.ensures c.line.invariant.0 c.requires.count c.line.invariant.1) n (c.line.invariant.3 n e)

pub returns-in-None-clause-closed : goal.returns-in-None-clause-closed
returns-in-None-clause-closed g c r reads closed =
    closed-end (entries_of r) c.line.marks c.line.heir (within c.args.db.now c.line.heir c.line.marks c.args.marks.now c.opens.ensures c.line.invariant.0 c.requires.count c.line.invariant.1)
    (sym (c.in-None.ensures.parent r reads)) (c.line.invariant.4 r reads closed)

pub returns-in-None-clause-kept : goal.returns-in-None-clause-kept
returns-in-None-clause-kept g c r reads list k all =
    let so_far = c.line.invariant.5 r reads list k all in kept-set (entries_of r) list c.line.marks c.line.heir so_far.1 so_far.0

pub returns-clause-marked : goal.returns-clause-marked
returns-clause-marked g c = ⊎_elim (λ m. m) (λ e. ap (is_marked c.line.marks) e ∙ sym c.is_marked.ensures ∙ c.line-test.false) c.line.invariant.2

pub returns-clause-stay : goal.returns-clause-stay
returns-clause-stay g c = c.line.invariant.3

pub returns-clause-closed : goal.returns-clause-closed
returns-clause-closed g c r reads closed =
    closed-met (entries_of r) c.line.marks c.line.heir (sym c.is_marked.ensures ∙ c.line-test.false) (c.line.invariant.4 r reads closed)

pub returns-clause-kept : goal.returns-clause-kept
returns-clause-kept g c r reads list k all = (c.line.invariant.5 r reads list k all).0
