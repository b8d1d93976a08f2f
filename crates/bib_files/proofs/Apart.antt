-- The paths for a file are four.
use Rattle.std.specs.Prelude.{ℕ, ◌≡◌, ◌≢◌, ◌+◌, [], ◌∷◌, ◌++◌, length, codes}
use Rattle.std.proofs.Common.{arith, sym, ◌∙◌, ap, subst}
use Rattle.std.proofs.lemmas.List.{append_cancel_left, append-nil}
use Rattle.bib_spec.specs.Text.{Text}
use Rattle.bib_files.specs.Storing.{paths_for, AreApart}

-- what follows a text makes two texts of it, if it differs in length
differ : (front a b : Text) → length a ≢ length b → front ++ a ≢ front ++ b
differ front a b lens same = lens (ap length (append_cancel_left front a b same))

-- and so does what follows it alone
longer : (front : Text) (a : ℕ) (b : Text) → front ≢ front ++ (a ∷ b)
longer front a b same = differ front [] (a ∷ b) (λ e. omega (arith, e)) (append-nil front ∙ same)

pub apart : (file : Text) → AreApart (paths_for file)
apart file = record {
  file_journal = longer file _ _;
  file_new_file = longer file _ _;
  file_new_journal = longer file _ _;
  journal_new_file = differ file _ _ (λ e. omega (arith, e));
  journal_new_journal = differ file _ _ (λ e. omega (arith, e));
  new_file_new_journal = differ file _ _ (λ e. omega (arith, e));
}

pub apart_so : (file a b c d : Text) → a ≡ file → b ≡ file ++ codes ".bibkeep" → c ≡ file ++ codes ".bibkeep-new" → d ≡ file ++ codes ".bibkeep.bibkeep-new"
    → AreApart (record { file = a; journal = b; new_file = c; new_journal = d })
apart_so file a b c d is_a is_b is_c is_d =
    subst (λ (x : Text). AreApart (record { file = x; journal = b; new_file = c; new_journal = d })) (sym is_a)
    (subst (λ (x : Text). AreApart (record { file = file; journal = x; new_file = c; new_journal = d })) (sym is_b)
    (subst (λ (x : Text). AreApart (record { file = file; journal = file ++ codes ".bibkeep"; new_file = x; new_journal = d })) (sym is_c)
    (subst (λ (x : Text). AreApart (record { file = file; journal = file ++ codes ".bibkeep"; new_file = file ++ codes ".bibkeep-new"; new_journal = x })) (sym is_d)
    (apart file))))
