-- What is said of files, of others with the same bytes.
use Rattle.std.proofs.Common.{◌≡◌, subst}
use Rattle.bib_spec.specs.Text.{Text}
use Rattle.bib_merge.specs.declared.fault.MergeFault.{MergeFault}
use Rattle.bib_merge.specs.Merges.{IsMergeFault}

pub of_files : (P : Text → Text → Text → Type 0) (b o t base ours theirs : Text) → b ≡ base → o ≡ ours → t ≡ theirs → P b o t → P base ours theirs
of_files P b o t base ours theirs is_b is_o is_t p =
    subst (λ (f : Text). P f ours theirs) is_b (subst (λ (f : Text). P b f theirs) is_o (subst (λ (f : Text). P b o f) is_t p))

pub merge_fault_of : (b o t base ours theirs : Text) → b ≡ base → o ≡ ours → t ≡ theirs → (fault : MergeFault) → IsMergeFault b o t fault → IsMergeFault base ours theirs fault
merge_fault_of b o t base ours theirs is_b is_o is_t fault = of_files (λ x y z. IsMergeFault x y z fault) b o t base ours theirs is_b is_o is_t
