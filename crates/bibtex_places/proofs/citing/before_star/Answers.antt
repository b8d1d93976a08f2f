use Rattle.std.proofs.Common.{ℕ, ◌≤◌, not, length, sym, subst}
use Rattle.bibtex_spec.specs.Places.{is_star}
use Rattle.bibtex_places.proofs.Entries.{prefix_within}
use Rattle.bibtex_places.proofs.citing.before_star.Goals as goal

pub split_at-requires : goal.split_at-requires
split_at-requires c = subst (λ (n : ℕ). n ≤ length c.args.keys.now) (sym c.count_before_star.ensures) (prefix_within (λ key. not (is_star key)) c.args.keys.now)
