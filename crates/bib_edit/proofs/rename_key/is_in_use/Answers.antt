use Rattle.bib_edit.proofs.Words.{◌≡◌, ◌&&◌, ◌||◌, not, nat_lt, count_by, sym, ◌∙◌, ap, same, entries_of, keys_of, is_named, new_key_parts, is_awaited}
use Rattle.bib_edit.proofs.KeysInUse.{in-use}
use Rattle.bib_edit.proofs.rename_key.is_in_use.Goals as goal
use Rattle.bib_edit.proofs.rename_key.is_in_use.Goals.{then-not-same_folded, else-not-same_folded}

pub returns-then-holders-gt0 : goal.returns-then-holders-gt0
returns-then-holders-gt0 g c db reads =
    let held : (not (same c.args.from.now c.args.to.now) && nat_lt 0 (count_by (is_named c.args.to.now) (keys_of (entries_of db)))) ≡ c.if-not-same_folded.value =
    elim c.if-not-same_folded.branch [
      | then-not-same_folded w ↦
          ap (λ b. not b && nat_lt 0 (count_by (is_named c.args.to.now) (keys_of (entries_of db)))) (sym c.same_folded.ensures ∙ w.if-not-same_folded.true)
          ∙ ap (nat_lt 0) (sym (w.holders.ensures db reads)) ∙ sym w.value-is
      | else-not-same_folded w ↦
          ap (λ b. not b && nat_lt 0 (count_by (is_named c.args.to.now) (keys_of (entries_of db)))) (sym c.same_folded.ensures ∙ w.if-not-same_folded.false)
          ∙ sym (w.value-is ∙ ap not w.if-not-same_folded.false)
    ] in
    c.if-holders-gt0.true ∙ sym (ap (λ b. b || is_awaited c.args.to.now (entries_of db)) (held ∙ c.if-holders-gt0.true))
    ∙ in-use c.args.from.now c.args.to.now (entries_of db) (new_key_parts c.args.to.now c.requires).0

pub returns-else-holders-gt0 : goal.returns-else-holders-gt0
returns-else-holders-gt0 g c db reads =
    let held : (not (same c.args.from.now c.args.to.now) && nat_lt 0 (count_by (is_named c.args.to.now) (keys_of (entries_of db)))) ≡ c.if-not-same_folded.value =
    elim c.if-not-same_folded.branch [
      | then-not-same_folded w ↦
          ap (λ b. not b && nat_lt 0 (count_by (is_named c.args.to.now) (keys_of (entries_of db)))) (sym c.same_folded.ensures ∙ w.if-not-same_folded.true)
          ∙ ap (nat_lt 0) (sym (w.holders.ensures db reads)) ∙ sym w.value-is
      | else-not-same_folded w ↦
          ap (λ b. not b && nat_lt 0 (count_by (is_named c.args.to.now) (keys_of (entries_of db)))) (sym c.same_folded.ensures ∙ w.if-not-same_folded.false)
          ∙ sym (w.value-is ∙ ap not w.if-not-same_folded.false)
    ] in
    c.is_awaited.ensures db reads ∙ sym (ap (λ b. b || is_awaited c.args.to.now (entries_of db)) (held ∙ c.if-holders-gt0.false))
    ∙ in-use c.args.from.now c.args.to.now (entries_of db) (new_key_parts c.args.to.now c.requires).0
