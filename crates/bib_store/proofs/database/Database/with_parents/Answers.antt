use Rattle.bib_store.proofs.Words.{ℕ, Bool, ◌≡◌, ◌<◌, List, length, sym, ap, ◌∙◌, subst, arith, entries_of, with_parents, AreMarks, AreCounts}
use Rattle.std.proofs.Common.{All}
use Rattle.bib_store.proofs.Citations.{refilled, once_within, with_parents_is}
use Rattle.bib_store.proofs.database.Database.with_parents.Goals as goal

pub counts_of_parents-requires : goal.counts_of_parents-requires
counts_of_parents-requires g c = λ db reads.
    subst (λ (l : List ℕ). All (λ n. n < length (entries_of db)) l) (sym (c.as_slice.ensures.value ∙ c.in_ok-listed.ensures.numbers))
    (once_within (λ n. n < length (entries_of db)) c.args.numbers.now (c.requires db reads))

pub returns-clause-listed : goal.returns-clause-listed
returns-clause-listed g c = λ db reads.
    let listed : List ℕ = c.in_ok-listed.listed.items in
    let marks : List Bool = c.as_slice-2.result.now in
    let counts : List ℕ = c.as_slice-3.result.now in
    let len : ℕ = c.in_ok-marks.marks.len in
    let old : List Bool = c.in_ok-marks.marks.items in
    let new : List Bool = c.once.new.marks in
    let old_len : length old ≡ len = omega (arith, c.in_ok-marks.marks.ok) in
    let new_len : length new ≡ len = omega (arith, c.in_ok-marks.marks.ok, c.once.auto.marks, ap (length {A = Bool}) c.as_mut_slice.ensures.value) in
    let marks_are : marks ≡ new = c.as_slice-2.ensures.value ∙ refilled len new old new_len old_len in
    let marked : AreMarks listed marks = subst (λ (l : List Bool). AreMarks listed l) (sym marks_are) c.in_ok-listed.ensures.marked in
    let counted : AreCounts (entries_of db) listed counts =
    subst (λ (l : List ℕ). AreCounts (entries_of db) listed l) (sym c.as_slice-3.ensures.value) (subst (λ (l : List ℕ). AreCounts (entries_of db) l c.in_ok-counts.counts.items) c.as_slice.ensures.value (c.in_ok-counts.ensures.counts db reads)) in
    let count = c.entry_count.ensures db reads in
    let m : length marks ≡ length (entries_of db) = omega (arith, count, ap (length {A = Bool}) marks_are, new_len, c.in_ok-marks.ensures.len) in
    let k : length counts ≡ length (entries_of db) = ap (length {A = ℕ}) c.as_slice-3.ensures.value ∙ c.in_ok-counts.ensures.count db reads in
    c.in_ok-with_added.ensures
    ∙ with_parents_is (entries_of db) c.args.min listed counts marks marked counted m k
    ∙ ap (with_parents (entries_of db) c.args.min) c.in_ok-listed.ensures.numbers
