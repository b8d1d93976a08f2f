use Rattle.bib_run.proofs.Words.{◌≡◌, true, false, rules, refl, subst, WritesPrefix}
use Rattle.bib_run.specs.Written.{whole, write_fault}
use Rattle.bib_run.proofs.Endings.{Appends-whole}
use Rattle.bib_run.proofs.writing.write_answer.Goals as goal

pub returns-then-not-write_whole : goal.returns-then-not-write_whole
returns-then-not-write_whole g c =
    let stopped : c.write_whole.result ≡ false = search rules in
    write_fault
    (rw (← c.as_slice.ensures) (subst (WritesPrefix _ _ c.as_slice.result.now) stopped c.write_whole.ensures.written))
    (c.write_whole.ensures.failed stopped)
    (search rules)

pub returns : goal.returns
returns g c =
    let done : c.write_whole.result ≡ true = search rules in
    whole
    (rw (← c.as_slice.ensures) (Appends-whole _ _ c.as_slice.result.now (subst (WritesPrefix _ _ c.as_slice.result.now) done c.write_whole.ensures.written)))
    (c.write_whole.ensures.sound done)
    refl
