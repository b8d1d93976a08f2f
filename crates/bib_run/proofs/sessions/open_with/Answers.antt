use Rattle.bib_run.proofs.Words.{◌≡◌, ℕ, List, true, option_map, rules, sym, subst, IfOk-weaker, RefusesOpen, OpensWith}
use Rattle.std.proofs.Common.{Bor}
use Rattle.bib_run.proofs.sessions.open_with.Goals as goal

pub returns-in-Err-clause-opened : goal.returns-in-Err-clause-opened
returns-in-Err-clause-opened c =
    let asked : c.args.new_journal ≡ true = search rules in
    let refused : RefusesOpen c.in-Err.fault c.args.file.items (option_map (λ (text : Bor (List ℕ)). text.now) c.args.journal) =
    subst (λ file. RefusesOpen c.in-Err.fault file (option_map (λ (text : Bor (List ℕ)). text.now) c.args.journal)) c.as_slice.ensures.value c.in-Err.ensures.refused in
    IfOk-weaker c.open_anew.result _ _
    (λ session opens. subst (λ new_journal. OpensWith new_journal c.args.file.items (option_map (λ (text : Bor (List ℕ)). text.now) c.args.journal) session) (sym asked) (opens _ refused))
    c.open_anew.ensures.opened
