use Rattle.std.proofs.Common.{Some, ◌∙◌, ap, is_some, sym, option_and_then, cond}
use Rattle.std.specs.Str.{bytes_eq}
use Rattle.std.specs.HashMap.{get_by}
use Rattle.std.proofs.lemmas.Map.Text.{hash_map_updates_str}
use Rattle.bib_places.proofs.queues.Queues.begin.Goals as goal

pub returns-in-Some-clause-others : goal.returns-in-Some-clause-others
returns-in-Some-clause-others c other apart =
    ap (λ o. option_and_then (λ first. first) o)
    (hash_map_updates_str c.args.code.now c.args.self.now.firsts (c.get_mut.follows.lender c.args.first) (Some c.args.first) ((c.get_mut.follows.holds c.args.first).3 (ap is_some (sym c.in-Some.ensures.value))) other
    ∙ ap (λ b. cond b (Some c.args.first) (get_by (λ k. bytes_eq other k.now) c.args.self.now.firsts)) apart)
