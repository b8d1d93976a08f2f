use Rattle.std.proofs.Common.{◌≡◌, ◌∷◌, List, Some, length, sym, ◌∙◌, ap, subst, option_and_then, cond, arith}
use Rattle.std.specs.Str.{bytes_eq}
use Rattle.std.specs.HashMap.{get_by}
use Rattle.std.proofs.lemmas.Map.Text.{hash_map_updates_str}
use Rattle.bib_places.specs.declared.queues.Link.{Link}
use Rattle.bib_places.specs.Queues.{first_of, AreQueued}
use Rattle.bib_places.proofs.Queued.{queued-more, begun}
use Rattle.bib_places.proofs.queues.Queues.put.Goals as goal

pub returns-clause-queued : goal.returns-clause-queued
returns-clause-queued c codes numbers has are =
    let firsts = c.args.self.now.firsts in
    let links = c.args.self.now.links.items in
    let at : c.len-at.result ≡ length links = omega (arith, c.len-at.ensures, c.args.self.now.links.ok) in
    subst (λ (l : List Link). AreQueued codes c.insert.new.self l (c.args.n ∷ numbers)) (sym c.in_ok-push.ensures.items)
    (queued-more codes firsts c.insert.new.self links (record { number = c.args.n; next = c.first-next.result }) numbers c.args.code.now has c.first-next.ensures
    (λ other. ap (λ o. option_and_then (λ first. first) o) (hash_map_updates_str c.args.code.now firsts c.insert.new.self _ c.in_ok-insert.ensures.updates other)
    ∙ begun (bytes_eq c.args.code.now other) (Some c.len-at.result) (get_by (λ k. bytes_eq other k.now) firsts)
    ∙ ap (λ n. cond (bytes_eq c.args.code.now other) (Some n) (first_of firsts other)) at)
    are)
