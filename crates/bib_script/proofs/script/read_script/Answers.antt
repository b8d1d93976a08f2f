use Rattle.std.proofs.Common.{rules, ◌≡◌, ◌∙◌, ◌∷◌, [], ◌++◌, ◌<◌, ℕ, Some, length, sym, ap, subst, arith, add-one}
use Rattle.std.proofs.lemmas.List.Elements.{All-push, All-same}
use Rattle.bib_data.specs.Depths.{AsksWithDepth}
use Rattle.bib_script.specs.Parting.{words_of}
use Rattle.bib_script.specs.Script.{request_of, said_of}
use Rattle.bib_script.proofs.Depths.{said-asks}
use Rattle.bib_script.proofs.SaidLemmas.{SaysOn, says_asked}
use Rattle.bib_script.proofs.script.read_script.Goals as goal

pub line-preserved-in_ok-push_request-in-Some : goal.line-preserved-in_ok-push_request-in-Some
line-preserved-in_ok-push_request-in-Some c =
    let some : 0 < length c.split_line.result.0.now = search rules in
    let says : request_of (words_of c.split_line.result.0.now) ≡ Some c.in-Some.request = sym c.in_ok-request.ensures ∙ c.in-Some.is in
    let requests = c.in_ok-push_request-in-Some.ensures.requests in
    let shorter = c.split_line.ensures.shorter in
    let counted = c.line.invariant.counted in
    record {
      says = subst (λ (n : ℕ). SaysOn (said_of c.args.script.now) c.push_request.new.requests.items c.push_request.new.lines.items n c.split_line.result.1.now) (sym (add-one c.line.number))
          (says_asked (said_of c.args.script.now) c.line.requests.items c.push_request.new.requests.items c.line.lines.items c.push_request.new.lines.items c.line.number c.line.rest.now
          c.split_line.result.0.now c.split_line.result.1.now c.in-Some.request c.line.invariant.says c.split_line.ensures.lines some says requests
          (c.in_ok-push_request-in-Some.ensures.lines ∙ ap (λ (n : ℕ). c.line.lines.items ++ n ∷ []) (add-one c.line.number)));
      depths = All-same AsksWithDepth c.push_request.new.requests.items (c.line.requests.items ++ c.in-Some.request ∷ []) requests
          (All-push AsksWithDepth c.line.requests.items c.in-Some.request c.line.invariant.depths (said-asks (words_of c.split_line.result.0.now) c.in-Some.request says));
      counted = omega (arith, shorter, counted);
    }
