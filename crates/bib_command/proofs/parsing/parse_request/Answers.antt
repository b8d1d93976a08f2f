use Rattle.std.proofs.Common.{◌≡◌, ◌∙◌, [], ap, sym, subst, map, string_bytes, List, Option, codes, false, inl, inr}
use Rattle.std.proofs.lemmas.Bool.{false≢true}
use Rattle.std.specs.Option.{option_map_or}
use Rattle.clap.specs.Words.{Row, Text, HasKind, is_simple, is_simple_and_free, fault_of, takes, subcommand_of, found_of, rows_of}
use Rattle.bib_command.specs.CommandLine.{given}
use Rattle.bib_command.specs.Usage as spec
use Rattle.bib_command.proofs.Subcommands.{met}
use Rattle.bib_command.proofs.Errors.{bibkeep_is_simple, usage_of_memory, usage_for, matched_usage}
use Rattle.bib_command.proofs.parsing.parse_request.Goals as goal

pub returns-then-is_known-clause-ok : goal.returns-then-is_known-clause-ok
returns-then-is_known-clause-ok c =
    let app_is = c.in-Ok.ensures.app in
    let matches = c.in-Ok-try_get_matches_from.ensures.matches (ap is_simple app_is) in
    record {
      name = c.in-Some.name.now;
      rows = rows_of (found_of c.in-Some.inner.now);
      named = sym (matches.1 ∙ ap (λ a. subcommand_of a (map string_bytes c.args.words.now)) app_is) ∙ met _ _ _ _ _ c.in-Some.ensures.name c.in-Some.ensures.rows;
      together = sym c.if-is_in_conflict.ensures;
      command = c.in-Ok-command_of.ensures;
    }

pub returns-then-is_known-clause-hints : goal.returns-then-is_known-clause-hints
returns-then-is_known-clause-hints c =
    let app_is = c.in-Ok.ensures.app in
    let matches = c.in-Ok-try_get_matches_from.ensures.matches (ap is_simple app_is) in
    let named = sym (matches.1 ∙ ap (λ a. subcommand_of a (map string_bytes c.args.words.now)) app_is) ∙ met _ _ _ _ _ c.in-Some.ensures.name c.in-Some.ensures.rows in
    c.is_given.ensures ∙ sym (ap (λ (s : Option (Text × List Row)). option_map_or (λ (found : Text × List Row). given (codes "hints") found.1) s false) named)

pub returns-then-is_known-clause-accepted : goal.returns-then-is_known-clause-accepted
returns-then-is_known-clause-accepted c =
    let app_is = c.in-Ok.ensures.app in
    subst (λ a. fault_of a (map string_bytes c.args.words.now) ≡ []) app_is
    (c.in-Ok-try_get_matches_from.ensures.kinds (ap is_simple_and_free app_is ∙ bibkeep_is_simple))

pub returns-in-Ok-command_of-clause-err : goal.returns-in-Ok-command_of-clause-err
returns-in-Ok-command_of-clause-err c =
    let app_is = c.in-Ok.ensures.app in
    let matches = c.in-Ok-try_get_matches_from.ensures.matches (ap is_simple app_is) in
    let lack : spec.LackKeys (map string_bytes c.args.words.now) = record {
      command = c.in-Ok-command_of.command;
      named = record {
        name = c.in-Some.name.now;
        rows = rows_of (found_of c.in-Some.inner.now);
        named = sym (matches.1 ∙ ap (λ a. subcommand_of a (map string_bytes c.args.words.now)) app_is) ∙ met _ _ _ _ _ c.in-Some.ensures.name c.in-Some.ensures.rows;
        together = sym c.if-is_in_conflict.ensures;
        command = c.in-Ok-command_of.ensures;
      };
      unknown = λ known. false≢true (c.if-is_known.ensures.1 known);
    } in
    matched_usage _ _ (spec.keyless lack) c.without_keys.ensures

pub returns-in-Ok-command_of-clause-taken : goal.returns-in-Ok-command_of-clause-taken
returns-in-Ok-command_of-clause-taken c =
    let app_is = c.in-Ok.ensures.app in
    let matches = c.in-Ok-try_get_matches_from.ensures.matches (ap is_simple app_is) in
    let lack : spec.LackKeys (map string_bytes c.args.words.now) = record {
      command = c.in-Ok-command_of.command;
      named = record {
        name = c.in-Some.name.now;
        rows = rows_of (found_of c.in-Some.inner.now);
        named = sym (matches.1 ∙ ap (λ a. subcommand_of a (map string_bytes c.args.words.now)) app_is) ∙ met _ _ _ _ _ c.in-Some.ensures.name c.in-Some.ensures.rows;
        together = sym c.if-is_in_conflict.ensures;
        command = c.in-Ok-command_of.ensures;
      };
      unknown = λ known. false≢true (c.if-is_known.ensures.1 known);
    } in
    λ t. inl (spec.keyless lack)

pub returns-then-is_in_conflict-clause-err : goal.returns-then-is_in_conflict-clause-err
returns-then-is_in_conflict-clause-err c =
    let app_is = c.in-Ok.ensures.app in
    let matches = c.in-Ok-try_get_matches_from.ensures.matches (ap is_simple app_is) in
    let conflict : spec.AreInConflict (map string_bytes c.args.words.now) = record {
      name = c.in-Some.name.now;
      rows = rows_of (found_of c.in-Some.inner.now);
      named = sym (matches.1 ∙ ap (λ a. subcommand_of a (map string_bytes c.args.words.now)) app_is) ∙ met _ _ _ _ _ c.in-Some.ensures.name c.in-Some.ensures.rows;
      conflict = sym c.if-is_in_conflict.ensures;
    } in
    matched_usage _ _ (spec.in_conflict conflict) c.in_conflict.ensures

pub returns-then-is_in_conflict-clause-taken : goal.returns-then-is_in_conflict-clause-taken
returns-then-is_in_conflict-clause-taken c =
    let app_is = c.in-Ok.ensures.app in
    let matches = c.in-Ok-try_get_matches_from.ensures.matches (ap is_simple app_is) in
    let conflict : spec.AreInConflict (map string_bytes c.args.words.now) = record {
      name = c.in-Some.name.now;
      rows = rows_of (found_of c.in-Some.inner.now);
      named = sym (matches.1 ∙ ap (λ a. subcommand_of a (map string_bytes c.args.words.now)) app_is) ∙ met _ _ _ _ _ c.in-Some.ensures.name c.in-Some.ensures.rows;
      conflict = sym c.if-is_in_conflict.ensures;
    } in
    λ t. inl (spec.in_conflict conflict)

pub returns-clause-err : goal.returns-clause-err
returns-clause-err c =
    let kinds = c.in-Err.ensures.kinds (ap is_simple_and_free c.in-Ok.ensures.app ∙ bibkeep_is_simple) in
    usage_for _ c.in-Err.error _ (subst (λ a. HasKind (fault_of a (map string_bytes c.args.words.now)) c.in-Err.error) c.in-Ok.ensures.app kinds) c.usage_of.ensures

pub returns-clause-taken : goal.returns-clause-taken
returns-clause-taken c = λ t. inr (usage_of_memory _ _ c.usage_of.ensures (c.in-Err.ensures.passes (ap (λ a. takes a (map string_bytes c.args.words.now)) c.in-Ok.ensures.app ∙ t)))
