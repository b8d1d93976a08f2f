use Rattle.std.proofs.Common.{◌≡◌, ◌++◌, ◌∷◌, [], codes, rules}
use Rattle.std.specs.Fmt.{decimal}
use Rattle.std.specs.Option.{option_copied}
use Rattle.json.specs.Token.{key, number}
use Rattle.json.specs.Tree.{members_tokens}
use Rattle.entry_json.specs.EntryJson.{file_json}
use Rattle.entry_json.proofs.WrittenEntry.{standing_tokens}
use Rattle.entry_json.proofs.raw.write_standing.Goals as goal

pub returns-clause-text : goal.returns-clause-text
returns-clause-text c =
    let item : c.write_number.new.writer.tokens ≡ (c.args.writer.now.tokens ++ key (codes "item") ∷ []) ++ number (decimal c.args.standing.item) ∷ [] = search rules in
    let line : c.write_number-2.new.writer.tokens ≡ (c.write_number.new.writer.tokens ++ key (codes "line") ∷ []) ++ number (decimal c.args.standing.line) ∷ [] = search rules in
    let column : c.write_number-3.new.writer.tokens ≡ (c.write_number-2.new.writer.tokens ++ key (codes "column") ∷ []) ++ number (decimal c.args.standing.column) ∷ [] = search rules in
    let closed : c.write_file.new.writer.tokens ≡ c.write_number-3.new.writer.tokens ++ members_tokens (file_json (option_copied c.args.file)) = search rules in
    rw (closed, column, line, item)
    (standing_tokens c.args.writer.now.tokens (members_tokens (file_json (option_copied c.args.file)))
    (key (codes "item")) (number (decimal c.args.standing.item)) (key (codes "line")) (number (decimal c.args.standing.line)) (key (codes "column")) (number (decimal c.args.standing.column)))
