use Rattle.std.proofs.Common.{◌≡◌, ◌++◌, ◌∷◌, [], codes, map, rules}
use Rattle.std.specs.Option.{option_copied}
use Rattle.json.specs.Token.{begin_object, key, string}
use Rattle.json.specs.Tree.{json_tokens, members_tokens}
use Rattle.bib_spec.specs.Text.{folded}
use Rattle.entry_json.specs.EntryJson.{parent_json, file_json}
use Rattle.entry_json.specs.RawJson.{written_seen, all_written_json, standing_json}
use Rattle.entry_json.proofs.WrittenEntry.{entry_tokens}
use Rattle.entry_json.proofs.raw.write_raw.Goals as goal

pub returns-clause-text : goal.returns-clause-text
returns-clause-text c =
    let fields = all_written_json (map written_seen c.args.fields.now) in
    let stands = standing_json c.args.entry.standing (file_json (option_copied c.args.file)) in
    let opened : c.begin_object.new.self.tokens ≡ c.args.writer.now.tokens ++ begin_object ∷ [] = search rules in
    let kind : c.write_type.new.writer.tokens ≡ (c.begin_object.new.self.tokens ++ key (codes "type") ∷ []) ++ string (folded c.args.entry.kind.now) ∷ [] = search rules in
    let named : c.write_member.new.writer.tokens ≡ (c.write_type.new.writer.tokens ++ key (codes "key") ∷ []) ++ string c.args.entry.key.now ∷ [] = search rules in
    let before_parent : c.key.new.self.tokens ≡ c.write_member.new.writer.tokens ++ key (codes "parent") ∷ [] = search rules in
    let parent : c.write_parent.new.writer.tokens ≡ c.key.new.self.tokens ++ json_tokens (parent_json (option_copied c.args.entry.parent)) = search rules in
    let before_fields : c.key-2.new.self.tokens ≡ c.write_parent.new.writer.tokens ++ key (codes "fields") ∷ [] = search rules in
    let begun : c.begin_object-2.new.self.tokens ≡ c.key-2.new.self.tokens ++ begin_object ∷ [] = search rules in
    let written : c.write_fields.new.writer.tokens ≡ c.begin_object-2.new.self.tokens ++ members_tokens fields = search rules in
    let closed : c.write_standing.new.writer.tokens ≡ c.write_fields.new.writer.tokens ++ members_tokens stands = search rules in
    rw (closed, written, begun, before_fields, parent, before_parent, named, kind, opened)
    (entry_tokens c.args.writer.now.tokens (json_tokens (parent_json (option_copied c.args.entry.parent))) (members_tokens fields) (members_tokens stands)
    begin_object (key (codes "type")) (string (folded c.args.entry.kind.now)) (key (codes "key")) (string c.args.entry.key.now) (key (codes "parent")) (key (codes "fields")) begin_object)
