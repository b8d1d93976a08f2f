use Rattle.std.proofs.Common.{◌≡◌, ◌++◌, ◌∷◌, [], codes, rules}
use Rattle.std.specs.Option.{option_copied}
use Rattle.json.specs.Token.{begin_object, key, string}
use Rattle.json.specs.Tree.{json_tokens, members_tokens}
use Rattle.entry_json.specs.EntryJson.{parent_json, fields_json, file_json}
use Rattle.entry_json.proofs.WrittenEntry.{entry_tokens}
use Rattle.entry_json.proofs.writing.write_entry.Goals as goal

pub returns-clause-text : goal.returns-clause-text
returns-clause-text c =
    let opened : c.begin_object.new.self.tokens ≡ c.args.writer.now.tokens ++ begin_object ∷ [] = search rules in
    let kind : c.write_member.new.writer.tokens ≡ (c.begin_object.new.self.tokens ++ key (codes "type") ∷ []) ++ string c.args.rec.now.kind_name ∷ [] = search rules in
    let named : c.write_member-2.new.writer.tokens ≡ (c.write_member.new.writer.tokens ++ key (codes "key") ∷ []) ++ string c.args.rec.now.key ∷ [] = search rules in
    let before_parent : c.key.new.self.tokens ≡ c.write_member-2.new.writer.tokens ++ key (codes "parent") ∷ [] = search rules in
    let parent : c.write_parent.new.writer.tokens ≡ c.key.new.self.tokens ++ json_tokens (parent_json (option_copied c.args.parent)) = search rules in
    let before_fields : c.key-2.new.self.tokens ≡ c.write_parent.new.writer.tokens ++ key (codes "fields") ∷ [] = search rules in
    let begun : c.begin_object-2.new.self.tokens ≡ c.key-2.new.self.tokens ++ begin_object ∷ [] = search rules in
    let fields : c.write_fields.new.writer.tokens ≡ c.begin_object-2.new.self.tokens ++ members_tokens (fields_json c.args.rec.now.fields) = search rules in
    let closed : c.write_file.new.writer.tokens ≡ c.write_fields.new.writer.tokens ++ members_tokens (file_json (option_copied c.args.file)) = search rules in
    rw (closed, fields, begun, before_fields, parent, before_parent, named, kind, opened)
    (entry_tokens c.args.writer.now.tokens (json_tokens (parent_json (option_copied c.args.parent))) (members_tokens (fields_json c.args.rec.now.fields)) (members_tokens (file_json (option_copied c.args.file)))
    begin_object (key (codes "type")) (string c.args.rec.now.kind_name) (key (codes "key")) (string c.args.rec.now.key) (key (codes "parent")) (key (codes "fields")) begin_object)
