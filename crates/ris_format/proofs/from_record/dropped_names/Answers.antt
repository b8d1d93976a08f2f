use Rattle.ris_format.proofs.Words.{◌≡◌, suc, ◌+◌, Bool, true, false, [], ◌∷◌, ◌++◌, drop, sym, ap, ◌∙◌, subst, if◌then◌else◌, Text, RecordField, Fields, is_dropped}
use Rattle.std.proofs.Common.{List, map, append_assoc, add-one, drop-cons}
use Rattle.std.specs.Prelude.{filter}
use Rattle.ris_format.proofs.from_record.dropped_names.Goals as goal

abbrev names_of : (RecordField → Bool) → Fields → List Text
names_of test fields = map (λ f. f.0) (filter test fields)

-- the name of the next field where it passes the test
names_on : (test : RecordField → Bool) (told whole : List Text) (f : RecordField) (rest : Fields) → told ++ names_of test (f ∷ rest) ≡ whole
    → (if test f then told ++ f.0 ∷ [] else told) ++ names_of test rest ≡ whole
names_on test told whole f rest = go (test f)
  where
    go : (b : Bool) → told ++ map (λ g. g.0) (if b then f ∷ filter test rest else filter test rest) ≡ whole → (if b then told ++ f.0 ∷ [] else told) ++ names_of test rest ≡ whole
    go true is = append_assoc told (f.0 ∷ []) (names_of test rest) ∙ is
    go false is = is

pub loop-field-preserved : goal.loop-field-preserved
loop-field-preserved c =
    let fields : Fields = c.args.fields.now in
    let i = c.loop-field.field-index in
    let field : RecordField = c.field-item.result in
    let next : drop i fields ≡ field ∷ drop (i + 1) fields = rw (add-one, drop-cons fields i field c.loop-field-test.true) (ap (λ (f : RecordField). f ∷ drop (suc i) fields) (sym c.field-item.is)) in
    rw c.in_ok-push_dropped.ensures
    (names_on (is_dropped c.args.kind) c.loop-field.names.items _ field (drop (i + 1) fields)
    (subst (λ (fs : Fields). c.loop-field.names.items ++ names_of (is_dropped c.args.kind) fs ≡ names_of (is_dropped c.args.kind) fields) next c.loop-field.invariant))
