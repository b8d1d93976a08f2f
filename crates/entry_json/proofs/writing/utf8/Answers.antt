use Rattle.std.proofs.Common.{◌≡◌, ◌≢◌, false, ⊎_elim, rules}
use Rattle.std.proofs.lemmas.Bool.{cases_Bool}
use Rattle.std.proofs.lemmas.Str.{IsUtf8-from_is_utf8, is_utf8-from_IsUtf8}
use Rattle.std.specs.Str.{is_utf8}
use Rattle.entry_json.specs.declared.fault.JsonFault.TheVariants.{NotUtf8, Memory}
use Rattle.entry_json.proofs.writing.utf8.Goals as goal

pub returns-in-Ok-clause-text : goal.returns-in-Ok-clause-text
returns-in-Ok-clause-text c = (is_utf8-from_IsUtf8 c.args.bytes.now c.in-Ok.ensures.cases.1, c.in-Ok.ensures.cases.0)

pub returns-in-Err-clause-fault : goal.returns-in-Err-clause-fault
returns-in-Err-clause-fault c =
    let other : NotUtf8 ≢ Memory = search rules in
    let not : is_utf8 c.args.bytes.now ≡ false = ⊎_elim
    (λ t. absurd (c.in-Err.ensures.cases.0 (IsUtf8-from_is_utf8 c.args.bytes.now t)))
    (λ f. f)
    (cases_Bool (is_utf8 c.args.bytes.now)) in
    (other, not)
