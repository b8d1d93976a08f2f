use Rattle.bib_extract.specs.declared.fault.ExtractFault.{ExtractFault}
use Rattle.bib_extract.specs.declared.fault.ExtractFault.TheVariants.{FileTooLong}
use Rattle.bib_extract.specs.Faults.{RefusesExtract}
use Rattle.std.proofs.Common.{Result, Ok, Err, IfOk, IfErr, OnOk, ◌≡◌, ◌≤◌, ◌<◌, Bool, List, length, ◌∙◌, sym, ap, subst}
use Rattle.bib_spec.specs.Bytes.{file_limit}
use Rattle.bib_spec.specs.Text.{Text}
use Rattle.bib_spec.specs.Reading.{Item, bytes_of}
use Rattle.bib_spec.specs.Texts.{IsOpenable}
use Rattle.extract_spec.specs.Extract.{keeps_for, kept, extract_of}
use Rattle.extract_spec.proofs.ExtractOpens.{extract-opens}
use Rattle.bib_store.specs.Readings.{OfReading}
use Rattle.bib_extract.specs.Written.{marked_bytes}
use Rattle.bib_extract.proofs.WalkedItems.{length-kept}
use Rattle.bib_extract.proofs.extracting.extract.Goals as goal

pub marked_bytes-requires : goal.marked_bytes-requires
marked_bytes-requires g c r reads = ap length (c.as_slice.ensures.value ∙ c.in_ok-marks.ensures.marks r reads) ∙ length-kept (keeps_for r c.args.keys.now) 0 r.items

-- the bytes of an extract that fits can be opened
opens_as : (file : Text) (keys : List Text) (text : Text) → IsOpenable file → OfReading file (λ r. text ≡ bytes_of (extract_of r keys)) → length text ≤ file_limit → IsOpenable text
opens_as file keys text it is short =
    let same = is it.0 it.1.reads in
    subst IsOpenable (sym same) (extract_of it.0 keys, extract-opens file it.0 keys it.1 (subst (λ (t : Text). length t ≤ file_limit) same short))

module _ (file : Text) (keys : List Text) (text : Text) where
  text_stays : (P : Text → Type 0) (given : Result Text ExtractFault) → IfOk given (λ fits. fits ≡ text) → P text → IfOk given P
  text_stays P (Ok fits) same holds = subst P (sym same) holds
  text_stays P (Err fault) same holds = tt

  opens_if : (given : Result Text ExtractFault) → IfOk given (λ fits. fits ≡ text) → OnOk given (length text ≤ file_limit) → (length text ≤ file_limit → IsOpenable text) → IfOk given IsOpenable
  opens_if (Ok fits) same short opens = subst IsOpenable (sym same) (opens short)
  opens_if (Err fault) same short opens = tt

  refused_if : (given : Result Text ExtractFault) → IfErr given (λ fault. (fault ≡ FileTooLong) × (file_limit < length text)) → (file_limit < length text → RefusesExtract file keys FileTooLong) →
      IfErr given (RefusesExtract file keys)
  refused_if (Ok fits) its refuses = tt
  refused_if (Err fault) its refuses = subst (RefusesExtract file keys) (sym its.0) (refuses its.1)

-- the bytes that were written are the extract's
written : (text : Text) (marks kept' : List Bool) (items : List Item) → text ≡ marked_bytes marks items → marks ≡ kept' → text ≡ marked_bytes kept' items
written text marks kept' items is same = is ∙ ap (λ (ms : List Bool). marked_bytes ms items) same

pub returns-clause-text : goal.returns-clause-text
returns-clause-text g c =
    text_stays c.args.db.now c.args.keys.now c.in_ok-text.text (λ text. OfReading c.args.db.now (λ r. text ≡ bytes_of (extract_of r c.args.keys.now))) c.fitting.result c.fitting.ensures.same
    (λ r reads. written c.in_ok-text.text c.as_slice.result.now (kept r c.args.keys.now) r.items (c.in_ok-text.ensures r reads) (c.as_slice.ensures.value ∙ c.in_ok-marks.ensures.marks r reads))

pub returns-clause-opens : goal.returns-clause-opens
returns-clause-opens g c =
    opens_if c.args.db.now c.args.keys.now c.in_ok-text.text c.fitting.result c.fitting.ensures.same c.fitting.ensures.short
    (opens_as c.args.db.now c.args.keys.now c.in_ok-text.text c.opens.ensures
    (λ r reads. written c.in_ok-text.text c.as_slice.result.now (kept r c.args.keys.now) r.items (c.in_ok-text.ensures r reads) (c.as_slice.ensures.value ∙ c.in_ok-marks.ensures.marks r reads)))

pub returns-clause-fault : goal.returns-clause-fault
returns-clause-fault g c =
    refused_if c.args.db.now c.args.keys.now c.in_ok-text.text c.fitting.result c.fitting.ensures.fault
    (λ long r reads. (
      c.in_ok-marks.ensures.known r reads,
      subst (λ (t : Text). file_limit < length t)
          (written c.in_ok-text.text c.as_slice.result.now (kept r c.args.keys.now) r.items (c.in_ok-text.ensures r reads) (c.as_slice.ensures.value ∙ c.in_ok-marks.ensures.marks r reads)) long,
    ))
