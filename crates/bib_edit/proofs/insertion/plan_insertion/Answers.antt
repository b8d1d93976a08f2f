use Rattle.bib_edit.proofs.Words.{◌≡◌, ◌++◌, length, sym, ◌∙◌, ap, ap₂, arith, bytes_of, IfOk-weaker, OfReading}
use Rattle.insert_spec.specs.Insertion.{line_end_before}
use Rattle.bib_edit.specs.ManyEntries.{put_in}
use Rattle.bib_edit.specs.Insertions.{AreInsertionPieces, IsPlanned}
use Rattle.bib_edit.proofs.LimitTests.{not_over}
use Rattle.bib_edit.proofs.Inserted.{put-pieces, length-inserted, insert-long, insert-planned}
use Rattle.bib_edit.proofs.insertion.plan_insertion.Goals as goal

pub returns-then-is_file_too_long-clause-refused : goal.returns-then-is_file_too_long-clause-refused
returns-then-is_file_too_long-clause-refused g c db reads new reads_new =
    let bytes : c.as_slice.result.now ≡ line_end_before c.args.position new db ++ bytes_of new =
    c.as_slice.ensures ∙ c.in_ok-bytes.ensures.bytes ∙ ap₂ ◌++◌ (c.line_end_before-line.ensures db reads new reads_new) (sym reads_new.bytes) in
    let over = c.is_file_too_long.ensures.0 c.if-is_file_too_long.true in
    let put = ap length bytes in
    let made = length-inserted c.args.position new db c.args.db.now reads in
    insert-long c.args.position new db c.args.db.now c.args.text.now reads reads_new (c.in_ok-judge.ensures.insertable db reads new reads_new) (omega (arith, over, put, made))

pub put_in-requires : goal.put_in-requires
put_in-requires g c db reads = (c.in_ok-judge.ensures.insertable db reads c.opens.ensures.0 c.opens.ensures.1.reads).place

pub returns-clause-pieces : goal.returns-clause-pieces
returns-clause-pieces g c =
    IfOk-weaker c.put_in.result (λ pieces. OfReading c.args.db.now (λ r. pieces ≡ put_in r c.args.position c.in_ok-bytes.bytes)) (AreInsertionPieces c.args.db.now c.args.text.now c.args.position)
    (λ pieces told db reads new reads_new.
    told db reads
    ∙ ap (put_in db c.args.position) (c.in_ok-bytes.ensures.bytes ∙ ap₂ ◌++◌ (c.line_end_before-line.ensures db reads new reads_new) (sym reads_new.bytes))
    ∙ sym (put-pieces (line_end_before c.args.position new db ++ bytes_of new) db c.args.position))
    c.put_in.ensures.pieces

pub returns-clause-planned : goal.returns-clause-planned
returns-clause-planned g c =
    IfOk-weaker c.put_in.result (λ pieces. OfReading c.args.db.now (λ r. pieces ≡ put_in r c.args.position c.in_ok-bytes.bytes)) (λ pieces. IsPlanned c.args.db.now c.args.text.now c.args.position)
    (λ pieces told db reads new reads_new.
    let bytes : c.as_slice.result.now ≡ line_end_before c.args.position new db ++ bytes_of new =
    c.as_slice.ensures ∙ c.in_ok-bytes.ensures.bytes ∙ ap₂ ◌++◌ (c.line_end_before-line.ensures db reads new reads_new) (sym reads_new.bytes) in
    let short = not_over c.is_file_too_long.result _ _ c.is_file_too_long.ensures.1 c.if-is_file_too_long.false in
    let put = ap length bytes in
    let made = length-inserted c.args.position new db c.args.db.now reads in
    insert-planned c.args.position new db c.args.db.now c.args.text.now reads reads_new (c.in_ok-judge.ensures.insertable db reads new reads_new) (omega (arith, short, put, made)))
    c.put_in.ensures.pieces
