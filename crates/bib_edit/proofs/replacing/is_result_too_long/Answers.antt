use Rattle.bib_edit.proofs.Words.{◌*◌, length, ap, arith, length-map, token_seen, tokens_seen}
use Rattle.bib_edit.proofs.MacroPieces.{olds-tokens, news-tokens}
use Rattle.bib_edit.proofs.replacing.is_result_too_long.Goals as goal

pub covered-requires : goal.covered-requires
covered-requires g c =
    let olds = olds-tokens c.args.new.now (tokens_seen c.args.tokens.now) in
    let within = c.requires.inside in
    let short = c.opens.ensures.1.short in omega (arith, olds, within, short)

pub overflow_add-gone : goal.overflow_add-gone
overflow_add-gone g c =
    let olds = olds-tokens c.args.new.now (tokens_seen c.args.tokens.now) in
    let covers = c.covered.ensures in
    let within = c.requires.inside in
    let short = c.opens.ensures.1.short in omega (arith, olds, covers, within, short)

pub returns : goal.returns
returns g c =
    let olds = olds-tokens c.args.new.now (tokens_seen c.args.tokens.now) in
    let news = news-tokens c.args.new.now (tokens_seen c.args.tokens.now) in
    let product = ap (λ n. n * length c.args.new.now) (length-map c.args.tokens.now token_seen) in
    let covers = c.covered.ensures in
    let come = c.saturating_add-new_len.ensures in
    let times = c.saturating_mul.ensures in
    let within = c.requires.inside in
    let short = c.opens.ensures.1.short in (
      λ t. let over = c.is_file_too_long.ensures.0 t in omega (arith, over, olds, news, product, covers, come, times, within, short),
      λ h. c.is_file_too_long.ensures.1 (omega (arith, h, olds, news, product, covers, come, times, within, short)),
    )
