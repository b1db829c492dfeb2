use Rattle.std.proofs.Common.{arith}
use Rattle.part_spec.specs.Chip.{chip_of}
use Rattle.part_spec.proofs.Numbers.{words-small}
use Rattle.avr_asm.specs.declared.orders.Item.TheVariants.{Plain}
use Rattle.avr_asm.specs.declared.sheet.Entry.{Entry}
use Rattle.avr_asm.specs.Settled.{piece_told}
use Rattle.avr_asm.proofs.Filling.{filled_more, filled_wrong, fits_here}
use Rattle.avr_asm.proofs.encodings.put_entries.Goals as goal

-- what stands where there is no entry
abbrev first : Entry
first = record { line = 0; place = 0; item = Plain 0 }

pub item_words-requires-clause-fit : goal.item_words-requires-clause-fit
item_words-requires-clause-fit c =
    (fits_here (chip_of c.args.part) c.args.entries.now c.entries.entry-index first c.entries-test.true c.requires.fit).item

pub item_words-requires-clause-within : goal.item_words-requires-clause-within
item_words-requires-clause-within c =
    (fits_here (chip_of c.args.part) c.args.entries.now c.entries.entry-index first c.entries-test.true c.requires.fit).within

pub put_piece-requires-clause-room : goal.put_piece-requires-clause-room
put_piece-requires-clause-room c =
    let fits = fits_here (chip_of c.args.part) c.args.entries.now c.entries.entry-index first c.entries-test.true c.requires.fit in
    omega (arith, fits.within, c.in-Ok.ensures.within, c.requires.size, c.entries.auto.words)

pub put_piece-requires-clause-small : goal.put_piece-requires-clause-small
put_piece-requires-clause-small c = omega (arith, c.requires.size, c.entries.auto.words, words-small c.args.part)

pub returns-in-Err : goal.returns-in-Err
returns-in-Err c = λ names has.
    filled_wrong (chip_of c.args.part) names c.args.entries.now c.entries.entry-index first c.entries-test.true c.entries.used c.entries.words
    (c.entries.invariant names has) c.in-Err.kind (c.in-Err.ensures.words names has)

pub entries-preserved : goal.entries-preserved
entries-preserved c = λ names has.
    let fits = fits_here (chip_of c.args.part) c.args.entries.now c.entries.entry-index first c.entries-test.true c.requires.fit in
    filled_more (chip_of c.args.part) names c.args.entries.now c.entries.entry-index first c.entries-test.true c.entries.used c.entries.words
    (c.entries.invariant names has) (piece_told c.in-Ok.piece) c.put_piece.new.words c.put_piece.result c.max-used.result
    (c.in-Ok.ensures.words names has) (omega (arith, fits.within, c.in-Ok.ensures.within)) c.put_piece.ensures.words c.put_piece.ensures.behind
    c.max-used.ensures
