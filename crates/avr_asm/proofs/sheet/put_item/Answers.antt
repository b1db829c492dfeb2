use Rattle.std.proofs.Common.{◌≡◌, ◌+◌, ◌&&◌, ◌||◌, Bool, false, nat_le, nat_lt, List, length, get_or, refl, ap, sym, ◌∙◌, arith}
use Rattle.std.specs.Vec.{with_items}
use Rattle.std.proofs.lemmas.List.{with_items_is}
use Rattle.part_spec.specs.Chip.{chip_of}
use Rattle.part_spec.proofs.Numbers.{words-small}
use Rattle.avr_asm.proofs.Keeping.{keeps_overlap, keeps_put}
use Rattle.avr_asm.proofs.sheet.put_item.Goals as goal

pub overflow_add-behind : goal.overflow_add-behind
overflow_add-behind c = omega (arith, c.requires.1.place, c.requires.1.within, words-small c.args.part, c.size_of-size.ensures.few)

pub is_taken-requires : goal.is_taken-requires
is_taken-requires c = omega (arith, c.requires.1.whole, c.if-words-behind.false, c.words.ensures, ap length c.deref.ensures.value)

pub returns-then-is_taken : goal.returns-then-is_taken
returns-then-is_taken c = λ laid keeps fits.
    keeps_overlap (chip_of c.args.part) c.args.number c.args.item c.args.sheet.now laid keeps c.size_of-size.result c.size_of-size.ensures.size
    (omega (arith, c.if-words-behind.false, c.words.ensures)) c.if-is_taken.ensures.0 c.if-is_taken.ensures.1 c.if-is_taken.ensures.2
    (ap (λ (l : List Bool). get_or l c.if-is_taken.ensures.0 false) (sym c.deref.ensures.value) ∙ c.if-is_taken.ensures.3)

pub take-requires-clause-room : goal.take-requires-clause-room
take-requires-clause-room c =
    omega (arith, c.requires.1.whole, c.if-words-behind.false, c.words.ensures, ap length c.deref_mut.ensures.value)

pub returns : goal.returns
returns c = λ laid keeps fits.
    let same : (with_items c.args.sheet.now.taken c.take.new.taken).items ≡ c.take.new.taken =
    with_items_is c.args.sheet.now.taken c.take.new.taken (c.take.auto.taken ∙ c.deref_mut.ensures.len) in
    keeps_put (chip_of c.args.part) c.args.number c.args.item c.args.sheet.now laid keeps c.size_of-size.result c.size_of-size.ensures.size
    (omega (arith, c.if-words-behind.false, c.words.ensures))
    (record {
      place = c.args.sheet.now.place + c.size_of-size.result;
      labels = c.args.sheet.now.labels;
      entries = c.push.new.self;
      taken = with_items c.args.sheet.now.taken c.take.new.taken;
    }) _ fits
    (λ k low high. ap (λ (l : List Bool). get_or l k false) (sym c.deref.ensures.value) ∙ c.if-is_taken.ensures k low high)
    refl refl refl c.in-Ok.ensures.items
    (λ k inside. ap (λ (l : List Bool). get_or l k false) same
    ∙ c.take.ensures k (omega (arith, inside, ap length c.deref_mut.ensures.value))
    ∙ ap (λ (l : List Bool). (nat_le c.args.sheet.now.place k && nat_lt k (c.args.sheet.now.place + c.size_of-size.result)) || get_or l k false)
    c.deref_mut.ensures.value)
    (ap length same ∙ c.take.auto.taken ∙ ap length c.deref_mut.ensures.value)
