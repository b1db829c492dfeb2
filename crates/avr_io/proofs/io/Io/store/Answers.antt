use Rattle.std.proofs.Common.{◌≡◌, true, refl, sym, ap, ◌∙◌}
use Rattle.avr_spec.specs.declared.target.OutWrite.{OutWrite}
use Rattle.avr_spec.specs.IoSpace.{is_output, stored_byte}
use Rattle.avr_spec.specs.Kept.{KeptIo, kept_io, ring_size}
use Rattle.avr_io.specs.Keeps.{io_of}
use Rattle.avr_io.specs.Quiet.{later, with_byte}
use Rattle.avr_io.proofs.KeptLemmas.{with_stored, kept-noted, store-output}
use Rattle.avr_io.proofs.Watching.{watched-noted}
use Rattle.avr_io.proofs.io.Io.store.Goals as goal

pub returns-then-is_output-clause-moves : goal.returns-then-is_output-clause-moves
returns-then-is_output-clause-moves c = λ part io h.
    let s = c.self.inside in
    let a = c.args.a in
    let v = c.args.v in
    let cycle = c.cycles-cycle.result in
    let write : OutWrite = record { cycle = cycle; a = a; byte = v } in
    let put : later s.passed s.space ≡ kept_io part (with_stored a v io) =
    c.self.view_is ∙ c.put.ensures ∙ ap (λ (k : KeptIo). with_byte a (stored_byte a v (io_of k)) k) h in
    let at : cycle ≡ io.cycles = c.cycles-cycle.ensures.cycles ∙ sym (ap (λ (k : KeptIo). k.cycles) c.self.view_is) ∙ ap (λ (k : KeptIo). k.cycles) put in
    let out : is_output a ≡ true = sym c.is_output.ensures ∙ c.if-is_output.true in
    let now = later s.passed s.space in
    ap (λ (k : KeptIo). later s.passed k) c.note.ensures.after ∙
    kept-noted part now ring_size write (with_stored a v io) put refl ∙
    store-output part a v cycle io out at

pub invariant_of-self : goal.invariant_of-self
invariant_of-self c =
    let s = c.self.inside in
    watched-noted s.space c.note.new.self (record { cycle = c.cycles-cycle.result; a = c.args.a; byte = c.args.v }) s.passed s.limit s.pending
    c.note.ensures.after c.note.ensures.kept c.self.invariant
