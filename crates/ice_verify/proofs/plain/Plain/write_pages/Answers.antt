use Rattle.std.proofs.Common.{◌≡◌, ◌*◌, ◌/◌, ℕ, length, ap, ◌∙◌, arith}
use Rattle.part_spec.specs.Chip.{page_words, page_bytes}
use Rattle.part_spec.specs.Pages.{overlaid, paired}
use Rattle.debug_spec.specs.MemoryTypes.{pages_programmed}
use Rattle.ice_answer.specs.Kept.{ToolState}
use Rattle.ice_verify.specs.Standing.{given_pages, with_program}
use Rattle.ice_verify.proofs.Good.{programmed_made}
use Rattle.ice_verify.proofs.DoingWell.{programmed_so}
use Rattle.ice_verify.proofs.plain.Plain.write_pages.Goals as goal

pub returns-clause-does : goal.returns-clause-does
returns-clause-does c = λ part before s e good.
    let bytes = c.args.bytes.now in
    let page : ℕ = c.args.address / page_bytes in
    let count : ℕ = length bytes / page_bytes in
    let start : page_words * page ≡ c.args.address / 2 = omega (arith, c.requires.page) in
    let own = c.args.self.now.tool.plan in
    programmed_so c.args.frame (pages_programmed c.args.address bytes s.prog s)
    (given_pages (overlaid s.prog (c.args.address / 2) (paired bytes)) page count s.prog) c.args.self.now c.give_bytes.new.self c.args.out.now.items
    c.okay.new.out.items c.okay.ensures.sends
    (programmed_made (overlaid s.prog (c.args.address / 2) (paired bytes)) page count s.prog s.device good)
    (c.give_bytes.ensures ∙
    ap (λ (n : ℕ). with_program (given_pages (overlaid own.prog n (paired bytes)) page count own.prog) c.args.self.now) start ∙
    ap (λ (k : ToolState). with_program (given_pages (overlaid k.plan.prog (c.args.address / 2) (paired bytes)) page count k.plan.prog)
    c.args.self.now) e.tool)
    part before s e
