use Rattle.std.proofs.Common.{◌≡◌, ℕ, ap, ◌∙◌}
use Rattle.part_spec.specs.declared.part.Part.{Part}
use Rattle.part_spec.specs.Chip.{chip_of}
use Rattle.part_spec.specs.Pages.{erased}
use Rattle.debug_spec.specs.Programming.{erased_all}
use Rattle.ice_answer.specs.Kept.{ToolState}
use Rattle.ice_verify.specs.Standing.{given_pages, with_program}
use Rattle.ice_verify.proofs.Good.{programmed_made}
use Rattle.ice_verify.proofs.DoingWell.{programmed_so}
use Rattle.ice_verify.proofs.plain.Plain.erase_all.Goals as goal

pub returns-clause-does : goal.returns-clause-does
returns-clause-does c = λ part before s e good.
    let own = c.args.self.now.tool.plan in
    let pages : c.pages-pages.result ≡ (chip_of own.part).pages = c.pages-pages.ensures ∙ ap (λ (q : Part). (chip_of q).pages) c.part.ensures.part in
    programmed_so c.args.number (erased_all (chip_of part) s.prog s.device) (given_pages (erased (chip_of part)) 0 (chip_of part).pages s.prog)
    c.args.self.now c.erase.new.self c.args.out.now.items c.okay.new.out.items c.okay.ensures.sends
    (programmed_made (erased (chip_of part)) 0 (chip_of part).pages s.prog s.device good)
    (c.erase.ensures ∙ ap (λ (n : ℕ). with_program (given_pages (erased (chip_of own.part)) 0 n own.prog) c.args.self.now) pages ∙
    ap (λ (k : ToolState). with_program (given_pages (erased (chip_of k.plan.part)) 0 (chip_of k.plan.part).pages k.plan.prog) c.args.self.now) e.tool)
    part before s e
