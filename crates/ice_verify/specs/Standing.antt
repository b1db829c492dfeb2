-- What the code of the debugger that plants nothing is at any moment.
use Rattle.std.specs.Prelude.{◌≡◌, ℕ, zero, suc, List, []}
use Rattle.part_spec.specs.Chip.{chip_of}
use Rattle.part_spec.specs.Pages.{page_of, with_page}
use Rattle.debug_spec.specs.Debugger.{programming}
use Rattle.ice_answer.specs.Does.{At, at}
use Rattle.ice_verify.specs.declared.plain.Plain.{Plain}

-- where it is, with so many bytes sent in this call
abbrev pub at_of : Plain → List ℕ → At
at_of p sent = at p.tool p.core p.comparators sent

-- the target runs the words of the program; while the flash is programmed there is no software breakpoint
pub record IsReady (p : Plain) : Type 0 where
  pub words : p.words ≡ record { part = p.tool.plan.part; words = p.tool.plan.prog }
  pub core : p.core.part ≡ chip_of p.tool.plan.part
  pub soft : p.tool.mode ≡ programming → p.tool.plan.soft ≡ []

-- the same with another program
abbrev pub with_program : List ℕ → Plain → Plain
with_program prog p = record p {
  tool = record p.tool { plan = record p.tool.plan { prog = prog } };
  words = record p.words { words = prog };
}

-- a program of which n pages from one on are given their words of a wanted flash
abbrev pub given_pages : List ℕ → (page n : ℕ) → List ℕ → List ℕ
given_pages wanted page zero prog = prog
given_pages wanted page (suc n) prog = given_pages wanted (suc page) n (with_page prog page (page_of wanted page))
