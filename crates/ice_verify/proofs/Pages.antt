-- Pages that are given to a program, one by one.
use Rattle.std.proofs.Common.{◌≡◌, ℕ, zero, suc, ◌+◌, List, sym, ap, ◌∙◌, arith}
use Rattle.part_spec.specs.Pages.{page_of, with_page}
use Rattle.ice_verify.specs.Kept.{WordsState}
use Rattle.ice_verify.specs.declared.plain.Plain.{Plain}
use Rattle.ice_verify.specs.Standing.{IsReady, given_pages, with_program}

-- pages, and then one more
pub given-more : (wanted : List ℕ) (page n at : ℕ) (prog : List ℕ) → at ≡ page + n →
    given_pages wanted page (suc n) prog ≡ with_page (given_pages wanted page n prog) at (page_of wanted at)
given-more wanted page zero at prog e =
    let here : page ≡ at = omega (arith, e) in ap (λ (k : ℕ). with_page prog k (page_of wanted k)) here
given-more wanted page (suc n) at prog e =
    given-more wanted (suc page) n at (with_page prog page (page_of wanted page)) (omega (arith, e))

pub ready-program : (prog : List ℕ) (p : Plain) → IsReady p → IsReady (with_program prog p)
ready-program prog p h = record {
  words = ap (λ (w : WordsState). record w { words = prog }) h.words;
  core = h.core;
  soft = h.soft;
}

-- the next page is given
pub page_given : (wanted : List ℕ) (first n at next : ℕ) (prog words : List ℕ) (start middle after : Plain) → at ≡ first + n → next ≡ suc n →
    words ≡ page_of wanted at → middle ≡ with_program (given_pages wanted first n prog) start →
    after ≡ with_program (with_page middle.tool.plan.prog at words) middle → after ≡ with_program (given_pages wanted first next prog) start
page_given wanted first n at next prog words start middle after place count are m a =
    a ∙ ap (λ (p : Plain). with_program (with_page p.tool.plan.prog at words) p) m ∙
    ap (λ (w : List ℕ). with_program (with_page (given_pages wanted first n prog) at w) start) are ∙
    ap (λ (q : List ℕ). with_program q start) (sym (given-more wanted first n at prog place)) ∙
    ap (λ (k : ℕ). with_program (given_pages wanted first k prog) start) (sym count)
