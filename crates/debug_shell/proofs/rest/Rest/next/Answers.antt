use Rattle.std.proofs.Common.{List, ℕ, ◌<◌, ◌∷◌, ◌+◌, drop, length, sym, ap, ◌∙◌, arith}
use Rattle.std.proofs.lemmas.Grind.{common_steps}
use Rattle.shell_spec.specs.Words.{Word, words_from}
use Rattle.debug_shell.proofs.Wordings.{words_from-word}
use Rattle.debug_shell.proofs.rest.Rest.next.Goals as goal

pub returns-clause-takes : goal.returns-clause-takes
returns-clause-takes c =
    let bytes : List ℕ = c.skip_blanks.new.self.bytes.now in
    let column : ℕ = c.skip_blanks.new.self.column in
    let end : ℕ = c.first_blank.result in
    let some : 0 < length bytes = grind (arith, common_steps) in
    let shown : List ℕ → ℕ → List ℕ → List Word = λ part size behind. record { column = column; bytes = part } ∷ words_from (column + size) behind in
    sym c.skip_blanks.ensures.words
    ∙ words_from-word column bytes end some c.skip_blanks.ensures.ahead c.first_blank.ensures.at c.first_blank.ensures.within
    ∙ ap (λ (part : List ℕ). shown part end (drop end bytes)) (sym c.split_at.ensures.front)
    ∙ ap (λ (size : ℕ). shown c.split_at.result.0.now size (drop end bytes)) (sym c.split_at.ensures.front_len)
    ∙ ap (λ (behind : List ℕ). shown c.split_at.result.0.now (length c.split_at.result.0.now) behind) (sym c.split_at.ensures.back)
