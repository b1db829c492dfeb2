-- The forms of lines.
use Rattle.std.specs.Prelude.{ℕ, List, [], ◌∷◌, codes, find, Option}
use Rattle.std.specs.Str.{bytes_eq}
use Rattle.shell_spec.specs.declared.space.Space.{Space}
use Rattle.shell_spec.specs.declared.verb.Verb.{Verb}
use Rattle.shell_spec.specs.declared.verb.Verb.TheVariants.{Sign, Sync, Get, Set, Read, Write, Pc, Break, Clear, Go, To, Step, Stop}
use Rattle.shell_spec.specs.declared.verb.Verb.TheVariants.{Reset, Wait, Quit, Prog, Leave, Erase, Page}
use Rattle.shell_spec.specs.Operands.{any_number, kind_of, readable, writable}
use Rattle.shell_spec.specs.Lines.{Line, sign, sync, get, set, read, write, pc, pc_to, break, break_at, clear, clear_at, go, to, step, stop}
use Rattle.shell_spec.specs.Lines.{reset, wait, quit, prog, leave, erase, erase_at, page}

-- what stands behind the words so far: nothing more, and then the line says this; or an operand of some kind, and more by its value; or
-- either nothing more, or a number
pub data Form : Type 0 where
  ends : Line → Form
  number : (most : ℕ) → (ℕ → Form) → Form
  space : List Space → (Space → Form) → Form
  digits : (least most : ℕ) → (List ℕ → Form) → Form
  ends_or_number : Line → (most : ℕ) → (ℕ → Form) → Form

-- the first word
abbrev pub name_of : Verb → List ℕ
name_of Sign = codes "sign"
name_of Sync = codes "sync"
name_of Get = codes "get"
name_of Set = codes "set"
name_of Read = codes "read"
name_of Write = codes "write"
name_of Pc = codes "pc"
name_of Break = codes "break"
name_of Clear = codes "clear"
name_of Go = codes "go"
name_of To = codes "to"
name_of Step = codes "step"
name_of Stop = codes "stop"
name_of Reset = codes "reset"
name_of Wait = codes "wait"
name_of Quit = codes "quit"
name_of Prog = codes "prog"
name_of Leave = codes "leave"
name_of Erase = codes "erase"
name_of Page = codes "page"

-- what may stand behind it, and what the line then says
abbrev pub form_of : Verb → Form
form_of Sign = ends sign
form_of Sync = ends sync
form_of Get = number 0xff (λ id. ends (get id))
form_of Set = number 0xff (λ id. digits 2 128 (λ value. ends (set id value)))
form_of Read =
    space readable (λ memory. number any_number (λ address. number 0x1000 (λ count. ends (read (kind_of memory) address count))))
form_of Write =
    space writable (λ memory. number any_number (λ address. digits 2 128 (λ bytes. ends (write (kind_of memory) address bytes))))
form_of Pc = ends_or_number pc any_number (λ address. ends (pc_to address))
form_of Break = number any_number (λ address. ends_or_number (break address) 0xff (λ comparator. ends (break_at address comparator)))
form_of Clear = number any_number (λ address. ends_or_number (clear address) 0xff (λ comparator. ends (clear_at address comparator)))
form_of Go = ends go
form_of To = number any_number (λ address. ends (to address))
form_of Step = ends step
form_of Stop = ends stop
form_of Reset = ends reset
form_of Wait = ends wait
form_of Quit = ends quit
form_of Prog = ends prog
form_of Leave = ends leave
form_of Erase = ends_or_number erase any_number (λ address. ends (erase_at address))
form_of Page = number any_number (λ address. digits 256 256 (λ bytes. ends (page address bytes)))

abbrev pub verbs : List Verb
verbs =
    Sign ∷ Sync ∷ Get ∷ Set ∷ Read ∷ Write ∷ Pc ∷ Break ∷ Clear ∷ Go ∷ To ∷ Step ∷ Stop ∷ Reset ∷ Wait ∷ Quit ∷ Prog ∷ Leave ∷ Erase ∷
    Page ∷ []

-- what a word begins, if it begins a line
abbrev pub verb_of : (word : List ℕ) → Option Verb
verb_of word = find (λ verb. bytes_eq (name_of verb) word) verbs
