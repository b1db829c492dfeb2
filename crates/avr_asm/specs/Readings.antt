-- What the code's lines stand for.
use Rattle.std.specs.Prelude.{ℕ, List, Option, option_map, Result, Ok, Err}
use Rattle.std.specs.Borrow.{Bor}
use Rattle.asm_spec.specs.declared.kind.AsmKind.{AsmKind}
use Rattle.asm_spec.specs.Reading.{Line}
use Rattle.avr_asm.specs.declared.readings.Line.{Line as Held}
use Rattle.avr_asm.specs.Orders.{capped_order, order_told}

-- a label
abbrev pub label_told : Option (Bor (List ℕ)) → Option (List ℕ)
label_told label = option_map (λ name. name.now) label

-- what a line says
abbrev pub line_told : Result Held AsmKind → Result Line AsmKind
line_told (Ok line) = Ok (record { label = label_told line.label; order = order_told line.order })
line_told (Err kind) = Err kind

-- what a line says, with a place as it is told
abbrev pub capped_line : Result Line AsmKind → Result Line AsmKind
capped_line (Ok line) = Ok (record { label = line.label; order = capped_order line.order })
capped_line (Err kind) = Err kind
