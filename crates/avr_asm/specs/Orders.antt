-- What the code's orders stand for.
use Rattle.std.specs.Prelude.{ℕ, List, [], ◌∷◌, Option, None, Some, Result, Ok, Err}
use Rattle.asm_spec.specs.declared.kind.AsmKind.{AsmKind}
use Rattle.asm_spec.specs.Reading.{Meant, Item, plain, coded, Order, nothing, origin, put}
use Rattle.avr_asm.specs.declared.orders.Meant.{Meant as HeldMeant}
use Rattle.avr_asm.specs.declared.orders.Meants.{Meants}
use Rattle.avr_asm.specs.declared.orders.Meants.TheVariants.{None as NoMeant, One as OneMeant, Two as TwoMeants}
use Rattle.avr_asm.specs.declared.orders.Item.{Item as HeldItem}
use Rattle.avr_asm.specs.declared.orders.Item.TheVariants.{Plain, Coded}
use Rattle.avr_asm.specs.declared.orders.Order.{Order as HeldOrder}
use Rattle.avr_asm.specs.declared.orders.Order.TheVariants.{Nothing, Origin, Put}
use Rattle.avr_asm.specs.Meanings.{meaning_told, operand_told}
use Rattle.avr_asm.specs.Told.{capped}
use Rattle.asm_spec.specs.Tokens.{number}

-- an operand with its meaning
abbrev pub meant_told : HeldMeant → Meant
meant_told meant = record { operand = operand_told meant.operand; meaning = meaning_told meant.meaning }

abbrev pub meants_told : Meants → List Meant
meants_told NoMeant = []
meants_told (OneMeant meant) = meant_told meant ∷ []
meants_told (TwoMeants one other) = meant_told one ∷ meant_told other ∷ []

-- what is put into flash
abbrev pub item_told : HeldItem → Item
item_told (Plain word) = plain word
item_told (Coded letters meants) = coded letters (meants_told meants)

-- what a statement says
abbrev pub order_told : HeldOrder → Order
order_told Nothing = nothing
order_told (Origin place) = origin place
order_told (Put item) = put (item_told item)

abbrev pub answer_told : Result HeldOrder AsmKind → Result Order AsmKind
answer_told (Ok order) = Ok (order_told order)
answer_told (Err kind) = Err kind

-- what a statement says, with a place as it is told
abbrev pub capped_order : Order → Order
capped_order nothing = nothing
capped_order (origin place) = origin (capped place)
capped_order (put item) = put item

abbrev pub capped_answer : Result Order AsmKind → Result Order AsmKind
capped_answer (Ok order) = Ok (capped_order order)
capped_answer (Err kind) = Err kind

-- the number that is the one operand
abbrev pub only_number : (operands : List (List ℕ)) → Option ℕ
only_number [] = None
only_number (operand ∷ []) = number operand
only_number (operand ∷ another ∷ more) = None

-- what a statement says, or why it says nothing
abbrev pub SaidOrder : Type 0
SaidOrder = Result Order AsmKind

-- what a form says, or else what else it may be
abbrev pub said_or : Option (Result HeldOrder AsmKind) → (otherwise : Result Order AsmKind) → Result Order AsmKind
said_or None otherwise = otherwise
said_or (Some said) otherwise = answer_told said
