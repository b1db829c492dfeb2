-- The form of an instruction's text: a mnemonic with its operands.
use Rattle.std.specs.Prelude.{ℕ, List, ◌++◌, codes, decimal}
use Rattle.avr_spec.specs.Text.{reg_text, hex_byte, hex_word, displaced, one, two}
use Rattle.avr_decode.specs.declared.form.Operand.{Operand}
use Rattle.avr_decode.specs.declared.form.Operand.TheVariants.{Register, Byte, Word, Bit, Ahead, Behind, PlusY, PlusZ, X, XInc, XDec, YInc, YDec, Z, ZInc, ZDec}
use Rattle.avr_decode.specs.declared.form.Form.{Form}
use Rattle.avr_decode.specs.declared.form.Form.TheVariants.{Alone, One, Two}

-- the text of an operand
abbrev pub operand_text : Operand → List ℕ
operand_text (Register n) = reg_text n
operand_text (Byte n) = hex_byte n
operand_text (Word n) = hex_word n
operand_text (Bit n) = decimal n
operand_text (Ahead n) = codes ".+" ++ decimal n
operand_text (Behind n) = codes ".-" ++ decimal n
operand_text (PlusY q) = displaced (codes "Y") q
operand_text (PlusZ q) = displaced (codes "Z") q
operand_text X = codes "X"
operand_text XInc = codes "X+"
operand_text XDec = codes "-X"
operand_text YInc = codes "Y+"
operand_text YDec = codes "-Y"
operand_text Z = codes "Z"
operand_text ZInc = codes "Z+"
operand_text ZDec = codes "-Z"

-- the mnemonic of a form
abbrev pub name_of : Form → List ℕ
name_of (Alone name) = name.now
name_of (One name operand) = name.now
name_of (Two name left right) = name.now

-- the text of a form
abbrev pub form_text : Form → List ℕ
form_text (Alone name) = name.now
form_text (One name operand) = one name.now (operand_text operand)
form_text (Two name left right) = two name.now (operand_text left) (operand_text right)
