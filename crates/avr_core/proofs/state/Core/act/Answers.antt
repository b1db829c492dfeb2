use Rattle.std.proofs.Common.{◌≡◌, ℕ, List, subst, sym}
use Rattle.part_spec.specs.Chip.{Chip}
use Rattle.avr_spec.specs.declared.instruction.Instr.{Instr}
use Rattle.avr_spec.specs.Machine.{Machine}
use Rattle.avr_spec.specs.Kept.{Kept}
use Rattle.avr_core.specs.declared.outcome.Outcome.TheVariants.{Took}
use Rattle.avr_core.specs.Leaves.{IsLeft, effect_at}
use Rattle.avr_core.proofs.state.Core.act.Goals as goal

-- what an instruction does, by another name of it
runs_as : (part : Chip) (flash : List ℕ) (p : Machine) (core : Kept) (cycles : ℕ) (instr i : Instr) → instr ≡ i →
    IsLeft part flash p (effect_at part flash p i) core (Took cycles) → IsLeft part flash p (effect_at part flash p instr) core (Took cycles)
runs_as part flash p core cycles instr i is runs =
    subst (λ (j : Instr). IsLeft part flash p (effect_at part flash p j) core (Took cycles)) (sym is) runs

pub returns-in-Movw : goal.returns-in-Movw
returns-in-Movw g c = λ part p h.
    runs_as part (g.F.Flash.words c.args.flash.now) p c.movw.new.self c.movw.result c.args.instr _ c.in-Movw.is (c.movw.ensures part p h)

pub returns-in-Muls : goal.returns-in-Muls
returns-in-Muls g c = λ part p h.
    runs_as part (g.F.Flash.words c.args.flash.now) p c.muls.new.self c.muls.result c.args.instr _ c.in-Muls.is (c.muls.ensures part p h)

pub returns-in-Mulsu : goal.returns-in-Mulsu
returns-in-Mulsu g c = λ part p h.
    runs_as part (g.F.Flash.words c.args.flash.now) p c.mulsu.new.self c.mulsu.result c.args.instr _ c.in-Mulsu.is (c.mulsu.ensures part p h)

pub returns-in-Fmul : goal.returns-in-Fmul
returns-in-Fmul g c = λ part p h.
    runs_as part (g.F.Flash.words c.args.flash.now) p c.fmul.new.self c.fmul.result c.args.instr _ c.in-Fmul.is (c.fmul.ensures part p h)

pub returns-in-Fmuls : goal.returns-in-Fmuls
returns-in-Fmuls g c = λ part p h.
    runs_as part (g.F.Flash.words c.args.flash.now) p c.fmuls.new.self c.fmuls.result c.args.instr _ c.in-Fmuls.is (c.fmuls.ensures part p h)

pub returns-in-Fmulsu : goal.returns-in-Fmulsu
returns-in-Fmulsu g c = λ part p h.
    runs_as part (g.F.Flash.words c.args.flash.now) p c.fmulsu.new.self c.fmulsu.result c.args.instr _ c.in-Fmulsu.is (c.fmulsu.ensures part p h)

pub returns-in-Cpc : goal.returns-in-Cpc
returns-in-Cpc g c = λ part p h.
    runs_as part (g.F.Flash.words c.args.flash.now) p c.cpc.new.self c.cpc.result c.args.instr _ c.in-Cpc.is (c.cpc.ensures part p h)

pub returns-in-Sbc : goal.returns-in-Sbc
returns-in-Sbc g c = λ part p h.
    runs_as part (g.F.Flash.words c.args.flash.now) p c.sbc.new.self c.sbc.result c.args.instr _ c.in-Sbc.is (c.sbc.ensures part p h)

pub returns-in-Add : goal.returns-in-Add
returns-in-Add g c = λ part p h.
    runs_as part (g.F.Flash.words c.args.flash.now) p c.add.new.self c.add.result c.args.instr _ c.in-Add.is (c.add.ensures part p h)

pub returns-in-Cpse : goal.returns-in-Cpse
returns-in-Cpse g c = λ part p h.
    runs_as part (g.F.Flash.words c.args.flash.now) p c.cpse.new.self c.cpse.result c.args.instr _ c.in-Cpse.is (c.cpse.ensures part p h)

pub returns-in-Cp : goal.returns-in-Cp
returns-in-Cp g c = λ part p h.
    runs_as part (g.F.Flash.words c.args.flash.now) p c.cp.new.self c.cp.result c.args.instr _ c.in-Cp.is (c.cp.ensures part p h)

pub returns-in-Sub : goal.returns-in-Sub
returns-in-Sub g c = λ part p h.
    runs_as part (g.F.Flash.words c.args.flash.now) p c.sub.new.self c.sub.result c.args.instr _ c.in-Sub.is (c.sub.ensures part p h)

pub returns-in-Adc : goal.returns-in-Adc
returns-in-Adc g c = λ part p h.
    runs_as part (g.F.Flash.words c.args.flash.now) p c.adc.new.self c.adc.result c.args.instr _ c.in-Adc.is (c.adc.ensures part p h)

pub returns-in-And : goal.returns-in-And
returns-in-And g c = λ part p h.
    runs_as part (g.F.Flash.words c.args.flash.now) p c.and.new.self c.and.result c.args.instr _ c.in-And.is (c.and.ensures part p h)

pub returns-in-Eor : goal.returns-in-Eor
returns-in-Eor g c = λ part p h.
    runs_as part (g.F.Flash.words c.args.flash.now) p c.eor.new.self c.eor.result c.args.instr _ c.in-Eor.is (c.eor.ensures part p h)

pub returns-in-Or : goal.returns-in-Or
returns-in-Or g c = λ part p h.
    runs_as part (g.F.Flash.words c.args.flash.now) p c.or.new.self c.or.result c.args.instr _ c.in-Or.is (c.or.ensures part p h)

pub returns-in-Mov : goal.returns-in-Mov
returns-in-Mov g c = λ part p h.
    runs_as part (g.F.Flash.words c.args.flash.now) p c.mov.new.self c.mov.result c.args.instr _ c.in-Mov.is (c.mov.ensures part p h)

pub returns-in-Cpi : goal.returns-in-Cpi
returns-in-Cpi g c = λ part p h.
    runs_as part (g.F.Flash.words c.args.flash.now) p c.cpi.new.self c.cpi.result c.args.instr _ c.in-Cpi.is (c.cpi.ensures part p h)

pub returns-in-Sbci : goal.returns-in-Sbci
returns-in-Sbci g c = λ part p h.
    runs_as part (g.F.Flash.words c.args.flash.now) p c.sbci.new.self c.sbci.result c.args.instr _ c.in-Sbci.is (c.sbci.ensures part p h)

pub returns-in-Subi : goal.returns-in-Subi
returns-in-Subi g c = λ part p h.
    runs_as part (g.F.Flash.words c.args.flash.now) p c.subi.new.self c.subi.result c.args.instr _ c.in-Subi.is (c.subi.ensures part p h)

pub returns-in-Ori : goal.returns-in-Ori
returns-in-Ori g c = λ part p h.
    runs_as part (g.F.Flash.words c.args.flash.now) p c.ori.new.self c.ori.result c.args.instr _ c.in-Ori.is (c.ori.ensures part p h)

pub returns-in-Andi : goal.returns-in-Andi
returns-in-Andi g c = λ part p h.
    runs_as part (g.F.Flash.words c.args.flash.now) p c.andi.new.self c.andi.result c.args.instr _ c.in-Andi.is (c.andi.ensures part p h)

pub returns-in-Ldi : goal.returns-in-Ldi
returns-in-Ldi g c = λ part p h.
    runs_as part (g.F.Flash.words c.args.flash.now) p c.ldi.new.self c.ldi.result c.args.instr _ c.in-Ldi.is (c.ldi.ensures part p h)

pub returns-in-Com : goal.returns-in-Com
returns-in-Com g c = λ part p h.
    runs_as part (g.F.Flash.words c.args.flash.now) p c.com.new.self c.com.result c.args.instr _ c.in-Com.is (c.com.ensures part p h)

pub returns-in-Neg : goal.returns-in-Neg
returns-in-Neg g c = λ part p h.
    runs_as part (g.F.Flash.words c.args.flash.now) p c.neg.new.self c.neg.result c.args.instr _ c.in-Neg.is (c.neg.ensures part p h)

pub returns-in-Swap : goal.returns-in-Swap
returns-in-Swap g c = λ part p h.
    runs_as part (g.F.Flash.words c.args.flash.now) p c.swap.new.self c.swap.result c.args.instr _ c.in-Swap.is (c.swap.ensures part p h)

pub returns-in-Inc : goal.returns-in-Inc
returns-in-Inc g c = λ part p h.
    runs_as part (g.F.Flash.words c.args.flash.now) p c.inc.new.self c.inc.result c.args.instr _ c.in-Inc.is (c.inc.ensures part p h)

pub returns-in-Asr : goal.returns-in-Asr
returns-in-Asr g c = λ part p h.
    runs_as part (g.F.Flash.words c.args.flash.now) p c.asr.new.self c.asr.result c.args.instr _ c.in-Asr.is (c.asr.ensures part p h)

pub returns-in-Lsr : goal.returns-in-Lsr
returns-in-Lsr g c = λ part p h.
    runs_as part (g.F.Flash.words c.args.flash.now) p c.lsr.new.self c.lsr.result c.args.instr _ c.in-Lsr.is (c.lsr.ensures part p h)

pub returns-in-Ror : goal.returns-in-Ror
returns-in-Ror g c = λ part p h.
    runs_as part (g.F.Flash.words c.args.flash.now) p c.ror.new.self c.ror.result c.args.instr _ c.in-Ror.is (c.ror.ensures part p h)

pub returns-in-Dec : goal.returns-in-Dec
returns-in-Dec g c = λ part p h.
    runs_as part (g.F.Flash.words c.args.flash.now) p c.dec.new.self c.dec.result c.args.instr _ c.in-Dec.is (c.dec.ensures part p h)

pub returns-in-Bset : goal.returns-in-Bset
returns-in-Bset g c = λ part p h.
    runs_as part (g.F.Flash.words c.args.flash.now) p c.bset.new.self c.bset.result c.args.instr _ c.in-Bset.is (c.bset.ensures part p h)

pub returns-in-Bclr : goal.returns-in-Bclr
returns-in-Bclr g c = λ part p h.
    runs_as part (g.F.Flash.words c.args.flash.now) p c.bclr.new.self c.bclr.result c.args.instr _ c.in-Bclr.is (c.bclr.ensures part p h)

pub returns-in-Call : goal.returns-in-Call
returns-in-Call g c = λ part p h.
    runs_as part (g.F.Flash.words c.args.flash.now) p c.call.new.self c.call.result c.args.instr _ c.in-Call.is (c.call.ensures part p h)

pub returns-in-Adiw : goal.returns-in-Adiw
returns-in-Adiw g c = λ part p h.
    runs_as part (g.F.Flash.words c.args.flash.now) p c.adiw.new.self c.adiw.result c.args.instr _ c.in-Adiw.is (c.adiw.ensures part p h)

pub returns-in-Sbiw : goal.returns-in-Sbiw
returns-in-Sbiw g c = λ part p h.
    runs_as part (g.F.Flash.words c.args.flash.now) p c.sbiw.new.self c.sbiw.result c.args.instr _ c.in-Sbiw.is (c.sbiw.ensures part p h)

pub returns-in-Cbi : goal.returns-in-Cbi
returns-in-Cbi g c = λ part p h.
    runs_as part (g.F.Flash.words c.args.flash.now) p c.cbi.new.self c.cbi.result c.args.instr _ c.in-Cbi.is (c.cbi.ensures part p h)

pub returns-in-Sbic : goal.returns-in-Sbic
returns-in-Sbic g c = λ part p h.
    runs_as part (g.F.Flash.words c.args.flash.now) p c.sbic.new.self c.sbic.result c.args.instr _ c.in-Sbic.is (c.sbic.ensures part p h)

pub returns-in-Sbi : goal.returns-in-Sbi
returns-in-Sbi g c = λ part p h.
    runs_as part (g.F.Flash.words c.args.flash.now) p c.sbi.new.self c.sbi.result c.args.instr _ c.in-Sbi.is (c.sbi.ensures part p h)

pub returns-in-Sbis : goal.returns-in-Sbis
returns-in-Sbis g c = λ part p h.
    runs_as part (g.F.Flash.words c.args.flash.now) p c.sbis.new.self c.sbis.result c.args.instr _ c.in-Sbis.is (c.sbis.ensures part p h)

pub returns-in-Mul : goal.returns-in-Mul
returns-in-Mul g c = λ part p h.
    runs_as part (g.F.Flash.words c.args.flash.now) p c.mul.new.self c.mul.result c.args.instr _ c.in-Mul.is (c.mul.ensures part p h)

pub returns-in-In : goal.returns-in-In
returns-in-In g c = λ part p h.
    runs_as part (g.F.Flash.words c.args.flash.now) p c.in_.new.self c.in_.result c.args.instr _ c.in-In.is (c.in_.ensures part p h)

pub returns-in-Out : goal.returns-in-Out
returns-in-Out g c = λ part p h.
    runs_as part (g.F.Flash.words c.args.flash.now) p c.out_.new.self c.out_.result c.args.instr _ c.in-Out.is (c.out_.ensures part p h)

pub returns-in-Rcall : goal.returns-in-Rcall
returns-in-Rcall g c = λ part p h.
    runs_as part (g.F.Flash.words c.args.flash.now) p c.rcall.new.self c.rcall.result c.args.instr _ c.in-Rcall.is (c.rcall.ensures part p h)

pub returns-in-Bld : goal.returns-in-Bld
returns-in-Bld g c = λ part p h.
    runs_as part (g.F.Flash.words c.args.flash.now) p c.bld.new.self c.bld.result c.args.instr _ c.in-Bld.is (c.bld.ensures part p h)

pub returns-in-Bst : goal.returns-in-Bst
returns-in-Bst g c = λ part p h.
    runs_as part (g.F.Flash.words c.args.flash.now) p c.bst.new.self c.bst.result c.args.instr _ c.in-Bst.is (c.bst.ensures part p h)

pub returns-in-Sbrc : goal.returns-in-Sbrc
returns-in-Sbrc g c = λ part p h.
    runs_as part (g.F.Flash.words c.args.flash.now) p c.sbrc.new.self c.sbrc.result c.args.instr _ c.in-Sbrc.is (c.sbrc.ensures part p h)

pub returns-in-Sbrs : goal.returns-in-Sbrs
returns-in-Sbrs g c = λ part p h.
    runs_as part (g.F.Flash.words c.args.flash.now) p c.sbrs.new.self c.sbrs.result c.args.instr _ c.in-Sbrs.is (c.sbrs.ensures part p h)
