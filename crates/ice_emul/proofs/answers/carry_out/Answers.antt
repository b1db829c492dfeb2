use Rattle.line_spec.specs.Messages.{okay, response_body}
use Rattle.flash_patch.specs.Asking.{seen}
use Rattle.ice_answer.proofs.Doing.{does-send}
use Rattle.ice_emul.proofs.Asking.{commanded, commanded_here}
use Rattle.ice_emul.proofs.answers.carry_out.Goals as goal

pub returns-in-SignOff-clause-asks : goal.returns-in-SignOff-clause-asks
returns-in-SignOff-clause-asks g c =
    commanded (seen g.F.Flash.words g.F.Flash.journal g.F.Flash.faults g.F.Flash.writes) c.args.command.now _ c.args.number _ _ _ c.in-SignOff.is _
    c.sign_off.ensures.asks

pub returns-in-GetSignOn-clause-asks : goal.returns-in-GetSignOn-clause-asks
returns-in-GetSignOn-clause-asks g c =
    commanded_here (seen g.F.Flash.words g.F.Flash.journal g.F.Flash.faults g.F.Flash.writes) c.args.command.now _ c.args.number _ _ _ c.in-GetSignOn.is
    (c.sign_on.ensures c.args.tool.now c.args.job.now.core c.args.job.now.comparators)

pub returns-in-SetParameter-clause-asks : goal.returns-in-SetParameter-clause-asks
returns-in-SetParameter-clause-asks g c =
    commanded_here (seen g.F.Flash.words g.F.Flash.journal g.F.Flash.faults g.F.Flash.writes) c.args.command.now _ c.args.number _ _ _ c.in-SetParameter.is
    (c.set_parameter.ensures.does c.args.job.now.core c.args.job.now.comparators)

pub returns-in-GetParameter-clause-asks : goal.returns-in-GetParameter-clause-asks
returns-in-GetParameter-clause-asks g c =
    commanded_here (seen g.F.Flash.words g.F.Flash.journal g.F.Flash.faults g.F.Flash.writes) c.args.command.now _ c.args.number _ _ _ c.in-GetParameter.is
    (c.get_parameter.ensures c.args.job.now.core c.args.job.now.comparators)

pub returns-in-WriteMemory-clause-asks : goal.returns-in-WriteMemory-clause-asks
returns-in-WriteMemory-clause-asks g c =
    commanded (seen g.F.Flash.words g.F.Flash.journal g.F.Flash.faults g.F.Flash.writes) c.args.command.now _ c.args.number _ _ _ c.in-WriteMemory.is _
    c.write_memory.ensures.asks

pub returns-in-ReadMemory-clause-asks : goal.returns-in-ReadMemory-clause-asks
returns-in-ReadMemory-clause-asks g c =
    commanded_here (seen g.F.Flash.words g.F.Flash.journal g.F.Flash.faults g.F.Flash.writes) c.args.command.now _ c.args.number _ _ _ c.in-ReadMemory.is
    (c.read_memory.ensures c.args.job.now.comparators)

pub returns-in-WritePc-clause-asks : goal.returns-in-WritePc-clause-asks
returns-in-WritePc-clause-asks g c =
    commanded_here (seen g.F.Flash.words g.F.Flash.journal g.F.Flash.faults g.F.Flash.writes) c.args.command.now _ c.args.number _ _ _ c.in-WritePc.is
    (c.write_pc.ensures.does c.args.tool.now c.args.job.now.comparators)

pub returns-in-ReadPc-clause-asks : goal.returns-in-ReadPc-clause-asks
returns-in-ReadPc-clause-asks g c =
    commanded_here (seen g.F.Flash.words g.F.Flash.journal g.F.Flash.faults g.F.Flash.writes) c.args.command.now _ c.args.number _ _ _ c.in-ReadPc.is
    (c.read_pc.ensures c.args.tool.now c.args.job.now.comparators)

pub returns-in-Go-clause-asks : goal.returns-in-Go-clause-asks
returns-in-Go-clause-asks g c =
    commanded (seen g.F.Flash.words g.F.Flash.journal g.F.Flash.faults g.F.Flash.writes) c.args.command.now _ c.args.number _ _ _ c.in-Go.is _
    c.prepare.ensures.asks

pub returns-in-SingleStep-clause-asks : goal.returns-in-SingleStep-clause-asks
returns-in-SingleStep-clause-asks g c =
    commanded (seen g.F.Flash.words g.F.Flash.journal g.F.Flash.faults g.F.Flash.writes) c.args.command.now _ c.args.number _ _ _ c.in-SingleStep.is _
    c.single_step.ensures.asks

pub returns-in-Reset-clause-asks : goal.returns-in-Reset-clause-asks
returns-in-Reset-clause-asks g c =
    commanded_here (seen g.F.Flash.words g.F.Flash.journal g.F.Flash.faults g.F.Flash.writes) c.args.command.now _ c.args.number _ _ _ c.in-Reset.is
    (c.reset.ensures.does c.args.tool.now c.args.job.now.comparators)

pub returns-in-SetDeviceDescriptor-clause-asks : goal.returns-in-SetDeviceDescriptor-clause-asks
returns-in-SetDeviceDescriptor-clause-asks g c =
    commanded_here (seen g.F.Flash.words g.F.Flash.journal g.F.Flash.faults g.F.Flash.writes) c.args.command.now _ c.args.number _ _ _ c.in-SetDeviceDescriptor.is
    (does-send c.args.number (response_body okay) c.args.out.now.items c.okay.new.out.items c.args.tool.now c.args.job.now.core c.args.job.now.comparators c.okay.ensures.sends)

pub returns-in-ErasePage-clause-asks : goal.returns-in-ErasePage-clause-asks
returns-in-ErasePage-clause-asks g c =
    commanded (seen g.F.Flash.words g.F.Flash.journal g.F.Flash.faults g.F.Flash.writes) c.args.command.now _ c.args.number _ _ _ c.in-ErasePage.is _
    c.erase_page.ensures.asks

pub returns-in-GetSync-clause-asks : goal.returns-in-GetSync-clause-asks
returns-in-GetSync-clause-asks g c =
    commanded_here (seen g.F.Flash.words g.F.Flash.journal g.F.Flash.faults g.F.Flash.writes) c.args.command.now _ c.args.number _ _ _ c.in-GetSync.is
    (does-send c.args.number (response_body okay) c.args.out.now.items c.okay-in-GetSync.new.out.items c.args.tool.now c.args.job.now.core c.args.job.now.comparators c.okay-in-GetSync.ensures.sends)

pub returns-in-SetBreak-clause-asks : goal.returns-in-SetBreak-clause-asks
returns-in-SetBreak-clause-asks g c =
    commanded_here (seen g.F.Flash.words g.F.Flash.journal g.F.Flash.faults g.F.Flash.writes) c.args.command.now _ c.args.number _ _ _ c.in-SetBreak.is
    (c.set_break.ensures.does c.args.job.now.core)

pub returns-in-ChipErase-clause-asks : goal.returns-in-ChipErase-clause-asks
returns-in-ChipErase-clause-asks g c =
    commanded (seen g.F.Flash.words g.F.Flash.journal g.F.Flash.faults g.F.Flash.writes) c.args.command.now _ c.args.number _ _ _ c.in-ChipErase.is _
    c.erase_all.ensures.asks

pub returns-in-EnterProg-clause-asks : goal.returns-in-EnterProg-clause-asks
returns-in-EnterProg-clause-asks g c =
    commanded (seen g.F.Flash.words g.F.Flash.journal g.F.Flash.faults g.F.Flash.writes) c.args.command.now _ c.args.number _ _ _ c.in-EnterProg.is _
    c.enter_programming.ensures.asks

pub returns-in-LeaveProg-clause-asks : goal.returns-in-LeaveProg-clause-asks
returns-in-LeaveProg-clause-asks g c =
    commanded_here (seen g.F.Flash.words g.F.Flash.journal g.F.Flash.faults g.F.Flash.writes) c.args.command.now _ c.args.number _ _ _ c.in-LeaveProg.is
    (c.leave_programming.ensures.does c.args.job.now.comparators)

pub returns-in-ClrBreak-clause-asks : goal.returns-in-ClrBreak-clause-asks
returns-in-ClrBreak-clause-asks g c =
    commanded_here (seen g.F.Flash.words g.F.Flash.journal g.F.Flash.faults g.F.Flash.writes) c.args.command.now _ c.args.number _ _ _ c.in-ClrBreak.is
    (c.clear_break.ensures.does c.args.job.now.core)

pub returns-in-RunTo-clause-asks : goal.returns-in-RunTo-clause-asks
returns-in-RunTo-clause-asks g c =
    commanded (seen g.F.Flash.words g.F.Flash.journal g.F.Flash.faults g.F.Flash.writes) c.args.command.now _ c.args.number _ _ _ c.in-RunTo.is _
    c.prepare_to.ensures.asks

pub returns-in-ClearEvents-clause-asks : goal.returns-in-ClearEvents-clause-asks
returns-in-ClearEvents-clause-asks g c =
    commanded_here (seen g.F.Flash.words g.F.Flash.journal g.F.Flash.faults g.F.Flash.writes) c.args.command.now _ c.args.number _ _ _ c.in-ClearEvents.is
    (does-send c.args.number (response_body okay) c.args.out.now.items c.okay-in-ClearEvents.new.out.items c.args.tool.now c.args.job.now.core c.args.job.now.comparators c.okay-in-ClearEvents.ensures.sends)
