use Rattle.std.proofs.Common.{◌≡◌, true, false, sym, ap, ◌∙◌}
use Rattle.debug_spec.specs.Debugger.{Mode, programming}
use Rattle.debug_spec.specs.Commands.{allowed}
use Rattle.ice_msg.specs.Reading.{asked}
use Rattle.ice_msg.specs.declared.command.Command.{Command}
use Rattle.ice_verify.proofs.DoingWell.{commanded_well, asking_well}
use Rattle.ice_verify.proofs.plain.Plain.carry_out.Goals as goal
use Rattle.ice_verify.proofs.Ready.{ready_plan}

pub returns-in-SignOff-clause-does : goal.returns-in-SignOff-clause-does
returns-in-SignOff-clause-does c =
    commanded_well c.args.command.now _ c.args.number _ _ c.in-SignOff.is c.sign_off.ensures.does

pub returns-in-GetSignOn-clause-does : goal.returns-in-GetSignOn-clause-does
returns-in-GetSignOn-clause-does c =
    asking_well c.args.command.now _ c.args.number _ _ c.in-GetSignOn.is (c.sign_on.ensures c.args.self.now.tool c.args.self.now.core c.args.self.now.comparators)

pub returns-in-SetParameter-clause-does : goal.returns-in-SetParameter-clause-does
returns-in-SetParameter-clause-does c =
    asking_well c.args.command.now _ c.args.number _ _ c.in-SetParameter.is (c.set_parameter.ensures.does c.args.self.now.core c.args.self.now.comparators)

pub returns-in-GetParameter-clause-does : goal.returns-in-GetParameter-clause-does
returns-in-GetParameter-clause-does c =
    asking_well c.args.command.now _ c.args.number _ _ c.in-GetParameter.is (c.get_parameter.ensures c.args.self.now.core c.args.self.now.comparators)

pub returns-in-WriteMemory-clause-does : goal.returns-in-WriteMemory-clause-does
returns-in-WriteMemory-clause-does c =
    commanded_well c.args.command.now _ c.args.number _ _ c.in-WriteMemory.is c.write_memory.ensures.does

pub returns-in-WritePc-clause-does : goal.returns-in-WritePc-clause-does
returns-in-WritePc-clause-does c =
    asking_well c.args.command.now _ c.args.number _ _ c.in-WritePc.is (c.write_pc.ensures.does c.args.self.now.tool c.args.self.now.comparators)

pub returns-in-ReadPc-clause-does : goal.returns-in-ReadPc-clause-does
returns-in-ReadPc-clause-does c =
    asking_well c.args.command.now _ c.args.number _ _ c.in-ReadPc.is (c.read_pc.ensures c.args.self.now.tool c.args.self.now.comparators)

pub returns-in-SingleStep-clause-does : goal.returns-in-SingleStep-clause-does
returns-in-SingleStep-clause-does c =
    commanded_well c.args.command.now _ c.args.number _ _ c.in-SingleStep.is c.single_step.ensures.does

pub returns-in-Reset-clause-does : goal.returns-in-Reset-clause-does
returns-in-Reset-clause-does c =
    asking_well c.args.command.now _ c.args.number _ _ c.in-Reset.is (c.reset.ensures.does c.args.self.now.tool c.args.self.now.comparators)

pub returns-in-SetBreak-clause-does : goal.returns-in-SetBreak-clause-does
returns-in-SetBreak-clause-does c =
    asking_well c.args.command.now _ c.args.number _ _ c.in-SetBreak.is (c.set_break.ensures.does c.args.self.now.core)

pub returns-in-ChipErase-clause-does : goal.returns-in-ChipErase-clause-does
returns-in-ChipErase-clause-does c =
    commanded_well c.args.command.now _ c.args.number _ _ c.in-ChipErase.is c.erase_all.ensures.does

pub returns-in-EnterProg-clause-does : goal.returns-in-EnterProg-clause-does
returns-in-EnterProg-clause-does c =
    commanded_well c.args.command.now _ c.args.number _ _ c.in-EnterProg.is c.enter_programming.ensures.does

pub returns-in-LeaveProg-clause-does : goal.returns-in-LeaveProg-clause-does
returns-in-LeaveProg-clause-does c =
    asking_well c.args.command.now _ c.args.number _ _ c.in-LeaveProg.is (c.leave_programming.ensures.does c.args.self.now.comparators)

pub returns-in-ClrBreak-clause-does : goal.returns-in-ClrBreak-clause-does
returns-in-ClrBreak-clause-does c =
    asking_well c.args.command.now _ c.args.number _ _ c.in-ClrBreak.is (c.clear_break.ensures.does c.args.self.now.core)

pub returns-in-RunTo-clause-does : goal.returns-in-RunTo-clause-does
returns-in-RunTo-clause-does c =
    commanded_well c.args.command.now _ c.args.number _ _ c.in-RunTo.is c.run_to.ensures.does

pub returns-in-SetBreak-clause-ready : goal.returns-in-SetBreak-clause-ready
returns-in-SetBreak-clause-ready c =
    ready_plan c.args.self.now c.set_break.new.self _ c.set_break.ensures.rest c.set_break.ensures.program
    (λ m. not_programming (sym (ap (λ (k : Mode). allowed k (asked c.args.command.now)) m) ∙ c.requires.allowed))
    c.requires.ready
  where
    not_programming : allowed programming (asked c.args.command.now) ≡ true → ⊥
    not_programming h = absurd (apart (sym (ap (λ (k : Command). allowed programming (asked k)) c.in-SetBreak.is) ∙ h))
      where
        apart : false ≡ true → ⊥
        apart k = cc

pub returns-in-ClrBreak-clause-ready : goal.returns-in-ClrBreak-clause-ready
returns-in-ClrBreak-clause-ready c =
    ready_plan c.args.self.now c.clear_break.new.self _ c.clear_break.ensures.rest c.clear_break.ensures.program
    (λ m. not_programming (sym (ap (λ (k : Mode). allowed k (asked c.args.command.now)) m) ∙ c.requires.allowed))
    c.requires.ready
  where
    not_programming : allowed programming (asked c.args.command.now) ≡ true → ⊥
    not_programming h = absurd (apart (sym (ap (λ (k : Command). allowed programming (asked k)) c.in-ClrBreak.is) ∙ h))
      where
        apart : false ≡ true → ⊥
        apart k = cc
