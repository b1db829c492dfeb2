use Rattle.std.proofs.Common.{refl, arith}
use Rattle.ice_params.proofs.Reading.{read_at}
use Rattle.ice_params.proofs.Refusing.{unread}
use Rattle.ice_params.proofs.params.Params.get.Goals as goal

pub returns-in-1 : goal.returns-in-1
returns-in-1 c = read_at c.args.state c.self.view_is c.in-1.is c.value_of.ensures refl

pub returns-in-2 : goal.returns-in-2
returns-in-2 c = read_at c.args.state c.self.view_is c.in-2.is c.value_of-in-2.ensures refl

pub returns-in-3 : goal.returns-in-3
returns-in-3 c = read_at c.args.state c.self.view_is c.in-3.is c.value_of-in-3.ensures refl

pub returns-in-5 : goal.returns-in-5
returns-in-5 c = read_at c.args.state c.self.view_is c.in-5.is c.value_of-in-5.ensures refl

pub returns-in-6 : goal.returns-in-6
returns-in-6 c = read_at c.args.state c.self.view_is c.in-6.is c.value_of-in-6.ensures refl

pub returns-in-7 : goal.returns-in-7
returns-in-7 c = read_at c.args.state c.self.view_is c.in-7.is c.value_of-in-7.ensures refl

pub returns-in-9 : goal.returns-in-9
returns-in-9 c = read_at c.args.state c.self.view_is c.in-9.is c.value_of-in-9.ensures refl

pub returns-in-19 : goal.returns-in-19
returns-in-19 c = read_at c.args.state c.self.view_is c.in-19.is c.value_of-in-19.ensures refl

pub returns-in-20 : goal.returns-in-20
returns-in-20 c = read_at c.args.state c.self.view_is c.in-20.is c.value_of-in-20.ensures refl

pub returns-in-21 : goal.returns-in-21
returns-in-21 c = read_at c.args.state c.self.view_is c.in-21.is c.value_of-in-21.ensures refl

pub returns-in-27 : goal.returns-in-27
returns-in-27 c = read_at c.args.state c.self.view_is c.in-27.is c.value_of-in-27.ensures refl

pub returns-in-28 : goal.returns-in-28
returns-in-28 c = read_at c.args.state c.self.view_is c.in-28.is c.value_of-in-28.ensures refl

pub returns-in_default : goal.returns-in_default
returns-in_default c = unread c.args.state c.args.id c.self.view_is (omega arith) (omega arith)
