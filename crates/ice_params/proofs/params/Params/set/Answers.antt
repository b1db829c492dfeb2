use Rattle.std.proofs.Common.{refl, arith}
use Rattle.line_spec.specs.Parameters.{with_value}
use Rattle.ice_params.specs.Kept.{kept_of}
use Rattle.ice_params.proofs.Refusing.{unwritten}
use Rattle.ice_params.proofs.Writing.{write_at}
use Rattle.ice_params.proofs.params.Params.set.Goals as goal

pub returns-in-3 : goal.returns-in-3
returns-in-3 c = write_at c.self.view_is c.in-3.is c.keep_within.ensures (with_value (kept_of c.self.inside) 3) refl refl refl

pub returns-in-5 : goal.returns-in-5
returns-in-5 c = write_at c.self.view_is c.in-5.is c.keep_within-in-5.ensures (with_value (kept_of c.self.inside) 5) refl refl refl

pub returns-in-7 : goal.returns-in-7
returns-in-7 c = write_at c.self.view_is c.in-7.is c.keep.ensures (with_value (kept_of c.self.inside) 7) refl refl refl

pub returns-in-9 : goal.returns-in-9
returns-in-9 c = write_at c.self.view_is c.in-9.is c.keep_within-in-9.ensures (with_value (kept_of c.self.inside) 9) refl refl refl

pub returns-in-19 : goal.returns-in-19
returns-in-19 c = write_at c.self.view_is c.in-19.is c.keep_within-in-19.ensures (with_value (kept_of c.self.inside) 19) refl refl refl

pub returns-in-20 : goal.returns-in-20
returns-in-20 c = write_at c.self.view_is c.in-20.is c.keep-in-20.ensures (with_value (kept_of c.self.inside) 20) refl refl refl

pub returns-in-21 : goal.returns-in-21
returns-in-21 c = write_at c.self.view_is c.in-21.is c.keep-in-21.ensures (with_value (kept_of c.self.inside) 21) refl refl refl

pub returns-in-27 : goal.returns-in-27
returns-in-27 c = write_at c.self.view_is c.in-27.is c.keep_zeros.ensures (with_value (kept_of c.self.inside) 27) refl c.self.view_is refl

pub returns-in-28 : goal.returns-in-28
returns-in-28 c = write_at c.self.view_is c.in-28.is c.keep-in-28.ensures (with_value (kept_of c.self.inside) 28) refl refl refl

pub returns-in_default : goal.returns-in_default
returns-in_default c = (unwritten c.args.id c.args.value.now c.self.view_is (omega arith), refl)
