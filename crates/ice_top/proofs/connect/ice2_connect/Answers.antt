use Rattle.std.proofs.Common.{refl}
use Rattle.ice_top.specs.Words.{connecting}
use Rattle.ice_top.proofs.Shells.{ConnectsBy-usage}
use Rattle.ice_top.proofs.connect.ice2_connect.Goals as goal

pub returns-in-Usage-clause-ends : goal.returns-in-Usage-clause-ends
returns-in-Usage-clause-ends g c =
    ConnectsBy-usage _ _ _ _ _ _ _ c.not_connected-in-Usage.ensures.status
    (λ port part says. c.in-Usage.ensures.said (connecting port) part says) refl c.not_connected-in-Usage.ensures.noted
    c.not_connected-in-Usage.ensures.link
