-- Why a call stops: the reasons differ, and a last line is printed where it is over. Assumes
-- nothing.
use mathlib.Core.Path.{◌≡◌, refl, ap}
use mathlib.Core.Logic.{◌≢◌}
use mathlib.Core.Bool.{true}
use Rattle.rules.proofs.Clash.{clash}
use Rattle.lines.specs.Written.{Put}
use Rattle.pieces.specs.declared.stop.Stop.{Stop}
use Rattle.pieces.specs.declared.stop.Stop.TheVariants.{Going, Hungry, Full, Over}
use Rattle.pieces.specs.AsCoded.Window.{stopped, is_going}

-- a last line that is printed
pub over_line : {line line' : Put} → line ≡ line' → stopped line Over ≡ stopped line' Over
over_line is = ap (λ (left : Put). stopped left Over) is

-- a call that has not stopped
pub going_is : (stop : Stop) → is_going stop ≡ true → stop ≡ Going
going_is Going is = refl
going_is Hungry is = absurd (clash (cc))
going_is Full is = absurd (clash (cc))
going_is Over is = absurd (clash (cc))

-- ---- reasons differ

pub going_hungry : Going ≢ Hungry
going_hungry same = clash (cc)

pub going_full : Going ≢ Full
going_full same = clash (cc)

pub going_over : Going ≢ Over
going_over same = clash (cc)

pub hungry_going : Hungry ≢ Going
hungry_going same = clash (cc)

pub hungry_full : Hungry ≢ Full
hungry_full same = clash (cc)

pub hungry_over : Hungry ≢ Over
hungry_over same = clash (cc)

pub full_going : Full ≢ Going
full_going same = clash (cc)

pub full_hungry : Full ≢ Hungry
full_hungry same = clash (cc)

pub full_over : Full ≢ Over
full_over same = clash (cc)

pub over_going : Over ≢ Going
over_going same = clash (cc)

pub over_hungry : Over ≢ Hungry
over_hungry same = clash (cc)

pub over_full : Over ≢ Full
over_full same = clash (cc)
