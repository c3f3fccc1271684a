-- The remembered status has the terminal's own address. Definitions only. Assumes nothing.
use Rattle.std.specs.Prelude.{◌≡◌}
use Rattle.bus.specs.Command.{address_of}
use Rattle.terminal.specs.declared.state.Core.{Core}

-- bits 15 to 11 of the remembered status are the station: codes 2 and 18 send it as it is
abbrev pub OwnStatus : Core → Type 0
OwnStatus core = address_of core.status ≡ core.station
