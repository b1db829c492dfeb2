-- What the fields of the code's parameters stand for.
use Rattle.std.specs.Prelude.{List, [], ◌∷◌}
use Rattle.line_spec.specs.Parameters.{Parameter, parameters_at_start, with_value}
use Rattle.ice_params.specs.declared.params.Params.TheInside.{Inside}

-- the table with the values that are kept
abbrev pub kept_of : Inside → List Parameter
kept_of params =
    let modes : List Parameter = with_value parameters_at_start 0x03 (params.emulator_mode ∷ []) in
    let rates : List Parameter = with_value modes 0x05 (params.baud_rate ∷ []) in
    let clocks : List Parameter = with_value rates 0x07 params.jtag_clock in
    let timers : List Parameter = with_value clocks 0x09 (params.timers_running ∷ []) in
    let resets : List Parameter = with_value timers 0x13 (params.external_reset ∷ []) in
    let flash : List Parameter = with_value resets 0x14 params.flash_page_size in
    let eeprom : List Parameter = with_value flash 0x15 params.eeprom_page_size in
    with_value eeprom 0x1C params.boot_address
